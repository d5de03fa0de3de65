-- What the writers leave in a buffer, step by step.
use Prim.Native.Nat.{ℕ, ◌+◌, ◌≤◌, ◌<◌}
use mathlib.Core.Path.{◌≡◌, refl, sym, ◌∙◌, ap}
use mathlib.Core.List.{List, [], ◌∷◌, ◌++◌}
use native.Mathlib.Omega.{arith}
use mathlib.Core.Bool.{Bool, true, false}
use native.Mathlib.Nat.{add-zero}
use lib.ListN.{length, get_or, drop, set, length-append, drop_of_length-le}
use lib.Seq.{drop-drop, length-take-le}
use borrow.Author.Tests.{eq-eqb, ne_eqb}
use Rattle.decimals.specs.Decimal.{decimal}
use Rattle.decimals.specs.Placed.{placed}
use Rattle.bracket_text.specs.Text.{is_hole, piece_text, numbers_left, numbers_taken, fill, Written}
use Rattle.bracket_text.specs.Pen.{Put}
use Rattle.bracket_text.specs.declared.Pen.{Pen}
use Rattle.decimals.proofs.Placed.{placed_nil, placed_one, placed_front, placed_append}
use Rattle.bracket_text.proofs.Laws.{drop-step, get_d_at}

-- one byte of a template
module _ (b n : ℕ) (ns : List ℕ) where
  pub hole_text : b ≡ 35 → piece_text (is_hole b) b (drop n ns) ≡ decimal (get_or ns n 0)
  hole_text h = rw (eq-eqb b 35 h) (ap decimal (get_d_at n ns))

  pub byte_text : (b ≡ 35 → ⊥) → piece_text (is_hole b) b (drop n ns) ≡ b ∷ []
  byte_text h = rw (ne_eqb b 35 h)

  pub hole_taken : b ≡ 35 → numbers_taken (is_hole b) ≡ 1
  hole_taken h = rw (eq-eqb b 35 h)

  pub byte_taken : (b ≡ 35 → ⊥) → numbers_taken (is_hole b) ≡ 0
  byte_taken h = rw (ne_eqb b 35 h)

module _ (l ns : List ℕ) (p : Pen) (b : ℕ) where
  pub put_hole : (v r : ℕ) (m : List ℕ) → b ≡ 35 → v ≡ get_or ns p.count 0 → r ≡ p.at + length (decimal v)
      → m ≡ placed l p.at (decimal v)
      → Put l (piece_text (is_hole b) b (drop p.count ns)) (numbers_taken (is_hole b)) p (record { at = r; count = p.count + 1 }) m
  put_hole v r m h e f g =
      let t : piece_text (is_hole b) b (drop p.count ns) ≡ decimal v = hole_text b p.count ns h ∙ ap decimal (sym e) in
      record {
        at = f ∙ ap (λ (x : List ℕ). p.at + length x) (sym t);
        count = ap (λ (k : ℕ). p.count + k) (sym (hole_taken b p.count ns h));
        buffer = g ∙ ap (placed l p.at) (sym t);
      }

  pub put_byte : (b ≡ 35 → ⊥) → p.at < length l
      → Put l (piece_text (is_hole b) b (drop p.count ns)) (numbers_taken (is_hole b)) p (record {
        at =
            p.at + 1;
        count = p.count;
      }) (set l p.at b)
  put_byte h k =
      let t = byte_text b p.count ns h in
      record {
        at = ap (λ (x : List ℕ). p.at + length x) (sym t);
        count = omega (arith, byte_taken b p.count ns h);
        buffer = placed_one l p.at b k ∙ ap (placed l p.at) (sym t);
      }

-- the rest of a template's text, at a place: the text of the byte there, and of the rest after it
left_drop : (x : Bool) (n : ℕ) (ns : List ℕ) → numbers_left x (drop n ns) ≡ drop (n + numbers_taken x) ns
left_drop true n ns = drop-drop 1 n ns
left_drop false n ns = ap (λ (k : ℕ). drop k ns) (sym (add-zero n))

pub fill_step : (t ns : List ℕ) (i n : ℕ) → i < length t
    → fill (drop i t) (drop n ns) ≡ piece_text (is_hole (get_or t i 0)) (get_or t i 0) (drop n ns) ++ fill (drop (i + 1) t) (drop (n + numbers_taken (is_hole (get_or t i 0))) ns)
unfolding fill
fill_step t ns i n h = rw (drop-step t i h, left_drop (is_hole (get_or t i 0)) n ns)

fill_end : (t ns : List ℕ) (i n : ℕ) → length t ≤ i → fill (drop i t) (drop n ns) ≡ []
unfolding fill
fill_end t ns i n h = rw (drop_of_length-le t h)

-- what holds while a template is written: with the rest of the text placed at the pen, the whole text is placed
pub record Writes (t ns before after : List ℕ) (p : Pen) (i : ℕ) : Type 0 where
  pub some : i ≤ length t
  pub count : p.count ≤ i
  pub room : p.at + length (fill (drop i t) (drop p.count ns)) ≡ length (fill t ns)
  pub same : length after ≡ length before
  pub rest : placed after p.at (fill (drop i t) (drop p.count ns)) ≡ placed before 0 (fill t ns)

pub writes_none : (t ns l : List ℕ) → Writes t ns l l (record { at = 0; count = 0 }) 0
writes_none t ns l = record { some = omega arith; count = omega arith; room = omega arith; same = refl; rest = refl }

module _ (t ns l m : List ℕ) (p : Pen) (i : ℕ) (w : Writes t ns l m p i) (fits : length (fill t ns) ≤ length l) where
  pub writes_room : i < length t → p.at + length (piece_text (is_hole (get_or t i 0)) (get_or t i 0) (drop p.count ns)) ≤ length m
  writes_room h =
      omega (
        arith,
        w.room,
        w.same,
        ap length (fill_step t ns i p.count h)
            ∙ length-append (piece_text (is_hole (get_or t i 0)) (get_or t i 0) (drop p.count ns)) (fill (drop (i + 1) t) (drop (p.count + numbers_taken (is_hole (get_or t i 0))) ns)),
      )

  pub writes_more : i < length t → (r : Pen) (m' : List ℕ) → length m' ≡ length m
      → Put m (piece_text (is_hole (get_or t i 0)) (get_or t i 0) (drop p.count ns)) (numbers_taken (is_hole (get_or t i 0))) p r m' → Writes t ns l m' r (i + 1)
  writes_more h r m' e u =
      let b = get_or t i 0 in
      let x = piece_text (is_hole b) b (drop p.count ns) in
      let y = fill (drop (i + 1) t) (drop (p.count + numbers_taken (is_hole b)) ns) in
      let s : fill (drop i t) (drop p.count ns) ≡ x ++ y = fill_step t ns i p.count h in
      let z : fill (drop (i + 1) t) (drop r.count ns) ≡ y = ap (λ (k : ℕ). fill (drop (i + 1) t) (drop k ns)) u.count in
      record {
        some = omega arith;
        count = omega (arith, u.count, w.count, taken_one (is_hole b));
        room = omega (arith, w.room, u.at, ap length s ∙ length-append x y, ap length z);
        same = e ∙ w.same;
        rest =
            ap (placed m' r.at) z
            ∙ ap (λ (k : ℕ). placed m' k y) u.at
            ∙ ap (λ (q : List ℕ). placed q (p.at + length x) y) u.buffer
            ∙ sym (placed_append m p.at x (writes_room h) y)
            ∙ ap (placed m p.at) (sym s)
            ∙ w.rest;
      }
    where
      taken_one : (q : Bool) → numbers_taken q ≤ 1
      taken_one true = omega arith
      taken_one false = omega arith

  pub writes_all : length t ≤ i → Written (fill t ns) l p.at m
  writes_all h =
      let e = fill_end t ns i p.count h in
      let says : p.at ≡ length (fill t ns) = omega (arith, w.room, ap length e) in
      let inside : p.at ≤ length m = omega (arith, w.same) in
      record {
        says = says;
        front = sym (placed_nil m p.at) ∙ ap (placed m p.at) (sym e) ∙ w.rest ∙ placed_front l (fill t ns);
        inside = inside;
        counted = sym (length-take-le p.at m inside);
      }
