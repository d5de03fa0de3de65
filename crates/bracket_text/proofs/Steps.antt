-- One step of reading at a place of a line, for each way that a step can go: what `digits_on` and `number_of` make of the rest
-- of the line there.
use Prim.Native.Nat.{ℕ, ◌+◌, ◌*◌, ◌≤◌, ◌<◌}
use mathlib.Core.Path.{◌≡◌, refl, ◌∙◌, subst}
use mathlib.Core.Bool.{Bool, true, false}
use mathlib.Core.List.{List}
use mathlib.Core.Option.{Option, none}
use native.Mathlib.Omega.{arith}
use lib.Dec.{eqb}
use lib.ListN.{length, get_or, drop, set, drop_of_length-le}
use lib.Arith.{lt_of_le-ne}
use borrow.Author.Tests.{lt-ltb, le-ltb, eq-eqb, ne_eqb, eqb-true, eqb-false}
use Rattle.bracket_text.specs.Scan.{digit_of, digits_on, number_of, numbered, NumberRead, Reads, Progress, reading, piece, PieceRead, matched, at_end, Matches}
use Rattle.std.specs.Prelude.{Some, None}
use Rattle.std.specs.Prelude.{Option as Maybe}
use Rattle.std.specs.Bool.{then_some}
use Rattle.bracket_text.specs.declared.NumbersRead.{NumbersRead}
use Rattle.bracket_text.proofs.Laws.{drop-step}

module _ (l : List ℕ) (i : ℕ) where
  pub digits_end : (v : ℕ) → length l ≤ i → digits_on v (drop i l) ≡ numbered v (drop (length l) l)
  unfolding digits_on
  digits_end v h = rw (drop_of_length-le l h, drop_of_length-le l {i = length l} (omega arith))

  pub number_end : length l ≤ i → number_of (drop i l) ≡ none
  unfolding number_of
  number_end h = rw (drop_of_length-le l h)

  module _ (d : ℕ) (h : i < length l) (e : d ≡ digit_of (get_or l i 0)) where
    pub digits_stop : (v : ℕ) → 9 < d → digits_on v (drop i l) ≡ numbered v (drop i l)
    unfolding digits_on
    digits_stop v s = rw (drop-step l i h, ← e, le-ltb d 10 (omega arith))

    pub digits_over : (v : ℕ) → d ≤ 9 → 4294967295 < v * 10 + d → digits_on v (drop i l) ≡ none
    unfolding digits_on
    digits_over v s t = rw (drop-step l i h, ← e, lt-ltb d 10 (omega arith), le-ltb (v * 10 + d) 4294967296 (omega arith))

    pub digits_more : (v : ℕ) → d ≤ 9 → v * 10 + d ≤ 4294967295 → digits_on v (drop i l) ≡ digits_on (v * 10 + d) (drop (i + 1) l)
    unfolding digits_on
    digits_more v s t = rw (drop-step l i h, ← e, lt-ltb d 10 (omega arith), lt-ltb (v * 10 + d) 4294967296 (omega arith))

    pub number_none : 9 < d → number_of (drop i l) ≡ none
    unfolding number_of
    number_none s = rw (drop-step l i h, ← e, le-ltb d 10 (omega arith))

    pub number_zero : d ≡ 0 → number_of (drop i l) ≡ numbered 0 (drop (i + 1) l)
    unfolding number_of
    number_zero z = rw (drop-step l i h, ← e, lt-ltb d 10 (omega arith), eq-eqb d 0 z)

    pub number_more : d ≤ 9 → (d ≡ 0 → ⊥) → number_of (drop i l) ≡ digits_on d (drop (i + 1) l)
    unfolding number_of
    number_more s z = rw (drop-step l i h, ← e, lt-ltb d 10 (omega arith), ne_eqb d 0 z)

-- a result that is known: what `Reads` says of it
pub reads_value : (line : List ℕ) (o : Option NumberRead) (r : Maybe (ℕ × ℕ)) {v n : ℕ} → Reads line o r → r ≡ Some (v, n)
    → (o ≡ numbered v (drop n line)) × (n ≤ length line)
reads_value line o r h e = subst (λ (x : Maybe (ℕ × ℕ)). Reads line o x) e h

pub reads_nothing : (line : List ℕ) (o : Option NumberRead) (r : Maybe (ℕ × ℕ)) → Reads line o r → r ≡ None → o ≡ none
reads_nothing line o r h e = subst (λ (x : Maybe (ℕ × ℕ)). Reads line o x) e h

-- a byte of a template
module _ (b n : ℕ) (ns : List ℕ) where
  module _ (l : List ℕ) (h : b ≡ 35) where
    pub piece_kept : (v : ℕ) (rest : List ℕ) → number_of l ≡ numbered v rest → n < 5
        → piece b n ns l ≡ reading (n + 1) (set ns n v) rest
    unfolding piece
    piece_kept v rest e f = rw (eq-eqb b 35 h, e, lt-ltb n 5 f)

    pub piece_full : (v : ℕ) (rest : List ℕ) → number_of l ≡ numbered v rest → 5 ≤ n → piece b n ns l ≡ none
    unfolding piece
    piece_full v rest e f = rw (eq-eqb b 35 h, e, le-ltb n 5 f)

    pub piece_no_number : number_of l ≡ none → piece b n ns l ≡ none
    unfolding piece
    piece_no_number e = rw (eq-eqb b 35 h, e)

  module _ (l : List ℕ) (i : ℕ) (h : b ≡ 35 → ⊥) where
    pub piece_literal : i < length l → get_or l i 0 ≡ b → piece b n ns (drop i l) ≡ reading n ns (drop (i + 1) l)
    unfolding piece
    piece_literal k e = rw (ne_eqb b 35 h, drop-step l i k, eq-eqb (get_or l i 0) b e)

    pub piece_other : i < length l → (get_or l i 0 ≡ b → ⊥) → piece b n ns (drop i l) ≡ none
    unfolding piece
    piece_other k e = rw (ne_eqb b 35 h, drop-step l i k, ne_eqb (get_or l i 0) b e)

    pub piece_end : length l ≤ i → piece b n ns (drop i l) ≡ none
    unfolding piece
    piece_end k = rw (ne_eqb b 35 h, drop_of_length-le l k)

-- a place that is known: what `PieceRead` says of it
pub piece_read_at : (line : List ℕ) (o : Option Progress) (r : Maybe ℕ) (ns : NumbersRead) {i : ℕ} → PieceRead line o r ns → r ≡ Some i
    → (o ≡ reading ns.count ns.values (drop i line)) × (i ≤ length line) × (ns.count ≤ 5)
piece_read_at line o r ns h e = subst (λ (x : Maybe ℕ). PieceRead line o x ns) e h

pub piece_read_astray : (line : List ℕ) (o : Option Progress) (r : Maybe ℕ) (ns : NumbersRead) → PieceRead line o r ns → r ≡ None → o ≡ none
piece_read_astray line o r ns h e = subst (λ (x : Maybe ℕ). PieceRead line o x ns) e h

-- the rest of a template at a place
module _ (t : List ℕ) (i n : ℕ) (ns l : List ℕ) where
  pub matched_more : i < length t → (n' : ℕ) (ns' l' : List ℕ) → piece (get_or t i 0) n ns l ≡ reading n' ns' l'
      → matched (drop i t) n ns l ≡ matched (drop (i + 1) t) n' ns' l'
  unfolding matched
  matched_more h n' ns' l' e = rw (drop-step t i h, e)

  pub matched_astray : i < length t → piece (get_or t i 0) n ns l ≡ none → matched (drop i t) n ns l ≡ none
  unfolding matched
  matched_astray h e = rw (drop-step t i h, e)

  pub matched_end : length t ≤ i → matched (drop i t) n ns l ≡ at_end ns l
  unfolding matched
  matched_end h = rw (drop_of_length-le t h)

-- a template is done: the line must be
pub ended : (line ns : List ℕ) (at : ℕ) (o : Option (List ℕ)) → at ≤ length line → o ≡ at_end ns (drop at line)
    → Matches o (then_some (eqb at (length line)) ns)
ended line ns at o h e = go (eqb at (length line)) refl
  where
    go : (x : Bool) → eqb at (length line) ≡ x → Matches o (then_some x ns)
    go true q = e ∙ rw (drop_of_length-le line {i = at} (omega (arith, eqb-true at (length line) q)))
    go false q = e ∙ rw (drop-step line at (lt_of_le-ne h (eqb-false at (length line) q)))
