-- The reader is right: the forms and the kinds are tied, so that a line is read as a form exactly when it is that form's
-- text. No two forms share a text, and the text of a form is read as that form.
use Prim.Native.Nat.{ℕ, zero, suc, ◌≤◌, ◌<◌}
use mathlib.Core.Path.{◌≡◌, refl, sym, ◌∙◌, ap, subst}
use mathlib.Core.Bool.{Bool, true, false, cond}
use mathlib.Core.Logic.{◌↔◌, ◌⊎◌, inl, inr}
use mathlib.Core.List.{List, [], ◌∷◌, ◌++◌}
use mathlib.Core.Option.{Option, none, some}
use native.Mathlib.Decide.{ℕ_discrete}
use native.Mathlib.Nat.{zero-add, eq-or-lt_of_le}
use native.Mathlib.Omega.{arith}
use lib.Dec.{eqb, lit<}
use lib.ListN.{length, get_or, take, drop, length-append, get_or-eq_default}
use lib.Seq.{length-take-le}
use borrow.Author.Tests.{eq-eqb, ne_eqb, eqb-true}
use Rattle.bracket_text.specs.Text.{fill, text, Words}
use Rattle.bracket_text.specs.Fixed.{length_from, trimmed}
use Rattle.bracket_text.specs.Scan.{zeros, matched}
use Rattle.basics.proofs.Table.{Each, each_at}
use Rattle.bracket_text.proofs.Laws.{◌also◌}
use Rattle.bracket_text.proofs.Templates.{holes, fill_length, matched_sound, matched_complete, differ_apart}
use Rattle.bracket_forms.specs.Forms.{spelt, text_of, numbers_of, Fitting, FormRead}
use Rattle.bracket_forms.specs.Kinds.{wide, padded, form_parts, forms, form_at, template_at, reading_of, reading_at, tried_as}
use Rattle.bracket_forms.specs.declared.Form.{Form}
use Rattle.bracket_forms.specs.declared.Form.TheVariants.{Rack, Attach, Spawn, Detach, Make, Load, Store, Copy, Clear, Put, Get, Same, Shape, Check, Leave, Enter, Start, Step}
use Rattle.bracket_forms.specs.declared.Parts.{Parts}
use Rattle.std.specs.Prelude.{Some, None}
use Rattle.std.specs.Prelude.{Option as Maybe}
use Rattle.bracket_forms.proofs.Table.{template_apart, template_holes, template_most, template_told}

words_take : (n : ℕ) (ns : List ℕ) → Words ns → Words (take n ns)
words_take zero ns h i = lit< tt
words_take (suc n) [] h i = lit< tt
words_take (suc n) (x ∷ ns) h zero = h 0
words_take (suc n) (x ∷ ns) h (suc i) = words_take n ns (λ j. h (suc j)) i

words_append : (ns ms : List ℕ) → Words ns → Words ms → Words (ns ++ ms)
words_append [] ms h k i = k i
words_append (x ∷ ns) ms h k zero = h 0
words_append (x ∷ ns) ms h k (suc i) = words_append ns ms (λ j. h (suc j)) k i

words_zeros : Words zeros
words_zeros zero = lit< tt
words_zeros (suc zero) = lit< tt
words_zeros (suc (suc zero)) = lit< tt
words_zeros (suc (suc (suc zero))) = lit< tt
words_zeros (suc (suc (suc (suc zero)))) = lit< tt
words_zeros (suc (suc (suc (suc (suc i))))) = lit< tt

-- a form's numbers, with zeros up to five
padded_length : (f : Form) → length (padded (numbers_of f)) ≡ 5
padded_length f = length-take-le 5 (numbers_of f ++ zeros) (omega (arith, length-append (numbers_of f) zeros))

-- the place of a form among those that the reader tries
abbrev pub kind_of : Form → ℕ
kind_of (Rack s) = 0
kind_of (Attach m) = 1
kind_of (Spawn new parent slot) = 2
kind_of (Detach m) = 3
kind_of (Make m slot links numbers) = 4
kind_of (Load m to slot field) = 5
kind_of (Store m slot field from) = 6
kind_of (Copy m to from) = 7
kind_of (Clear m slot) = 8
kind_of (Put m slot field value) = 9
kind_of (Get m slot field) = 10
kind_of (Same m slot other) = 11
kind_of (Shape m slot) = 12
kind_of (Check m) = 13
kind_of (Leave m) = 14
kind_of (Enter m) = 15
kind_of Start = 16
kind_of Step = 17

-- the last of them stands for every number from its own on
pub last_form : (k a b c d e : ℕ) → 17 ≤ k → form_at k a b c d e ≡ Step
unfolding form_at forms
last_form k a b c d e h = go (eq-or-lt_of_le h)
  where
    go : (17 ≡ k) ⊎ (17 < k) → get_or (forms a b c d e) k Step ≡ Step
    go (inl q) = rw (sym q)
    go (inr l) = get_or-eq_default (forms a b c d e) Step {n = k} l

-- the form of a kind with the first five of these numbers
abbrev form_with : ℕ → List ℕ → Form
form_with k ns = form_at k (get_or ns 0 0) (get_or ns 1 0) (get_or ns 2 0) (get_or ns 3 0) (get_or ns 4 0)

-- what ties a form to its kind
pub record FormTie (f : Form) : Type 0 where
  pub below : kind_of f < 18
  pub whole : trimmed (wide (spelt f).template) ≡ (spelt f).template
  pub own : fill (spelt f).template (padded (numbers_of f)) ≡ text_of f
  pub text : fill (template_at (kind_of f)) (padded (numbers_of f)) ≡ text_of f
  pub ends : drop (holes (template_at (kind_of f))) (padded (numbers_of f)) ≡ drop (holes (template_at (kind_of f))) zeros
  pub at : form_with (kind_of f) (padded (numbers_of f)) ≡ f

pub form_tied : (f : Form) → FormTie f
unfolding template_at form_at forms trimmed length_from fill text text_of holes
form_tied (Rack s) = record { below = lit< tt; whole = refl; own = refl; text = refl; ends = refl; at = refl }
form_tied (Attach m) = record { below = lit< tt; whole = refl; own = refl; text = refl; ends = refl; at = refl }
form_tied (Spawn new parent slot) = record { below = lit< tt; whole = refl; own = refl; text = refl; ends = refl; at = refl }
form_tied (Detach m) = record { below = lit< tt; whole = refl; own = refl; text = refl; ends = refl; at = refl }
form_tied (Make m slot links numbers) = record { below = lit< tt; whole = refl; own = refl; text = refl; ends = refl; at = refl }
form_tied (Load m to slot field) = record { below = lit< tt; whole = refl; own = refl; text = refl; ends = refl; at = refl }
form_tied (Store m slot field from) = record { below = lit< tt; whole = refl; own = refl; text = refl; ends = refl; at = refl }
form_tied (Copy m to from) = record { below = lit< tt; whole = refl; own = refl; text = refl; ends = refl; at = refl }
form_tied (Clear m slot) = record { below = lit< tt; whole = refl; own = refl; text = refl; ends = refl; at = refl }
form_tied (Put m slot field value) = record { below = lit< tt; whole = refl; own = refl; text = refl; ends = refl; at = refl }
form_tied (Get m slot field) = record { below = lit< tt; whole = refl; own = refl; text = refl; ends = refl; at = refl }
form_tied (Same m slot other) = record { below = lit< tt; whole = refl; own = refl; text = refl; ends = refl; at = refl }
form_tied (Shape m slot) = record { below = lit< tt; whole = refl; own = refl; text = refl; ends = refl; at = refl }
form_tied (Check m) = record { below = lit< tt; whole = refl; own = refl; text = refl; ends = refl; at = refl }
form_tied (Leave m) = record { below = lit< tt; whole = refl; own = refl; text = refl; ends = refl; at = refl }
form_tied (Enter m) = record { below = lit< tt; whole = refl; own = refl; text = refl; ends = refl; at = refl }
form_tied Start = record { below = lit< tt; whole = refl; own = refl; text = refl; ends = refl; at = refl }
form_tied Step = record { below = lit< tt; whole = refl; own = refl; text = refl; ends = refl; at = refl }

-- what a line of a kind is, with the numbers ns: a form of that text, and of those numbers
abbrev Meant : List ℕ → ℕ → Maybe Form → Type 0
Meant ns k r = (f : Form) → r ≡ Some f → (fill (template_at k) ns ≡ text_of f) × (n : ℕ) × (numbers_of f ≡ take n ns)

-- a form is read where its own third number is the text's
said : (ns : List ℕ) (k : ℕ) (g : Form) (n third : ℕ)
    → (get_or (padded (numbers_of g)) 2 0 ≡ third → (fill (template_at k) ns ≡ text_of g) × (numbers_of g ≡ take n ns))
    → Meant ns k (reading_of g third)
said ns k g n third h f q = go (eqb (get_or (padded (numbers_of g)) 2 0) third) refl q
  where
    go : (t : Bool) → eqb (get_or (padded (numbers_of g)) 2 0) third ≡ t → cond t (Some g) None ≡ Some f
        → (fill (template_at k) ns ≡ text_of f) × (n : ℕ) × (numbers_of f ≡ take n ns)
    go true t e =
        let p : g ≡ f = cc in
        let r = h (eqb-true _ third t) in
        (r.0 ∙ ap text_of p, n, ap numbers_of (sym p) ∙ r.1)
    go false t e = let z : ◌≡◌ {A = ℕ} 0 1 = cc in absurd (omega arith)

module _ (a b c d e : ℕ) where
  abbrev five : List ℕ
  five = a ∷ b ∷ c ∷ d ∷ e ∷ []

  -- with another third number
  abbrev with_third : ℕ → List ℕ
  with_third x = a ∷ b ∷ x ∷ d ∷ e ∷ []

  all_said : Each (λ k g. Meant five k (reading_of g c)) 0 (forms a b c d e)
  unfolding template_at form_at forms fill text text_of
  all_said =
      said five 0 (Rack a) 1 c (λ p. (refl, refl))
      also said five 1 (Attach a) 1 c (λ p. (refl, refl))
      also said five 2 (Spawn a b c) 3 c (λ p. (refl, refl))
      also said five 3 (Detach a) 1 c (λ p. (refl, refl))
      also said five 4 (Make a b c d) 4 c (λ p. (refl, refl))
      also said five 5 (Load a b d e) 5 c (λ p. (ap (λ (x : ℕ). fill (template_at 5) (with_third x)) (sym p), ap with_third p))
      also said five 6 (Store a b c d) 4 c (λ p. (refl, refl))
      also said five 7 (Copy a b c) 3 c (λ p. (refl, refl))
      also said five 8 (Clear a b) 2 c (λ p. (refl, refl))
      also said five 9 (Put a b c d) 4 c (λ p. (refl, refl))
      also said five 10 (Get a b c) 3 c (λ p. (refl, refl))
      also said five 11 (Same a b c) 3 c (λ p. (refl, refl))
      also said five 12 (Shape a b) 2 c (λ p. (refl, refl))
      also said five 13 (Check a) 1 c (λ p. (refl, refl))
      also said five 14 (Leave a) 1 c (λ p. (refl, refl))
      also said five 15 (Enter a) 1 c (λ p. (refl, refl))
      also said five 16 Start 0 c (λ p. (refl, refl))
      also said five 17 Step 0 c (λ p. (refl, refl))
      also tt

  reading_said : (k : ℕ) → k < 18 → Meant five k (reading_of (form_at k a b c d e) c)
  unfolding form_at forms
  reading_said k h = each_at (λ j g. Meant five j (reading_of g c)) Step (forms a b c d e) all_said k h

five_of : (ns : List ℕ) → length ns ≡ 5 → ns ≡ get_or ns 0 0 ∷ get_or ns 1 0 ∷ get_or ns 2 0 ∷ get_or ns 3 0 ∷ get_or ns 4 0 ∷ []
five_of [] h = absurd (omega arith)
five_of (a ∷ []) h = absurd (omega arith)
five_of (a ∷ b ∷ []) h = absurd (omega arith)
five_of (a ∷ b ∷ c ∷ []) h = absurd (omega arith)
five_of (a ∷ b ∷ c ∷ d ∷ []) h = absurd (omega arith)
five_of (a ∷ b ∷ c ∷ d ∷ e ∷ []) h = refl
five_of (a ∷ b ∷ c ∷ d ∷ e ∷ x ∷ ns) h = absurd (omega arith)

form_back : (f : Form) → reading_at (kind_of f) (padded (numbers_of f)) ≡ Some f
form_back f =
    let third = get_or (padded (numbers_of f)) 2 0 in
    ap (λ (g : Form). reading_of g third) (form_tied f).at ∙ rw (eq-eqb third third refl)

-- the text of a form is matched by its kind, and gives its numbers
form_matched : (f : Form) → Fitting f → matched (template_at (kind_of f)) 0 zeros (text_of f) ≡ some (padded (numbers_of f))
form_matched f w =
    let t = template_at (kind_of f) in
    let h : kind_of f < 18 = (form_tied f).below in
    let m : matched t 0 zeros (fill t (padded (numbers_of f))) ≡ some (padded (numbers_of f)) =
    matched_complete t 0 zeros (padded (numbers_of f)) refl (padded_length f) (words_take 5 (numbers_of f ++ zeros) (words_append (numbers_of f) zeros w words_zeros))
    (template_apart (kind_of f) h) (omega (arith, template_holes (kind_of f) h)) refl
    (subst (λ (n : ℕ). drop n (padded (numbers_of f)) ≡ drop n zeros) (sym (zero-add (holes t))) (form_tied f).ends) in
    subst (λ (x : List ℕ). matched t 0 zeros x ≡ some (padded (numbers_of f))) (form_tied f).text m

-- a line that a kind's text matches
module _ (line : List ℕ) (k : ℕ) (h : k < 18) (ns : List ℕ) (e : matched (template_at k) 0 zeros line ≡ some ns) where
  read_text : fill (template_at k) ns ≡ line
  read_text = (matched_sound (template_at k) 0 zeros line ns refl words_zeros e).text

  read_five : ns ≡ get_or ns 0 0 ∷ get_or ns 1 0 ∷ get_or ns 2 0 ∷ get_or ns 3 0 ∷ get_or ns 4 0 ∷ []
  read_five = five_of ns (matched_sound (template_at k) 0 zeros line ns refl words_zeros e).five

  read_words : Words ns
  read_words = (matched_sound (template_at k) 0 zeros line ns refl words_zeros e).words

  read_said : Meant ns k (reading_at k ns)
  read_said =
      subst (λ (x : List ℕ). Meant x k (reading_at k ns)) (sym read_five)
      (reading_said (get_or ns 0 0) (get_or ns 1 0) (get_or ns 2 0) (get_or ns 3 0) (get_or ns 4 0) k h)

  read_complete : (f : Form) → Fitting f → text_of f ≡ line → reading_at k ns ≡ Some f
  read_complete f w q = go (ℕ_discrete k (kind_of f))
    where
      go : Dec (k ≡ kind_of f) → reading_at k ns ≡ Some f
      go (no n) =
          absurd
          (differ_apart (template_at k) (template_at (kind_of f)) ns (padded (numbers_of f)) (template_told k h (kind_of f) (form_tied f).below n) (read_text ∙ sym q ∙ sym (form_tied f).text))
      go (yes p) =
          let m : matched (template_at (kind_of f)) 0 zeros line ≡ some (padded (numbers_of f)) =
          subst (λ (x : List ℕ). matched (template_at (kind_of f)) 0 zeros x ≡ some (padded (numbers_of f))) q (form_matched f w) in
          let n : matched (template_at (kind_of f)) 0 zeros line ≡ some ns = subst (λ (j : ℕ). matched (template_at j) 0 zeros line ≡ some ns) p e in
          let x : ns ≡ padded (numbers_of f) = cc in
          ap (λ (j : ℕ). reading_at j ns) p ∙ ap (reading_at (kind_of f)) x ∙ form_back f

  pub found : FormRead line (reading_at k ns)
  found =
      record {
        sound = λ f q. sym (read_said f q).0 ∙ read_text;
        short =
            λ f q. subst (λ (x : List ℕ). length x ≤ 80) read_text
            (omega (arith, fill_length (template_at k) ns, template_most k h));
        fits = λ f q. subst Words (sym (read_said f q).2) (words_take (read_said f q).1 ns read_words);
        complete = read_complete;
      }

-- a line that no kind reads as a form
pub unread : (line : List ℕ) → ((k : ℕ) → k < 18 → (f : Form) → tried_as k (matched (template_at k) 0 zeros line) ≡ Some (Some f) → ⊥) → FormRead line None
unread line h =
    record {
      sound = λ f q. absurd (never f q);
      short = λ f q. absurd (never f q);
      fits = λ f q. absurd (never f q);
      complete = λ f w q. absurd (unmatched f w q);
    }
  where
    never : (f : Form) → None ≡ Some f → ⊥
    never f q = let z : ◌≡◌ {A = ℕ} 0 1 = cc in omega arith

    unmatched : (f : Form) → Fitting f → text_of f ≡ line → ⊥
    unmatched f w q =
        let m = subst (λ (x : List ℕ). matched (template_at (kind_of f)) 0 zeros x ≡ some (padded (numbers_of f))) q (form_matched f w) in
        h (kind_of f) (form_tied f).below f (ap (tried_as (kind_of f)) m ∙ ap (λ (x : Maybe Form). Some x) (form_back f))

-- a line that no kind's text matches
pub missed : (line : List ℕ) → ((k : ℕ) → k < 18 → matched (template_at k) 0 zeros line ≡ none) → FormRead line None
missed line h = unread line (λ k l f q. never f (sym (ap (tried_as k) (h k l)) ∙ q))
  where
    never : (f : Form) → None ≡ Some (Some f) → ⊥
    never f q = let z : ◌≡◌ {A = ℕ} 0 1 = cc in omega arith

-- the text of a form is read as that form
pub read_back : (f : Form) → Fitting f → (r : Maybe Form) → FormRead (text_of f) r → r ≡ Some f
read_back f w r h = h.complete f w refl

-- no two forms share a text
pub unambiguous : (f g : Form) → Fitting f → Fitting g → text_of f ≡ text_of g → f ≡ g
unambiguous f g v w e =
    let p : reading_at (kind_of f) (padded (numbers_of f)) ≡ Some g = (found (text_of f) (kind_of f) (form_tied f).below (padded (numbers_of f)) (form_matched f v)).complete g w (sym e) in
    let q : reading_at (kind_of f) (padded (numbers_of f)) ≡ Some f = form_back f in
    cc

-- a line is answered as bad exactly when it is no form's text
pub bad_exactly : (line : List ℕ) (r : Maybe Form) → FormRead line r → (r ≡ None) ↔ ((f : Form) → Fitting f → text_of f ≡ line → ⊥)
bad_exactly line r h = (λ e f w q. let p = h.complete f w q in let z : ◌≡◌ {A = ℕ} 0 1 = cc in omega arith, go r h)
  where
    go : (x : Maybe Form) → FormRead line x → ((f : Form) → Fitting f → text_of f ≡ line → ⊥) → x ≡ None
    go None u n = refl
    go (Some f) u n = absurd (n f (u.fits f refl) (u.sound f refl))

-- a line of more than 80 bytes is no form's text
pub long_is_bad : (line : List ℕ) → 80 < length line → (r : Maybe Form) → FormRead line r → r ≡ None
long_is_bad line h None u = refl
long_is_bad line h (Some f) u = absurd (omega (arith, u.short f refl))

-- the fixed byte string of a kind's form has its template
pub kind_template : (k : ℕ) (f : Form) (p : Parts) → f ≡ form_at k 0 0 0 0 0 → p ≡ form_parts f → trimmed p.0 ≡ template_at k
unfolding template_at
kind_template k f p e q =
    ap (λ (x : Parts). trimmed x.0) q ∙ (form_tied f).whole ∙ ap (λ (g : Form). (spelt g).template) e

-- what `reading_of` learns from the form's own third number
pub third_same : (f : Form) (p : Parts) (third : ℕ) → p ≡ form_parts f → get_or p.1 2 0 ≡ third → Some f ≡ reading_of f third
third_same f p third e q = sym (rw (eq-eqb (get_or (padded (numbers_of f)) 2 0) third (ap (λ (x : Parts). get_or x.1 2 0) (sym e) ∙ q)))

pub third_differs : (f : Form) (p : Parts) (third : ℕ) → p ≡ form_parts f → (get_or p.1 2 0 ≡ third → ⊥) → None ≡ reading_of f third
third_differs f p third e n =
    sym (rw (ne_eqb (get_or (padded (numbers_of f)) 2 0) third (λ q. n (ap (λ (x : Parts). get_or x.1 2 0) e ∙ q))))

-- what `read_kind` learns from the match of a text that is its kind's
module _ (line part : List ℕ) (k : ℕ) (e : part ≡ template_at k) where
  pub kind_text : (ns : List ℕ) (g : Form) (r : Maybe Form) → matched part 0 zeros line ≡ some ns
      → g ≡ form_with k ns → r ≡ reading_of g (get_or ns 2 0)
      → Some r ≡ tried_as k (matched (template_at k) 0 zeros line)
  kind_text ns g r m u v =
      ap (λ (x : Maybe Form). Some x) (v ∙ ap (λ (h : Form). reading_of h (get_or ns 2 0)) u)
      ∙ sym (ap (tried_as k) (ap (λ (t : List ℕ). matched t 0 zeros line) (sym e) ∙ m))

  pub kind_other : matched part 0 zeros line ≡ none → None ≡ tried_as k (matched (template_at k) 0 zeros line)
  kind_other m = sym (ap (tried_as k) (ap (λ (t : List ℕ). matched t 0 zeros line) (sym e) ∙ m))

-- what `read_form` learns from `read_kind`
pub text_found : (line : List ℕ) (k : ℕ) (r : Maybe Form) → k < 18 → Some r ≡ tried_as k (matched (template_at k) 0 zeros line)
    → FormRead line r
text_found line k r h e = go (matched (template_at k) 0 zeros line) refl e
  where
    go : (o : Option (List ℕ)) → matched (template_at k) 0 zeros line ≡ o → Some r ≡ tried_as k o → FormRead line r
    go none q f = let z : ◌≡◌ {A = ℕ} 0 1 = cc in absurd (omega arith)
    go (some ns) q f = let p : reading_at k ns ≡ r = cc in subst (FormRead line) p (found line k h ns q)

pub other_missed : (k : ℕ) (o : Option (List ℕ)) → None ≡ tried_as k o → o ≡ none
other_missed k none e = refl
other_missed k (some ns) e = let z : ◌≡◌ {A = ℕ} 0 1 = cc in absurd (omega arith)
