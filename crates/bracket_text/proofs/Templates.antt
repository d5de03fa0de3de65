-- Reading by a template is right: it succeeds exactly on the template's texts, and gives the numbers back. Two templates
-- whose words differ share no text.
use Prim.Native.Nat.{ℕ, zero, suc, ◌+◌, ◌≤◌, ◌<◌}
use mathlib.Core.Path.{◌≡◌, refl, sym, ◌∙◌, ap, subst}
use mathlib.Core.Bool.{Bool, true, false, not, ◌&&◌, ◌||◌, cond}
use mathlib.Core.List.{List, [], ◌∷◌, ◌++◌}
use mathlib.Core.Option.{Option, none, some}
use native.Mathlib.Numerals.{add-one}
use native.Mathlib.Nat.{add-zero}
use native.Mathlib.Omega.{arith}
use lib.Dec.{T, ltb, eqb}
use lib.ListN.{length, get_or, take, drop, set, length-set, take-append-drop, length-append}
use lib.Seq.{get_or-take, get_or-set_same, drop-drop, take-take, take-set-le, take-suc, take-suc-set, drop-set-lt}
use borrow.Author.Tests.{lt-ltb, ltb-true, eq-eqb, eqb-true, eqb-false}
use Rattle.decimals.specs.Decimal.{decimal, Word}
use Rattle.bracket_text.specs.Text.{Words, is_hole, piece_text, numbers_left, fill}
use Rattle.bracket_text.specs.Scan.{digit_of, number_of, NumberRead, Progress, reading, keep_number, literal, piece, at_end, then_read, matched}
use Rattle.bracket_text.proofs.Laws.{get_d_at}
use Rattle.basics.proofs.Table.{and_left, and_right}
use Rattle.decimals.proofs.Decimal.{decimal_length}
use Rattle.bracket_text.proofs.Numbers.{Stops, number_sound, number_complete}

pub words_set : (ns : List ℕ) (n v : ℕ) → Words ns → Word v → Words (set ns n v)
words_set [] n v h k i = h i
words_set (x ∷ ns) zero v h k zero = k
words_set (x ∷ ns) zero v h k (suc i) = h (suc i)
words_set (x ∷ ns) (suc n) v h k zero = h zero
words_set (x ∷ ns) (suc n) v h k (suc i) = words_set ns n v (λ j. h (suc j)) k i

-- what a reading that succeeds shows
pub record Shown (t : List ℕ) (n : ℕ) (ns l ms : List ℕ) : Type 0 where
  pub same : take n ms ≡ take n ns
  pub five : length ms ≡ 5
  pub words : Words ms
  pub text : fill t (drop n ms) ≡ l

end_of : (ns l ms : List ℕ) → at_end ns l ≡ some ms → (ns ≡ ms) × (l ≡ [])
end_of ns [] ms e = (cc, refl)
end_of ns (x ∷ l) ms e = let z : ◌≡◌ {A = ℕ} 0 1 = cc in absurd (omega arith)

drop-one : (n : ℕ) (ms : List ℕ) → drop 1 (drop n ms) ≡ drop (n + 1) ms
drop-one n ms = drop-drop 1 n ms

-- a number was read and kept, and the rest was read
shown_number : (b : ℕ) (t : List ℕ) (n : ℕ) (ns l ms : List ℕ) (v : ℕ) (rest : List ℕ) → T (is_hole b) → n < 5 → length ns ≡ 5
    → l ≡ decimal v ++ rest → Shown t (n + 1) (set ns n v) rest ms → Shown (b ∷ t) n ns l ms
unfolding fill
shown_number b t n ns l ms v rest hole h five e s =
    let k : n < length ns = omega arith in
    let at : get_or ms n 0 ≡ v =
    sym (get_or-take (n + 1) ms n 0 (omega arith))
    ∙ ap (λ (x : List ℕ). get_or x n 0) s.same
    ∙ get_or-take (n + 1) (set ns n v) n 0 (omega arith)
    ∙ get_or-set_same ns n v 0 k in
    record {
      same =
          sym (take-take n (n + 1) ms (omega arith))
          ∙ ap (take n) s.same
          ∙ take-take n (n + 1) (set ns n v) (omega arith)
          ∙ take-set-le n ns n v (omega arith);
      five = s.five;
      words = s.words;
      text = go (is_hole b) hole (sym e) at;
    }
  where
    go : (x : Bool) → T x → decimal v ++ rest ≡ l → get_or ms n 0 ≡ v
        → piece_text x b (drop n ms) ++ fill t (numbers_left x (drop n ms)) ≡ l
    go true y f at = rw (get_d_at n ms, at, drop-one n ms, s.text) f
    go false y f at = absurd y

shown_end : (n : ℕ) (ns l ms : List ℕ) → length ns ≡ 5 → Words ns → ns ≡ ms → l ≡ [] → Shown [] n ns l ms
unfolding fill
shown_end n ns l ms five w p q =
    record { same = ap (take n) (sym p); five = ap length (sym p) ∙ five; words = subst Words p w; text = sym q }

shown_literal : (b : ℕ) (t : List ℕ) (n : ℕ) (ns l ms : List ℕ) (x : ℕ) → is_hole b ≡ false → x ≡ b → Shown t n ns l ms
    → Shown (b ∷ t) n ns (x ∷ l) ms
unfolding fill
shown_literal b t n ns l ms x h e s =
    record { same = s.same; five = s.five; words = s.words; text = rw (h, e, s.text) }

-- the rest of a reading, after a byte of the template
abbrev rest_of : List ℕ → Progress → Option (List ℕ)
rest_of t r = matched t r.count r.numbers r.rest

-- sound: a line that is read is the template's text with the numbers
pub matched_sound : (t : List ℕ) (n : ℕ) (ns l ms : List ℕ) → length ns ≡ 5 → Words ns → matched t n ns l ≡ some ms
    → Shown t n ns l ms
unfolding matched piece
matched_sound [] n ns l ms five w e = let p = end_of ns l ms e in shown_end n ns l ms five w p.0 p.1
matched_sound (b ∷ t) n ns l ms five w e = go (is_hole b) refl e (matched_sound t)
  where
    Rest : Type 0
    Rest = (n' : ℕ) (ns' l' ms' : List ℕ) → length ns' ≡ 5 → Words ns' → matched t n' ns' l' ≡ some ms' → Shown t n' ns' l' ms'

    number : is_hole b ≡ true → (o : Option NumberRead) → number_of l ≡ o → then_read (keep_number n ns o) (rest_of t) ≡ some ms → Rest
        → Shown (b ∷ t) n ns l ms
    number h none q f rec = let z : ◌≡◌ {A = ℕ} 0 1 = cc in absurd (omega arith)
    number h (some r) q f rec = kept (ltb n 5) refl f
      where
        kept : (x : Bool) → ltb n 5 ≡ x
            → then_read (cond x (reading (n + 1) (set ns n r.value) r.rest) none) (rest_of t) ≡ some ms → Shown (b ∷ t) n ns l ms
        kept false p g = let z : ◌≡◌ {A = ℕ} 0 1 = cc in absurd (omega arith)
        kept true p g =
            let s = number_sound l r.value r.rest q in
            shown_number b t n ns l ms r.value r.rest (subst T (sym h) tt) (ltb-true n 5 p) five s.is
            (rec (n + 1) (set ns n r.value) r.rest ms (length-set ns n r.value ∙ five) (words_set ns n r.value w s.word) g)

    other : is_hole b ≡ false → (l' : List ℕ) → then_read (literal b n ns l') (rest_of t) ≡ some ms → Rest → Shown (b ∷ t) n ns l' ms
    other h [] f rec = let z : ◌≡◌ {A = ℕ} 0 1 = cc in absurd (omega arith)
    other h (x ∷ l') f rec = same (eqb x b) refl f
      where
        same : (y : Bool) → eqb x b ≡ y → then_read (cond y (reading n ns l') none) (rest_of t) ≡ some ms
            → Shown (b ∷ t) n ns (x ∷ l') ms
        same false p g = let z : ◌≡◌ {A = ℕ} 0 1 = cc in absurd (omega arith)
        same true p g = shown_literal b t n ns l' ms x h (eqb-true x b p) (rec n ns l' ms five w g)

    go : (x : Bool) → is_hole b ≡ x → then_read (cond x (keep_number n ns (number_of l)) (literal b n ns l)) (rest_of t) ≡ some ms → Rest
        → Shown (b ∷ t) n ns l ms
    go true h f rec = number h (number_of l) refl f rec
    go false h f rec = other h l f rec

-- the number of `#`s
abbrev pub one_if_lem : Bool → ℕ
one_if_lem true = 1
one_if_lem false = 0

unfoldable pub holes : List ℕ → ℕ
holes [] = 0
holes (b ∷ t) = one_if_lem (is_hole b) + holes t

-- a template's rest begins with a byte that is no `#` and no digit
abbrev pub stops_next : List ℕ → Bool
stops_next [] = true
stops_next (b ∷ t) = not (is_hole b) && ltb 9 (digit_of b)

abbrev pub if_hole : Bool → Bool → Bool
if_hole true x = x
if_hole false x = true

-- no `#` is followed by a digit or by another `#`
unfoldable pub apart : List ℕ → Bool
apart [] = true
apart (b ∷ t) = if_hole (is_hole b) (stops_next t) && apart t

T_true : (a : Bool) → T a → a ≡ true
T_true true h = refl
T_true false h = absurd h

-- then the text of the rest does not begin with a digit
fill_stops : (t ns : List ℕ) → T (stops_next t) → Stops (fill t ns)
unfolding fill
fill_stops [] ns h = tt
fill_stops (b ∷ t) ns h =
    go (is_hole b) (and_left (not (is_hole b)) (ltb 9 (digit_of b)) h) (and_right (not (is_hole b)) (ltb 9 (digit_of b)) h)
  where
    go : (x : Bool) → T (not x) → T (ltb 9 (digit_of b)) → Stops (piece_text x b ns ++ fill t (numbers_left x ns))
    go true y z = absurd y
    go false y z = ltb-true 9 (digit_of b) (T_true _ z)

-- complete: the text of a template with the numbers ms is read, and gives ms
pub matched_complete : (t : List ℕ) (n : ℕ) (ns ms : List ℕ) → length ns ≡ 5 → length ms ≡ 5 → Words ms → T (apart t)
    → n + holes t ≤ 5
    → take n ms ≡ take n ns → drop (n + holes t) ms ≡ drop (n + holes t) ns → matched t n ns (fill t (drop n ms)) ≡ some ms
unfolding matched piece fill holes apart
matched_complete [] n ns ms a b w h k p q =
    ap some (sym (take-append-drop n ns) ∙ ap (λ (x : List ℕ). x ++ drop n ns) (sym p)
    ∙ ap (λ (x : List ℕ). take n ms ++ x) (sym (subst (λ (j : ℕ). drop j ms ≡ drop j ns) (add-zero n) q)) ∙ take-append-drop n ms)
matched_complete (b ∷ t) n ns ms a five w h k p q =
    go (is_hole b) (and_left (if_hole (is_hole b) (stops_next t)) (apart t) h) (and_right (if_hole (is_hole b) (stops_next t)) (apart t) h) k q
    (matched_complete t)
  where
    Rest : Type 0
    Rest = (n' : ℕ) (ns' ms' : List ℕ) → length ns' ≡ 5 → length ms' ≡ 5 → Words ms' → T (apart t) → n' + holes t ≤ 5
        → take n' ms' ≡ take n' ns' → drop (n' + holes t) ms' ≡ drop (n' + holes t) ns' → matched t n' ns' (fill t (drop n' ms')) ≡ some ms'

    go : (x : Bool) → T (if_hole x (stops_next t)) → T (apart t) → n + (one_if_lem x + holes t) ≤ 5
        → drop (n + (one_if_lem x + holes t)) ms ≡ drop (n + (one_if_lem x + holes t)) ns → Rest
        → then_read
        (cond x (keep_number n ns (number_of (piece_text x b (drop n ms) ++ fill t (numbers_left x (drop n ms)))))
        (literal b n ns (piece_text x b (drop n ms) ++ fill t (numbers_left x (drop n ms)))))
        (rest_of t)
        ≡ some ms
    go true s r i j rec =
        let m = get_or ms n 0 in
        let lt : n < 5 = omega arith in
        let e : n + (1 + holes t) ≡ n + 1 + holes t = omega arith in
        let d : drop (n + 1 + holes t) ms ≡ drop (n + 1 + holes t) ns = subst (λ (y : ℕ). drop y ms ≡ drop y ns) e j in
        let tk : take (n + 1) ms ≡ take (n + 1) (set ns n m) =
        ap (λ (y : ℕ). take y ms) (add-one n) ∙ take-suc ms n 0 (omega arith) ∙ ap (λ (y : List ℕ). y ++ (m ∷ [])) p
        ∙ sym (take-suc-set ns n m (omega arith)) ∙ ap (λ (y : ℕ). take y (set ns n m)) (sym (add-one n)) in
        rw (get_d_at n ms, drop-one n ms, number_complete m (fill t (drop (n + 1) ms)) (w n) (fill_stops t (drop (n + 1) ms) s), lt-ltb n 5 lt)
        (rec (n + 1) (set ns n m) ms (length-set ns n m ∙ a) five w r (omega arith) tk (d ∙ sym (drop-set-lt (n + 1 + holes t) ns n m (omega arith))))
    go false s r i j rec =
        let e : n + (0 + holes t) ≡ n + holes t = omega arith in
        rw (eq-eqb b b refl) (rec n ns ms a five w r (omega arith) p (subst (λ (y : ℕ). drop y ms ≡ drop y ns) e j))

-- two templates differ in a byte before the first `#` of either
unfoldable pub differ : List ℕ → List ℕ → Bool
differ [] u = false
differ (a ∷ t) [] = false
differ (a ∷ t) (b ∷ u) = not (is_hole a) && not (is_hole b) && (not (eqb a b) || differ t u)

-- then they share no text
pub differ_apart : (t u ns ms : List ℕ) → T (differ t u) → fill t ns ≡ fill u ms → ⊥
unfolding differ fill
differ_apart [] u ns ms h e = h
differ_apart (a ∷ t) [] ns ms h e = h
differ_apart (a ∷ t) (b ∷ u) ns ms h e = go (is_hole a) (is_hole b) (eqb a b) refl h e (differ_apart t u ns ms)
  where
    go : (x y z : Bool) → eqb a b ≡ z → T (not x && not y && (not z || differ t u))
        → piece_text x a ns ++ fill t (numbers_left x ns) ≡ piece_text y b ms ++ fill u (numbers_left y ms)
        → (T (differ t u) → fill t ns ≡ fill u ms → ⊥) → ⊥
    go true y z q f g rec = f
    go false true z q f g rec = f
    go false false true q f g rec = rec f (cc)
    go false false false q f g rec = let c : a ≡ b = cc in eqb-false a b q c

-- how long a text can be: ten bytes for a number
abbrev pub most_of : Bool → ℕ
most_of true = 10
most_of false = 1

unfoldable pub most : List ℕ → ℕ
most [] = 0
most (b ∷ t) = most_of (is_hole b) + most t

pub fill_length : (t ns : List ℕ) → length (fill t ns) ≤ most t
unfolding fill most
fill_length [] ns = omega arith
fill_length (b ∷ t) ns = go (is_hole b) (fill_length t)
  where
    go : (x : Bool) → ((ms : List ℕ) → length (fill t ms) ≤ most t)
        → length (piece_text x b ns ++ fill t (numbers_left x ns)) ≤ most_of x + most t
    go true rec = rw (length-append) (omega (arith, decimal_length (get_or ns 0 0), rec (drop 1 ns)))
    go false rec = omega (arith, rec ns)
