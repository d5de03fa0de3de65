-- Laws of lists: the rest at a place, and two lists compared.
use Prim.Native.Nat.{ℕ, ◌+◌, ◌<◌}
use mathlib.Core.Path.{◌≡◌, refl, ◌∙◌, ap}
use mathlib.Core.List.{List, [], ◌∷◌}
use mathlib.Core.Bool.{Bool, true, false, ◌&&◌}
use native.Mathlib.Nat.{add-zero}
use Rattle.basics.proofs.Table.{and_left, and_right}
use lib.Dec.{T, eqb, eqb→eq}
use native.Mathlib.Numerals.{add-one}
use lib.ListN.{length, get_or, drop}
use lib.Seq.{drop-cons, get_or-drop}

-- the rest of a list at a place is what stands there and the rest after it
pub drop-step : (l : List ℕ) (i : ℕ) → i < length l → drop i l ≡ get_or l i 0 ∷ drop (i + 1) l
drop-step l i h = rw (add-one, drop-cons l i 0)

-- the first of the rest at a place
pub get_d_at : (n : ℕ) (l : List ℕ) → get_or (drop n l) 0 0 ≡ get_or l n 0
get_d_at n l = get_or-drop n l 0 0 ∙ ap (λ (k : ℕ). get_or l k 0) (add-zero n)

-- two lists are the same, as a test
abbrev pub same_bytes : List ℕ → List ℕ → Bool
same_bytes [] [] = true
same_bytes [] (y ∷ ys) = false
same_bytes (x ∷ xs) [] = false
same_bytes (x ∷ xs) (y ∷ ys) = eqb x y && same_bytes xs ys

pub same_is : (xs ys : List ℕ) → T (same_bytes xs ys) → xs ≡ ys
same_is [] [] h = refl
same_is [] (y ∷ ys) h = absurd h
same_is (x ∷ xs) [] h = absurd h
same_is (x ∷ xs) (y ∷ ys) h =
    let e : x ≡ y = eqb→eq x y (and_left (eqb x y) (same_bytes xs ys) h) in
    let f : xs ≡ ys = same_is xs ys (and_right (eqb x y) (same_bytes xs ys) h) in
    cc

-- a proof for the first entry of a table, and those for the others
infixr 2 ◌also◌
abbrev pub ◌also◌ : {A B : Type 0} → A → B → A × B
a also b = (a, b)
