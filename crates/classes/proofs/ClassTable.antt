-- The class table's rule: the entry at k is the class of a record of k fields, by one test that is computed over all of its entries.
use mathlib.Core.Path.{◌≡◌, sym, ◌∙◌, ap}
use mathlib.Core.List.{List, [], ◌∷◌, ◌++◌}
use mathlib.Core.Bool.{Bool, false, ◌&&◌}
use Prim.Native.Nat.{ℕ, ◌+◌, ◌*◌, ◌/◌, ◌%◌, ◌<◌}
use native.Mathlib.Omega.{arith}
use lib.Dec.{T, eqb, ltb, eqb→eq, ltb→lt}
use lib.ListN.{length, get_or, replicate}
use Rattle.basics.proofs.Table.{and_left, and_right, every, every_at}
use Rattle.classes.specs.Class.{SizeClass, class_of}
use Rattle.std.specs.Prelude.{Some, None}

-- the table, 32 rows of 128: two fields to the first class, and then to each class as many as its block has words more than the one before
abbrev pub table : List (List ℕ)
table =
    (replicate 2 3 ++ replicate 2 4 ++ replicate 4 5 ++ replicate 8 6 ++ replicate 16 7 ++ replicate 32 8 ++ replicate 64 9)
    ∷ replicate 128 10 ∷ replicate 2 (replicate 128 11) ++ replicate 4 (replicate 128 12) ++ replicate 8 (replicate 128 13) ++ replicate 16 (replicate 128 14)

-- the entry at k
abbrev pub entry_at : List (List ℕ) → ℕ → ℕ
entry_at t k = get_or (get_or t (k / 128) []) (k % 128) 0

is_class : SizeClass → ℕ → Bool
is_class (Some c) x = eqb c x
is_class None x = false

is_class_eq : (s : SizeClass) (x : ℕ) → T (is_class s x) → Some x ≡ s
unfolding is_class
is_class_eq (Some c) x t = ap Some (sym (eqb→eq c x t))
is_class_eq None x t = absurd t

-- the rule at entry j of a row that begins at b, and at row i
right : ℕ → ℕ → ℕ → Bool
right b j x = is_class (class_of (b + j)) x

right_row : ℕ → List ℕ → Bool
unfolding right
right_row i row = eqb (length row) 128 && every (right (128 * i)) 0 row

pub in_table : (k : ℕ) → k < 4096 → Some (entry_at table k) ≡ class_of k
unfolding right_row right is_class
in_table k l =
    let i = k / 128 in
    let row = get_or table i [] in
    let t = every_at right_row [] table tt i (omega arith) in
    let long = eqb→eq (length row) 128 (and_left (eqb (length row) 128) _ t) in
    let j = k % 128 in
    let e : 128 * i + j ≡ k = omega arith in
    let r = every_at (right (128 * i)) 0 row (and_right (eqb (length row) 128) _ t) j (omega arith) in
    is_class_eq (class_of (128 * i + j)) (entry_at table k) r ∙ ap class_of e

-- the same at an entry that is read by its number
pub entry : {fields k : ℕ} → fields ≡ k → T (ltb k 4096) → Some (entry_at table k) ≡ class_of fields
entry {fields} {k} e l = in_table k (ltb→lt k 4096 l) ∙ ap class_of (sym e)
