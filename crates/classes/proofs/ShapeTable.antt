-- The two tables of shapes, and their rule: one test at each of the entries of either, which is computed.
use mathlib.Core.Path.{◌≡◌, refl, sym, ap, ◌∙◌}
use mathlib.Core.List.{List, [], ◌∷◌}
use mathlib.Core.Bool.{Bool, true, false, ◌&&◌}
use mathlib.Core.Logic.{◌⊎◌, inl, inr}
use Prim.Native.Nat.{ℕ, ◌+◌, ◌-◌, ◌<◌, ◌≤◌}
use native.Mathlib.Omega.{arith}
use lib.Dec.{T, eqb, ltb, eqb→eq, ltb→lt}
use lib.ListN.{length, get_or}
use borrow.Author.Tests.{le-ltb, ltb-false}
use Rattle.std.proofs.lemmas.Option.{slice_get-get_or, slice_get_past}
use Rattle.basics.specs.Pick.{pick}
use Rattle.basics.proofs.Arms.{NoneOf, past_all}
use Rattle.basics.proofs.Order.{le_or_lt}
use Rattle.basics.proofs.Table.{every, and_left, and_right, every_at}
use Rattle.classes.specs.declared.SegmentShape.{SegmentShape}
use Rattle.std.specs.Prelude.{slice_get, Some, None}
use Rattle.classes.specs.Class.{first_class, class_count, class_test}
use Rattle.classes.specs.Shape.{segment_size, large_size, blocks_of, shape_for, segment_shape}
use Rattle.classes.proofs.Every.{class_passes, class_passed}

-- a shape from its five numbers
abbrev pub shape : ℕ → ℕ → ℕ → ℕ → ℕ → SegmentShape
shape n l a b c = record { blocks = n; levels = l; words0 = a; words1 = b; words2 = c }

-- the tables, and what stands past their ends
abbrev pub small : List SegmentShape
small =
    shape 2048 3 64 2 1 ∷ shape 1024 2 32 1 0 ∷ shape 512 2 16 1 0 ∷ shape 256 2 8 1 0 ∷ shape 128 2 4 1 0 ∷ shape 64 2 2 1 0
    ∷ shape 32 1 1 0 0 ∷ shape 16 1 1 0 0 ∷ shape 8 1 1 0 0 ∷ shape 4 1 1 0 0 ∷ shape 2 1 1 0 0 ∷ shape 1 1 1 0 0 ∷ []

abbrev pub large : List SegmentShape
large =
    shape 4096 3 128 4 1 ∷ shape 2048 3 64 2 1 ∷ shape 1024 2 32 1 0 ∷ shape 512 2 16 1 0 ∷ shape 256 2 8 1 0 ∷ shape 128 2 4 1 0
    ∷ shape 64 2 2 1 0 ∷ shape 32 1 1 0 0 ∷ shape 16 1 1 0 0 ∷ shape 8 1 1 0 0 ∷ shape 4 1 1 0 0 ∷ shape 2 1 1 0 0 ∷ []

abbrev pub past : SegmentShape
past = shape 0 0 0 0 0

same : SegmentShape → SegmentShape → Bool
same x y =
    eqb x.blocks y.blocks
    && (eqb x.levels y.levels && (eqb x.words0 y.words0 && (eqb x.words1 y.words1 && eqb x.words2 y.words2)))

same_eq : (x y : SegmentShape) → T (same x y) → x ≡ y
unfolding same
same_eq x y t =
    let b = eqb→eq x.blocks y.blocks (and_left (eqb x.blocks y.blocks) _ t) in
    let t1 = and_right (eqb x.blocks y.blocks) _ t in
    let l = eqb→eq x.levels y.levels (and_left (eqb x.levels y.levels) _ t1) in
    let t2 = and_right (eqb x.levels y.levels) _ t1 in
    let w0 = eqb→eq x.words0 y.words0 (and_left (eqb x.words0 y.words0) _ t2) in
    let t3 = and_right (eqb x.words0 y.words0) _ t2 in
    let w1 = eqb→eq x.words1 y.words1 (and_left (eqb x.words1 y.words1) _ t3) in
    let w2 = eqb→eq x.words2 y.words2 (and_right (eqb x.words1 y.words1) _ t3) in
    λ i. record { blocks = b i; levels = l i; words0 = w0 i; words1 = w1 i; words2 = w2 i }

-- the rule at entry k of the table for segments of z bytes: it is the shape of class k + 3
right : ℕ → ℕ → SegmentShape → Bool
unfolding same
right z k x = same x (shape_for (blocks_of z (first_class + k)))

-- the entry of a class that is asked for, where there is one, of a table whose entries all pass
module _ (z : ℕ) (table : List SegmentShape) (long : length table ≡ class_count) (t : T (every (right z) 0 table)) where
  in_table : (k : ℕ) → k < class_count → Some (get_or table k past) ≡ segment_shape z (first_class + k)
  unfolding right
  in_table k l =
      ap Some (same_eq (get_or table k past) (shape_for (blocks_of z (first_class + k))) (every_at (right z) past table t k (omega arith)))
      ∙ sym (rw (class_passes (first_class + k) (omega arith, omega arith)))

  -- an entry that is read by its number
  entry : {class : ℕ} (k : ℕ) → class ≡ first_class + k → T (ltb k class_count) → Some (get_or table k past) ≡ segment_shape z class
  entry k e l = in_table k (ltb→lt k class_count l) ∙ ap (segment_shape z) (sym e)

  shaped : (class : ℕ) → pick (ltb class first_class) None (slice_get table (class - first_class)) ≡ segment_shape z class
  unfolding class_test
  shaped class = go (ltb class first_class) refl (le_or_lt class_count (class - first_class))
    where
      go : (t : Bool) → ltb class first_class ≡ t → (class_count ≤ class - first_class) ⊎ (class - first_class < class_count)
          → pick t None (slice_get table (class - first_class)) ≡ segment_shape z class
      go true q o = rw q refl
      go false q (inl l) = rw (slice_get_past table (class - first_class) (omega arith), q, le-ltb class (first_class + class_count) (omega arith)) refl
      go false q (inr l) =
          let n = ltb-false class first_class q in
          let e : first_class + (class - first_class) ≡ class = omega arith in
          slice_get-get_or table (class - first_class) past (omega arith) ∙ in_table (class - first_class) l ∙ ap (segment_shape z) e

-- both tables pass
pub small_shaped : (class : ℕ) → pick (ltb class first_class) None (slice_get small (class - first_class)) ≡ segment_shape segment_size class
unfolding right same
small_shaped = shaped segment_size small refl tt

pub large_shaped : (class : ℕ) → pick (ltb class first_class) None (slice_get large (class - first_class)) ≡ segment_shape large_size class
unfolding right same
large_shaped = shaped large_size large refl tt

pub small_entry : {class : ℕ} (k : ℕ) → class ≡ first_class + k → T (ltb k class_count) → Some (get_or small k past) ≡ segment_shape segment_size class
unfolding right same
small_entry = entry segment_size small refl tt

pub large_entry : {class : ℕ} (k : ℕ) → class ≡ first_class + k → T (ltb k class_count) → Some (get_or large k past) ≡ segment_shape large_size class
unfolding right same
large_entry = entry large_size large refl tt

-- a number that no arm has
pub no_entry : (z class : ℕ) → NoneOf first_class class_count class → None ≡ segment_shape z class
no_entry z class none = go (class_test class) refl
  where
    go : (t : Bool) → class_test class ≡ t → None ≡ segment_shape z class
    go true q = let k = class_passed class q in let h = past_all first_class class_count class none k.0 in absurd (omega arith)
    go false q = rw q
