-- What a place's own word tells of a segment's next free block, where the place is taken below the most blocks of a segment.
use mathlib.Core.Path.{◌≡◌, ◌∙◌, subst}
use Prim.Native.Nat.{ℕ, ◌/◌, ◌%◌, ◌<◌}
use native.Mathlib.Nat.{mod-lt, mod-eq_of_lt}
use native.Mathlib.Omega.{arith}
use Rattle.std.specs.Prelude.{Option, Some, None}
use Rattle.words.specs.Bits.{bit_at}
use Rattle.classes.specs.Class.{IsClass, first_class}
use Rattle.bitmap_search.specs.Twice.{next_two, OwnPromise}
use Rattle.layout.specs.declared.Geometry.{Geometry}
use Rattle.layout.specs.Geometry.{most_blocks, mark_words}
use Rattle.layout.specs.Mem.{Mem}
use Rattle.layout.proofs.Sizes.{marks_are}
use Rattle.model_laws.proofs.Blocks.{blocks_some}
use Rattle.model.specs.Segments.{bitmap}
use Rattle.bitmaps.specs.Given.{NearIn}
use Rattle.bitmap_search.specs.declared.Two.TheVariants as two

pub first_class_lem : IsClass first_class
first_class_lem = (omega arith, omega arith)

-- at is the place, taken below the most blocks
module _ (g : Geometry) (place at : ℕ) (e : at ≡ place % most_blocks g) where
  below : at < most_blocks g
  below = let l = mod-lt place (blocks_some g first_class first_class_lem) in omega arith

  pub word_below : at / 32 < mark_words g
  word_below = let l = below in let w = marks_are g 1 in omega arith

  pub near_in : (m : Mem) (s : ℕ) (r : Option ℕ) → OwnPromise (bitmap g m s) at r → NearIn g m s place r
  near_in m s (Some b) q =
      let l = word_below in
      let w = marks_are g 1 in
      let h = q.0 in (
        omega arith,
        λ n most under level.
            let same : at ≡ place = e ∙ mod-eq_of_lt (omega arith) in
            subst (λ p. p < n → two.More b ≡ next_two (bit_at (bitmap g m s)) n p) same (λ k. q.1 n k level) under,
      )
  near_in m s None q = tt
