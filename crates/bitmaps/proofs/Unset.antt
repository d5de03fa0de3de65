-- A segment none of whose blocks has its bit among the marks: the tree that level 0 becomes is one of free blocks, and none is kept.
use mathlib.Core.Path.{◌≡◌, refl, sym, ap, ◌∙◌}
use mathlib.Core.Bool.{Bool, true, false}
use Prim.Native.Nat.{ℕ}
use native.Mathlib.Omega.{arith}
use lib.Dec.{ltb}
use borrow.Author.Tests.{ltb-true}
use Rattle.basics.specs.Pick.{pick}
use Rattle.words.specs.Bits.{bit_at, ones_among}
use Rattle.words.specs.Levels.{words_for}
use Rattle.words.proofs.Counts.{no_ones}
use Rattle.classes.specs.Class.{IsClass}
use Rattle.bitmap_write.proofs.Copied.{adopted_none}
use Rattle.bitmap_write.proofs.Packed.{packed_bit}
use Rattle.layout.specs.declared.Geometry.{Geometry}
use Rattle.layout.specs.Geometry.{blocks_in}
use Rattle.layout.specs.Mem.{Mem}
use Rattle.model.specs.Segments.{above, bitmap, set_bitmap, marks_in}
use Rattle.model.specs.Records.{header_of, entered}
use Rattle.model.specs.Making.{freshened}
use Rattle.bitmaps.specs.Given.{adopted_as, Unmarked}

module _ (g : Geometry) (m : Mem) (s c : ℕ) (k : IsClass c) (u : Unmarked g m s) where
  abbrev mark_of : ℕ → ℕ
  mark_of b = pick (ltb b (blocks_in g c)) (entered g m (header_of g s c b)) 0

  none_set : (b : ℕ) → mark_of b ≡ 0
  none_set b = go (ltb b (blocks_in g c)) refl
    where
      go : (t : Bool) → ltb b (blocks_in g c) ≡ t → pick t (entered g m (header_of g s c b)) 0 ≡ 0
      go true e = u c b k (ltb-true _ _ e)
      go false e = refl

  pub unset_fresh : freshened g m s c ≡ adopted_as g m s c
  unset_fresh = ap (set_bitmap g m s) (adopted_none mark_of none_set (above g c) (blocks_in g c) (bitmap g m s))

  pub unset_ones : 0 ≡ ones_among (bit_at (marks_in g m s c)) (blocks_in g c)
  unset_ones = sym (no_ones (bit_at (marks_in g m s c)) (blocks_in g c) (λ b h. packed_bit mark_of (λ i. omega (arith, none_set i)) (words_for (blocks_in g c)) b (omega arith) ∙ none_set b))
