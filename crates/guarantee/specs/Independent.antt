-- `Sound` does not depend on what `Summed` is about: two memories that differ only in words which can be built again
-- from the others are sound together. So memory that is not sound stays so however its stacks, its counts and its bitmaps'
-- upper levels are built again. Of a segment's record it reads tag, class, place and owner.
use Rattle.std.specs.Prelude.{◌≡◌, ℕ, ◌<◌}
use Rattle.words.specs.Bits.{bit_at}
use Rattle.layout.specs.declared.Geometry.{Geometry}
use Rattle.layout.specs.Geometry.{blocks_in}
use Rattle.layout.specs.Mem.{Mem, Sizes}
use Rattle.model.specs.Fields.{tag, class, place, owner}
use Rattle.model.specs.Segments.{bitmap}
use Rattle.model.specs.Consistent.{Summed, Sound}
use Rattle.model.specs.Tag as Tag

-- "Level 0 has one bit for each block": bit b of a segment's bitmap is block b's
abbrev pub SameBlocks : Geometry → Mem → Mem → Type 0
SameBlocks g m m' =
    (s b : ℕ) → s < g.segments → (tag m s ≡ Tag.free → ⊥) → b < blocks_in g (class m s)
    → bit_at (bitmap g m' s) b ≡ bit_at (bitmap g m s) b

-- What may differ: every word of the stacks; of the segments' records all but tag, class, place and owner; and of the
-- bitmaps every bit but those of the blocks of segments that are not free, so the bits of upper levels, the bits past a
-- level's end, the words that a class does not use, and the bitmaps of free segments whole.
pub record SameButSummaries (g : Geometry) (m m' : Mem) : Type 0 where
  pub control : m'.control ≡ m.control
  pub mutators : m'.mutators ≡ m.mutators
  pub heap : m'.heap ≡ m.heap
  pub tags : (s : ℕ) → tag m' s ≡ tag m s
  pub classes : (s : ℕ) → class m' s ≡ class m s
  pub places : (s : ℕ) → place m' s ≡ place m s
  pub owners : (s : ℕ) → owner m' s ≡ owner m s
  pub blocks : SameBlocks g m m'
  pub marks : m'.marks ≡ m.marks
  pub trace : m'.trace ≡ m.trace

abbrev pub SoundTogether : Type 0
SoundTogether =
    (g : Geometry) (m m' : Mem) → SameButSummaries g m m' → (Sound g m → Sound g m') × (Sound g m' → Sound g m)

-- that the second half does not say the first: a memory of the right sizes that is sound and not summed
pub record SoundAlone : Type 0 where
  pub geometry : Geometry
  pub memory : Mem
  pub sizes : Sizes geometry memory
  pub sound : Sound geometry memory
  pub unsummed : Summed geometry memory → ⊥
