-- The two sizes of a segment beside each other. Document 02, No. 6: "Each call names 16 or 32 KiB for the whole heap beside the segment count,
-- and slice lengths follow from both .. Each class has twice the blocks it has at 16 KiB".
use Rattle.std.specs.Prelude.{◌≡◌, ◌⊎◌, true, false, ℕ, ◌+◌, ◌*◌, ◌≤◌}
use Rattle.classes.specs.Class.{IsClass}
use Rattle.layout.specs.declared.Geometry.{Geometry}
use Rattle.layout.specs.Geometry.{small_kib, large_kib, max_segments, blocks_in, len, total, scratch_words, wrong_size}
use Rattle.layout.specs.Region as Region

-- whatever the counts of segments are
abbrev pub TwiceTheBlocks : Type 0
TwiceTheBlocks = (g h : Geometry) (c : ℕ) → g.kib ≡ large_kib → h.kib ≡ small_kib → IsClass c → blocks_in g c ≡ 2 * blocks_in h c

-- the lengths of the memory, of the examination's scratch and of the output of the look at the segments' states, as callers compute them
pub record Lengths (g : Geometry) (each block : ℕ) : Type 0 where
  pub memory : total g ≡ each * g.segments + 1053
  pub scratch : scratch_words g ≡ block * g.segments
  pub states : len g Region.segments ≡ 6 * g.segments

abbrev pub LengthsAre : Type 0
LengthsAre = (g : Geometry) → (g.kib ≡ small_kib → Lengths g 6294 2176) × (g.kib ≡ large_kib → Lengths g 12568 4352)

-- for each count and each of the two sizes there is a length that is not refused
abbrev pub OpensAtEither : Type 0
OpensAtEither = (g : Geometry) → 1 ≤ g.segments → g.segments ≤ max_segments → (g.kib ≡ small_kib) ⊎ (g.kib ≡ large_kib) → wrong_size g (total g) ≡ false

-- a length that is not refused is that of one count and one size: over a heap's own slice another count or the other size is refused 1
abbrev pub AnotherRefused : Type 0
AnotherRefused = (g h : Geometry) (x : ℕ) → wrong_size g x ≡ false → (h ≡ g → ⊥) → wrong_size h x ≡ true
