-- What the model says of a segment by its record's class and place, here of a class and a place that are given: at those of the record it is the
-- model's own.
use Rattle.std.specs.Prelude.{◌≡◌, Option, Some, None, ℕ, ◌≤◌, ◌<◌, ltb}
use Rattle.basics.specs.Pick.{pick}
use Rattle.words.specs.Bits.{bit_at}
use Rattle.words.specs.Tree.{Level}
use Rattle.bitmap_search.specs.Twice.{next_two}
use Rattle.bitmap_write.specs.Completed.{adopted}
use Rattle.classes.specs.Class.{IsClass}
use Rattle.layout.specs.declared.Geometry.{Geometry}
use Rattle.layout.specs.Geometry.{blocks_in, most_blocks}
use Rattle.layout.specs.Mem.{Mem}
use Rattle.model.specs.Segments.{above, bitmap, set_bitmap, marks_in}
use Rattle.model.specs.Records.{header_of, entered}
use Rattle.bitmap_search.specs.declared.Two.TheVariants as two

-- "its level 0 becomes the marks, upper levels rebuilt": `rebuilt_by` is that of the segment's class
abbrev pub adopted_as : Geometry → Mem → ℕ → ℕ → Mem
adopted_as g m s c = set_bitmap g m s (adopted (above g c) (blocks_in g c) (marks_in g m s c) (bitmap g m s))

-- no block of segment s, of whatever class, has its bit among the marks
abbrev pub Unmarked : Geometry → Mem → ℕ → Type 0
Unmarked g m s = (c b : ℕ) → IsClass c → b < blocks_in g c → entered g m (header_of g s c b) ≡ 0

-- "A block is in use when it lies before the place or its bit is 1.": `used_bit` is that of the bitmap's bits and the segment's place
abbrev pub used_bits : (ℕ → ℕ) → ℕ → ℕ → ℕ
used_bits bit place b = pick (ltb b place) 1 (bit b)

-- what the place's own word tells of the next free block of segment s: a number below the most blocks, over any words; in a level of n blocks that the
-- place is below, the scan's block, where another remains
abbrev pub NearIn : Geometry → Mem → ℕ → ℕ → Option ℕ → Type 0
NearIn g m s place (Some b) = (b < most_blocks g) × ((n : ℕ) → n ≤ most_blocks g → place < n → Level n (bitmap g m s) → two.More b ≡ next_two (bit_at (bitmap g m s)) n place)
NearIn g m s place None = Unit
