-- The bit of a record among the marks, and the marks with a bit set, over memory of any content.
use Rattle.std.specs.Prelude.{ℕ, ltb, Option, Some, None}
use Rattle.basics.specs.Pick.{pick}
use Rattle.words.specs.Bits.{set_bit}
use Rattle.layout.specs.declared.Geometry.{Geometry}
use Rattle.layout.specs.Geometry.{len, mark_bit}
use Rattle.layout.specs.Mem.{Mem, with_region}
use Rattle.layout.specs.Region as Region

-- the bit of the record at a word; none off the heap
unfoldable pub record_bit_at : Geometry → ℕ → Option ℕ
record_bit_at g at = pick (ltb at (len g Region.heap)) (Some (mark_bit at)) None

-- bit k set
unfoldable pub with_mark : Mem → ℕ → Mem
with_mark m k = with_region m Region.marks (set_bit m.marks k)
