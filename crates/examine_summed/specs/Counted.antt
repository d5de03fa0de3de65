-- The two counts of a segment, of a class that is given: at that of the record they are what consistency asks of one that is not free.
use Rattle.std.specs.Prelude.{◌≡◌, ℕ}
use Rattle.words.specs.Bits.{bit_at, ones_among}
use Rattle.layout.specs.declared.Geometry.{Geometry}
use Rattle.layout.specs.Geometry.{blocks_in}
use Rattle.layout.specs.Mem.{Mem}
use Rattle.model.specs.Fields.{kept_count, handed_count}
use Rattle.model.specs.Segments.{bitmap, handed_bit}

abbrev pub CountedAs : Geometry → Mem → ℕ → ℕ → Type 0
CountedAs g m s c = (kept_count m s ≡ ones_among (bit_at (bitmap g m s)) (blocks_in g c)) × (handed_count m s ≡ ones_among (handed_bit g m s) (blocks_in g c))
