-- What the examination asks of the bits among the marks: of heads of blocks in use only; and in handshake 1 of entries of the trace stack only.
use Rattle.std.specs.Prelude.{◌≡◌, Bool, true, false, ℕ, ◌*◌, ◌<◌}
use Rattle.words.specs.Bits.{bit_at}
use Rattle.classes.specs.Class.{IsClass}
use Rattle.layout.specs.declared.Geometry.{Geometry}
use Rattle.layout.specs.Geometry.{most_blocks, segment_of}
use Rattle.layout.specs.Mem.{Mem}
use Rattle.model.specs.Fields.{tag, class}
use Rattle.model.specs.Reaching.{IsEntry}
use Rattle.model.specs.Consistent.{HeadInUse, bit_word, MarksOf}
use Rattle.model.specs.Tag as Tag

-- every segment in use has a class
abbrev pub Classes : Geometry → Mem → Type 0
Classes g m = (s : ℕ) → s < g.segments → (tag m s ≡ Tag.free → ⊥) → IsClass (class m s)

-- of all segments, or of the condemned ones only
abbrev pub Asked : Bool → Mem → ℕ → Type 0
Asked false m s = Unit {0}
Asked true m s = tag m s ≡ Tag.condemned

-- bit k is that of a block in use, where it is asked
abbrev pub BitFine : Bool → Geometry → Mem → ℕ → Type 0
BitFine only g m k = Asked only m (segment_of g (bit_word k)) → bit_at m.marks k ≡ 1 → HeadInUse g m (bit_word k)

abbrev pub MarksIn : Bool → Geometry → Mem → Type 0
MarksIn only g m = MarksOf g m (Asked only m)

-- what has a bit is on the trace stack
abbrev pub OnlyEntries : Geometry → Mem → Type 0
OnlyEntries g m = (k : ℕ) → k < g.segments * most_blocks g → bit_at m.marks k ≡ 1 → IsEntry m (bit_word k)
