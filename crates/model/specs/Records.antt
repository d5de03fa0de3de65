-- Records in the heap: references, headers, fields, and the block and the bits of a record. Document 01: "A header word P × 65,536 + N comes
-- first, then the links, then the numbers. A link is nil or names a record."
use Rattle.std.specs.Prelude.{Bool, false, ◌||◌, List, ℕ, zero, suc, ◌+◌, ◌*◌, ◌/◌, ◌%◌, ◌<◌, eqb, get_or, replicate}
use Rattle.std.proofs.Math.Option.{Option, none, some}
use Rattle.basics.specs.Pick.{pick}
use Rattle.words.specs.Bits.{bit_at, set_bit}
use Rattle.classes.specs.Class.{block_words}
use Rattle.classes.specs.Record.{of_counts, pointer_count_of, value_count_of, field_count_of}
use Rattle.classes.specs.declared.RecordShape.{RecordShape}
use Rattle.layout.specs.declared.Geometry.{Geometry}
use Rattle.layout.specs.Geometry.{segment_words, segment_of, mark_bit}
use Rattle.layout.specs.Mem.{Mem, heap_word, set_heap, set_run, with_region}
use Rattle.model.specs.Fields.{trace_count, class}
use Rattle.layout.specs.Region as Region

-- nil is 0, and a record is named by 1 + the index of its header word in the heap
abbrev pub record? : ℕ → Option ℕ
record? zero = none
record? (suc at) = some at

-- ---- the record at a word

-- P in the header's upper half, N in its lower half
abbrev pub half_word : ℕ
half_word = 65536

abbrev pub header_word : RecordShape → ℕ
header_word s = pointer_count_of s * half_word + value_count_of s

-- counts that a header's halves hold
abbrev pub InHalves : RecordShape → Type 0
InHalves s = (pointer_count_of s < half_word) × (value_count_of s < half_word)

-- the shape that a header word says. Above this file definitions go by the shape, and only laws of the header unfold it
unfoldable pub header_shape : ℕ → RecordShape
header_shape w = of_counts (w / half_word) (w % half_word)

abbrev pub shape_of : Mem → ℕ → RecordShape
shape_of m at = header_shape (heap_word m at)

abbrev pub pointer_count : Mem → ℕ → ℕ
pointer_count m at = pointer_count_of (shape_of m at)

-- how many values it has (in no statement of the guarantee: proofs and the view use it)
abbrev pub value_count : Mem → ℕ → ℕ
value_count m at = value_count_of (shape_of m at)

-- its pointers and its values, read and written
abbrev pub pointer : Mem → ℕ → ℕ → ℕ
pointer m at f = heap_word m (at + 1 + f)

abbrev pub set_pointer : Mem → ℕ → ℕ → ℕ → Mem
set_pointer m at f v = set_heap m (at + 1 + f) v

abbrev pub value : Mem → ℕ → ℕ → ℕ
value m at f = heap_word m (at + 1 + pointer_count m at + f)

abbrev pub set_value : Mem → ℕ → ℕ → ℕ → Mem
set_value m at f v = set_heap m (at + 1 + pointer_count m at + f) v

-- "Links start nil, numbers 0"
abbrev pub written : Mem → ℕ → RecordShape → Mem
written m at s = set_run (set_heap m at (header_word s)) Region.heap (at + 1) (replicate (field_count_of s) 0)

-- ---- its block

abbrev pub header_of : Geometry → ℕ → ℕ → ℕ → ℕ
header_of g s c b = s * segment_words g + b * block_words c

abbrev pub block_of : Geometry → Mem → ℕ → ℕ
block_of g m at = at % segment_words g / block_words (class m (segment_of g at))

-- ---- its mark: one bit says that it is marked or on the trace stack, and the stack itself says which

-- document 01: marked, or on the trace stack
abbrev pub entered : Geometry → Mem → ℕ → ℕ
entered g m at = bit_at m.marks (mark_bit at)

unfoldable pub set_entered : Geometry → Mem → ℕ → Mem
set_entered g m at = with_region m Region.marks (set_bit m.marks (mark_bit at))

-- whether one of the first n entries of the trace stack names it
unfoldable pub on_stack : List ℕ → ℕ → ℕ → Bool
on_stack entries zero at = false
on_stack entries (suc n) at = eqb (get_or entries n 0) (suc at) || on_stack entries n at

-- document 01: marked
abbrev pub marked : Geometry → Mem → ℕ → ℕ
marked g m at = pick (on_stack m.trace (trace_count m) at) 0 (entered g m at)
