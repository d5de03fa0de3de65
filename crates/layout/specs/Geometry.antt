-- The numbers of the layout, each a name, and the lengths of the regions for a number of segments and their size. Document 01: "Memory is 1 to
-- 256 segments of 16,384 bytes (4,096 words of 32 bits). The lengths of the lent slices are formulas of the segment count"; document 02, No. 6:
-- "Each call names 16 or 32 KiB for the whole heap beside the segment count, and slice lengths follow from both".
use Rattle.std.specs.Prelude.{ℕ, ◌+◌, ◌-◌, ◌*◌, ◌/◌, ◌%◌, ◌≤◌, ◌≡◌, Bool, true, false, not, List, [], ◌∷◌, eqb, ltb, get_or}
use Rattle.basics.specs.Pick.{pick}
use Rattle.words.specs.Levels.{words_for}
use Rattle.classes.specs.Class.{first_class, class_count, word_bytes, block_words}
use Rattle.classes.specs.Shape.{segment_size, large_size, blocks_of, longest_of}
use Rattle.layout.specs.declared.Geometry.{Geometry}
use Rattle.layout.specs.Parts.{start}
use Rattle.layout.specs.Region as Region

abbrev pub max_segments : ℕ
max_segments = 256

-- "Script numbers are 0 to 31. Each script has 16 slots"
abbrev pub mutator_count : ℕ
mutator_count = 32

abbrev pub root_count : ℕ
root_count = 16

-- the two sizes of a segment, in KiB
abbrev pub small_kib : ℕ
small_kib = 16

abbrev pub large_kib : ℕ
large_kib = 32

-- the bytes of a segment. A geometry of neither size is refused before a segment's bytes are asked for, so what stands here for one binds nothing.
-- Above this crate proofs go by the laws of proofs/Sizes; what is said of one size alone, as the cases, unfolds it
unfoldable pub segment_bytes : Geometry → ℕ
segment_bytes g = pick (eqb g.kib large_kib) large_size segment_size

abbrev pub segment_words : Geometry → ℕ
segment_words g = segment_bytes g / word_bytes

-- how many blocks of class c a segment has
abbrev pub blocks_in : Geometry → ℕ → ℕ
blocks_in g c = blocks_of (segment_bytes g) c

-- the most blocks that a segment can have: one bit for each, and one entry of the trace stack
abbrev pub most_blocks : Geometry → ℕ
most_blocks g = blocks_in g first_class

abbrev pub mark_words : Geometry → ℕ
mark_words g = words_for (most_blocks g)

-- the words of the largest bitmap, which is that of the first class
abbrev pub bitmap_words : Geometry → ℕ
bitmap_words g = longest_of (segment_bytes g)

-- the segment of a word of the heap
abbrev pub segment_of : Geometry → ℕ → ℕ
segment_of g at = at / segment_words g

-- the bit of a word of the heap among the marks: one for the words of a smallest block
abbrev pub mark_bit : ℕ → ℕ
mark_bit at = at / block_words first_class

-- the phase, the count of the trace stack, the sweep's cursor, and words to spare
abbrev pub control_words : ℕ
control_words = 16

-- a mutator's entry: its roots, its state, its acknowledgements, for each class the segment that it holds, and words to spare
abbrev pub mutator_words : ℕ
mutator_words = 32

-- of which it uses so many
abbrev pub entry_words : ℕ
entry_words = root_count + 2 + class_count

-- a segment's record: tag, class, allocation pointer, mutator; request No. 3: "Each segment record gains two counts"
abbrev pub segment_record_words : ℕ
segment_record_words = 6

-- the free stack, and a part stack for each class: a count, and as many entries as there are segments
abbrev pub stack_count : ℕ
stack_count = 1 + class_count

-- the lengths of the eight regions, in order
abbrev pub lens : Geometry → List ℕ
lens g =
    control_words ∷ mutator_count * mutator_words ∷ g.segments * segment_words g ∷ g.segments * segment_record_words ∷ (1 + g.segments) * stack_count
    ∷ g.segments * bitmap_words g ∷ g.segments * mark_words g ∷ g.segments * most_blocks g ∷ []

-- the length of region k, and where it begins
abbrev pub len : Geometry → ℕ → ℕ
len g k = get_or (lens g) k 0

abbrev pub from : Geometry → ℕ → ℕ
from g k = start (lens g) k

abbrev pub region_count : ℕ
region_count = 8

-- the number of this layout: a change that moves a word of the lent slice raises it (in no statement: a contract uses it)
abbrev pub layout_number : ℕ
layout_number = 4

-- the length of the lent slice
abbrev pub total : Geometry → ℕ
total g = from g region_count

-- the length of the examination's scratch: two bits for each block, and a stack with an entry for each
abbrev pub scratch_words : Geometry → ℕ
scratch_words g = len g Region.marks + len g Region.marks + len g Region.trace

-- the length of the sheet's output, in bytes: document 02, No. 10, "Each segment is a line of 51 characters and a line feed", and "An empty line
-- follows every 60th segment, if another comes". It does not depend on the size of a segment
abbrev pub sheet_bytes : Geometry → ℕ
sheet_bytes g = 52 * g.segments + (g.segments - 1) / 60

-- one of the two sizes, said by arithmetic alone, and how many times 16 KiB a segment has then (in no statement: contracts and proofs use them)
abbrev pub IsSize : ℕ → Type 0
IsSize k = (k % small_kib ≡ 0) × (small_kib ≤ k) × (k ≤ large_kib)

abbrev pub Units : Geometry → ℕ → Type 0
Units g u = (segment_bytes g ≡ u * segment_size) × (1 ≤ u) × (u ≤ 2)

-- No. 6: "a segment size other than these two"
abbrev pub no_kib : ℕ → Bool
no_kib k = pick (eqb k small_kib) false (not (eqb k large_kib))

-- "segment count not 1 to 256, or a slice not of its length"; No. 6: "1 now covers a segment size other than these two"
unfoldable pub wrong_size : Geometry → ℕ → Bool
wrong_size g x = pick (ltb g.segments 1) true (pick (ltb max_segments g.segments) true (pick (no_kib g.kib) true (not (eqb x (total g)))))

-- the contrary, taken apart (in no statement: contracts and proofs use it)
pub record Sized (g : Geometry) (x : ℕ) : Type 0 where
  pub some : 1 ≤ g.segments
  pub few : g.segments ≤ max_segments
  pub whole : g.kib % small_kib ≡ 0
  pub small : small_kib ≤ g.kib
  pub large : g.kib ≤ large_kib
  pub is : x ≡ total g
