-- A segment's state in its record's words, the stacks of segments, its bitmap, and which of its blocks are in use.
use Rattle.std.specs.Prelude.{List, ℕ, zero, suc, ◌+◌, ◌-◌, ◌*◌, eqb, ltb}
use Rattle.basics.specs.Pick.{pick}
use Rattle.words.specs.Bits.{bit_at, ones_among}
use Rattle.words.specs.Levels.{words_for}
use Rattle.bitmap_write.specs.Rebuild.{packed}
use Rattle.classes.specs.Class.{first_class}
use Rattle.classes.specs.Shape.{shape_for}
use Rattle.layout.specs.declared.Geometry.{Geometry}
use Rattle.layout.specs.Geometry.{blocks_in, bitmap_words}
use Rattle.layout.specs.Mem.{Mem, stack_word, set_stack, read_run, set_run}
use Rattle.bitmap_search.specs.Scan.{Found, next_free}
use Rattle.model.specs.declared.SegmentState.{SegmentState}
use Rattle.model.specs.Fields.{tag, set_tag, class, set_class, place, set_place, owner, set_owner}
use Rattle.model.specs.Records.{header_of, entered}
use Rattle.model.specs.declared.SegmentState.TheVariants as state
use Rattle.layout.specs.Region as Region
use Rattle.model.specs.Tag as Tag

-- "A segment is free, part (class, place), held (class, place, script), full (class) or condemned (class)." Request No. 5: "A condemned segment
-- keeps its place". The state by the words, and by the memory (in no statement: contracts, evaluated cases and proofs use both)
abbrev pub state_of : ℕ → ℕ → ℕ → ℕ → SegmentState
state_of zero c p k = state.Free
state_of (suc zero) c p k = state.Part c p
state_of (suc (suc zero)) c p k = state.Held c p k
state_of (suc (suc (suc zero))) c p k = state.Full c
state_of (suc (suc (suc (suc t)))) c p k = state.Condemned c p

abbrev pub segment : Mem → ℕ → SegmentState
segment m s = state_of (tag m s) (class m s) (place m s) (owner m s)

-- the tag, class, place and mutator of a segment's record; its two counts stay
abbrev pub set_record : Mem → ℕ → ℕ → ℕ → ℕ → ℕ → Mem
set_record m s t c p k = set_owner (set_place (set_class (set_tag m s t) s c) s p) s k

-- what a state has of these, and 0 for what it has not. "A full segment's place is its number of blocks".
unfoldable pub set_segment_state : Geometry → Mem → ℕ → SegmentState → Mem
set_segment_state g m s state.Free = set_record m s Tag.free 0 0 0
set_segment_state g m s (state.Part c p) = set_record m s Tag.part c p 0
set_segment_state g m s (state.Held c p k) = set_record m s Tag.held c p k
set_segment_state g m s (state.Full c) = set_record m s Tag.full c (blocks_in g c) 0
set_segment_state g m s (state.Condemned c p) = set_record m s Tag.condemned c p 0

-- ---- stacks: "the last put on taken first; each class has its own part stack"

-- the free stack, and the part stack of class c
abbrev pub free_stack : ℕ
free_stack = 0

abbrev pub part_stack : ℕ → ℕ
part_stack c = 1 + (c - first_class)

module _ (g : Geometry) where
  abbrev pub count : Mem → ℕ → ℕ
  count m t = stack_word m (t * (1 + g.segments))

  abbrev pub entry : Mem → ℕ → ℕ → ℕ
  entry m t i = stack_word m (t * (1 + g.segments) + 1 + i)

  -- the segment last put on
  abbrev pub top : Mem → ℕ → ℕ
  top m t = entry m t (count m t - 1)

  abbrev pub pop : Mem → ℕ → Mem
  pop m t = set_stack m (t * (1 + g.segments)) (count m t - 1)

  -- no segment is on it: past a count the entries bind nothing
  abbrev pub emptied : Mem → ℕ → Mem
  emptied m t = set_stack m (t * (1 + g.segments)) 0

  abbrev pub stacked : Mem → ℕ → ℕ → Mem
  stacked m t s = set_stack (set_stack m (t * (1 + g.segments) + 1 + count m t) s) (t * (1 + g.segments)) (count m t + 1)

-- ---- bitmaps

-- the levels above level 0 of a class's bitmap
abbrev pub above : Geometry → ℕ → ℕ
above g c = (shape_for (blocks_in g c)).levels - 1

abbrev pub bitmap : Geometry → Mem → ℕ → List ℕ
bitmap g m s = read_run m Region.bitmaps (s * bitmap_words g) (bitmap_words g)

abbrev pub set_bitmap : Geometry → Mem → ℕ → List ℕ → Mem
set_bitmap g m s ws = set_run m Region.bitmaps (s * bitmap_words g) ws

-- the bits of the blocks of class c of a segment, 32 to a word: in sweep the trace stack is empty, so they are document 01's marks
abbrev pub marks_in : Geometry → Mem → ℕ → ℕ → List ℕ
marks_in g m s c = packed (λ b. pick (ltb b (blocks_in g c)) (entered g m (header_of g s c b)) 0) (words_for (blocks_in g c)) 0

abbrev pub marks_of : Geometry → Mem → ℕ → List ℕ
marks_of g m s = marks_in g m s (class m s)

-- "the next free block": the first at or after the place whose bit is 0
abbrev pub free : Geometry → Mem → ℕ → ℕ → ℕ → Found
free g m s c p = next_free (bit_at (bitmap g m s)) (blocks_in g c) p

-- "A block is in use when it lies before the place or its bit is 1."
abbrev pub used_bit : Geometry → Mem → ℕ → ℕ → ℕ
used_bit g m s b = pick (ltb b (place m s)) 1 (bit_at (bitmap g m s) b)

-- request No. 3: "the 0 bits before its place": 1 for a block that lies before the place and whose bit is 0
abbrev pub handed_bit : Geometry → Mem → ℕ → ℕ → ℕ
handed_bit g m s b = pick (ltb b (place m s)) (1 - bit_at (bitmap g m s) b) 0

-- how many blocks of a segment are in use; none of a free one
abbrev pub in_use : Geometry → Mem → ℕ → ℕ
in_use g m s = pick (eqb (tag m s) Tag.free) 0 (ones_among (used_bit g m s) (blocks_in g (class m s)))
