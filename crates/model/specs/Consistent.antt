-- The consistency of the memory: what the examination decides, "the consistency definition that an opening
-- establishes and every call keeps". Two halves: `Summed`, of what can be built again from the other words (the
-- bitmaps' trees over their level 0, the stacks of segments, each segment's two counts), and `Sound`, which reads
-- nothing of that.
use Rattle.std.specs.Prelude.{◌≡◌, Bool, true, ◌&&◌, ℕ, suc, ◌+◌, ◌*◌, ◌%◌, ◌≤◌, ◌<◌, eqb, Some}
use Rattle.words.specs.Bits.{bit_at, ones_among}
use Rattle.words.specs.Tree.{Tree}
use Rattle.classes.specs.Class.{IsClass, first_class, block_words}
use Rattle.classes.specs.Record.{class_of_record}
use Rattle.layout.specs.declared.Geometry.{Geometry}
use Rattle.layout.specs.Geometry.{mutator_count, mutator_words, entry_words, segment_words, most_blocks, blocks_in, segment_of}
use Rattle.layout.specs.Mem.{Mem, control_word, mutator_word, trace_word}
use Rattle.theory.specs.Phases.{Phase, idle, sync1, sync2, mark, sweep}
use Rattle.model.specs.PhaseNumbers.{phase_number}
use Rattle.model.specs.Fields.{phase, trace_count, cursor, absent, outside, state, acks, holding, tag, class, place, owner, kept_count, handed_count}
use Rattle.model.specs.Segments.{free_stack, part_stack, count, entry, above, bitmap, used_bit, handed_bit}
use Rattle.model.specs.Records.{shape_of, block_of, entered, marked}
use Rattle.basics.specs.Pick.{one_if}
use Rattle.model.specs.Reaching.{IsEntry, Live, Reached, Covered, IsRoot, PointsTo}
use Rattle.model.specs.Tag as Tag

-- ---- one segment: its words are in range, and those that its state does not use are 0

pub record SegmentOk (g : Geometry) (m : Mem) (s : ℕ) : Type 0 where
  -- "A segment is free, part (class, place), held (class, place, script), full (class) or condemned (class)."
  -- (by request No. 5 a condemned one has a place too)
  pub tags : tag m s ≤ Tag.condemned
  pub free : tag m s ≡ Tag.free → (class m s ≡ 0) × (place m s ≡ 0) × (owner m s ≡ 0)
  pub unowned : (tag m s ≡ Tag.held → ⊥) → owner m s ≡ 0
  pub classes : (tag m s ≡ Tag.free → ⊥) → IsClass (class m s)
  -- part and held: "When no free block remains at or after the new place, the segment becomes full in the same call"
  pub remains : (Tag.part ≤ tag m s) → (tag m s ≤ Tag.held)
      → (b : ℕ) × (place m s ≤ b) × (b < blocks_in g (class m s)) × (bit_at (bitmap g m s) b ≡ 0)
  -- "A full segment's place is its number of blocks, kept when it is condemned." Request No. 5: a part one's is kept too,
  -- so that of a condemned one is anywhere up to the number of blocks
  pub full : tag m s ≡ Tag.full → place m s ≡ blocks_in g (class m s)
  pub condemned : tag m s ≡ Tag.condemned → place m s ≤ blocks_in g (class m s)
  -- the mutator of a held segment is attached, and the segment is the one it holds of that class
  pub held : tag m s ≡ Tag.held
      → (owner m s < mutator_count) × (state m (owner m s) ≡ absent → ⊥) × (holding m (owner m s) (class m s) ≡ suc s)

-- A part or held segment has a block in use: one that a sweep finds without a mark is free, and a make hands out a
-- block of the free one that it takes. (So it is no part of `SegmentOk`: between the two steps of a make it does not
-- hold.)
abbrev pub Occupied : Geometry → Mem → ℕ → Type 0
Occupied g m s = (Tag.part ≤ tag m s) → (tag m s ≤ Tag.held) → (b : ℕ) × (b < blocks_in g (class m s)) × (used_bit g m s b ≡ 1)

-- ---- one mutator

pub record MutatorOk (g : Geometry) (m : Mem) (k : ℕ) : Type 0 where
  -- absent, "inside or outside"; none of the two answers of a cycle, one or both
  pub states : state m k ≤ outside
  pub acknowledged : acks m k ≤ 2
  -- "detach: slots emptied; held segments go to part": an absent mutator's words are 0
  pub gone : state m k ≡ absent → (i : ℕ) → i < entry_words → mutator_word m (k * mutator_words + i) ≡ 0
  -- "the script's held segment of that class": what it holds is held by it
  pub holds : (c s : ℕ) → IsClass c → holding m k c ≡ suc s
      → (s < g.segments) × (tag m s ≡ Tag.held) × (class m s ≡ c) × (owner m s ≡ k)

-- The acknowledgements of an attached mutator, by the phase: "If inside scripts still owe .. waiting", so in roll 2
-- each has given its first and in mark its second; in roll 1 none has given the second. In idle and sweep they bind
-- nothing: a start begins anew.
abbrev pub AcksIn : Phase → ℕ → Type 0
AcksIn idle a = Unit
AcksIn sync1 a = a ≤ 1
AcksIn sync2 a = 1 ≤ a
AcksIn mark a = 2 ≤ a
AcksIn sweep a = Unit

-- ---- one stack: exactly the segments that pass a test, each once; its count is their number, so one more has room

pub record StackOk (g : Geometry) (m : Mem) (t : ℕ) (test : ℕ → Bool) : Type 0 where
  pub number : count g m t ≡ ones_among (λ s. one_if (test s)) g.segments
  pub members : (i : ℕ) → i < count g m t → (entry g m t i < g.segments) × (test (entry g m t i) ≡ true)
  pub once : (i j : ℕ) → i < j → j < count g m t → entry g m t i ≡ entry g m t j → ⊥
  pub all : (s : ℕ) → s < g.segments → test s ≡ true → (i : ℕ) × (i < count g m t) × (entry g m t i ≡ s)

abbrev pub is_free : Mem → ℕ → Bool
is_free m s = eqb (tag m s) Tag.free

abbrev pub is_part : Mem → ℕ → ℕ → Bool
is_part m c s = eqb (tag m s) Tag.part && eqb (class m s) c

-- ---- the first half: bitmap trees, stacks and counts

-- "A bit above level 0 is 1 exactly when its word below is all ones. Bits past a level's end are 1." "A free
-- segment has no place, and its bitmap words bind nothing."
abbrev pub TreeOk : Geometry → Mem → ℕ → Type 0
TreeOk g m s = (tag m s ≡ Tag.free → ⊥) → Tree (above g (class m s)) (blocks_in g (class m s)) (bitmap g m s)

-- request No. 3: "kept equals the 1 bits among the segment's blocks, handed out since the 0 bits before its place, and
-- both are 0 in a free segment". That the class of one that is not free is a class, `SegmentOk` asks.
pub record CountsOk (g : Geometry) (m : Mem) (s : ℕ) : Type 0 where
  pub free : tag m s ≡ Tag.free → (kept_count m s ≡ 0) × (handed_count m s ≡ 0)
  pub kept : (tag m s ≡ Tag.free → ⊥) → IsClass (class m s)
      → kept_count m s ≡ ones_among (bit_at (bitmap g m s)) (blocks_in g (class m s))
  pub handed : (tag m s ≡ Tag.free → ⊥) → IsClass (class m s)
      → handed_count m s ≡ ones_among (handed_bit g m s) (blocks_in g (class m s))

pub record Summed (g : Geometry) (m : Mem) : Type 0 where
  pub trees : (s : ℕ) → s < g.segments → TreeOk g m s
  pub counts : (s : ℕ) → s < g.segments → CountsOk g m s
  -- "Free and part segments lie on stacks .. each class has its own part stack."
  pub free_segments : StackOk g m free_stack (is_free m)
  pub part_segments : (c : ℕ) → IsClass c → StackOk g m (part_stack c) (is_part m c)

-- ---- one live record: at the head of a block in use, whose class is "the smallest whose block holds" it

pub record RecordOk (g : Geometry) (m : Mem) (at : ℕ) : Type 0 where
  pub inside : at < g.segments * segment_words g
  pub used : tag m (segment_of g at) ≡ Tag.free → ⊥
  pub aligned : at % segment_words g % block_words (class m (segment_of g at)) ≡ 0
  pub block : used_bit g m (segment_of g at) (block_of g m at) ≡ 1
  pub sized : class_of_record (shape_of m at) ≡ Some (class m (segment_of g at))

-- ---- the trace stack

pub record TraceOk (g : Geometry) (m : Mem) : Type 0 where
  -- "Entering nil, a marked record, or one already on the stack does nothing."
  pub named : (i : ℕ) → i < trace_count m → 1 ≤ trace_word m i
  pub once : (i j : ℕ) → i < j → j < trace_count m → trace_word m i ≡ trace_word m j → ⊥
  -- each has its bit; there are no more entries than bits, so that there is room for a record without one
  pub bits : (at : ℕ) → IsEntry m at → entered g m at ≡ 1
  pub number : trace_count m ≤ ones_among (bit_at m.marks) (g.segments * most_blocks g)

-- ---- marks: of blocks in use only, so that a block that is handed out has none yet

-- block b of segment s is in use (no part of consistency: what a cycle frees is said by it)
pub record BlockInUse (g : Geometry) (m : Mem) (s b : ℕ) : Type 0 where
  pub used : tag m s ≡ Tag.free → ⊥
  pub within : b < blocks_in g (class m s)
  pub block : used_bit g m s b ≡ 1

-- a word is the head of a block in use
pub record HeadInUse (g : Geometry) (m : Mem) (at : ℕ) : Type 0 where
  pub used : tag m (segment_of g at) ≡ Tag.free → ⊥
  pub aligned : at % segment_words g % block_words (class m (segment_of g at)) ≡ 0
  pub block : used_bit g m (segment_of g at) (block_of g m at) ≡ 1

-- the word of a mark bit: the first of those that have it
abbrev pub bit_word : ℕ → ℕ
bit_word k = k * block_words first_class

-- only blocks in use of the segments of a test have marks
abbrev pub MarksOf : Geometry → Mem → (ℕ → Type 0) → Type 0
MarksOf g m test = (k : ℕ) → k < g.segments * most_blocks g → test (segment_of g (bit_word k)) → bit_at m.marks k ≡ 1 → HeadInUse g m (bit_word k)

-- ---- the tricolour invariant: no record is hidden "behind a traced one"

-- roots of mutators that have acknowledged twice, and pointers of live marked records, are covered
pub record Tricolour (g : Geometry) (m : Mem) : Type 0 where
  pub roots : (at : ℕ) → (r : IsRoot m at) → 2 ≤ acks m r.mutator → Covered g m at
  pub edges : (x y : ℕ) → Live m x → marked g m x ≡ 1 → PointsTo m x y → Covered g m y

-- ---- by the phase

abbrev pub InPhase : Phase → Geometry → Mem → Type 0
-- "the trace stack empty and the phase idle"; no segment is condemned: "With none left: idle"
InPhase idle g m = (trace_count m ≡ 0) × ((s : ℕ) → s < g.segments → tag m s ≡ Tag.condemned → ⊥)
-- "all marks are cleared, the phase is roll 1", and none is set before roll 2: what has a bit is on the trace stack
InPhase sync1 g m = (k : ℕ) → k < g.segments * most_blocks g → bit_at m.marks k ≡ 1 → IsEntry m (bit_word k)
InPhase sync2 g m = MarksOf g m (λ s. Unit {0}) × Tricolour g m
InPhase mark g m = MarksOf g m (λ s. Unit {0}) × Tricolour g m
-- "With an empty stack: sweep": what is reached is marked, and that is asked only of the condemned segments, whose
-- marks are still to be read
InPhase sweep g m =
    (trace_count m ≡ 0)
    × MarksOf g m (λ s. tag m s ≡ Tag.condemned)
    × ((at : ℕ) → Reached m at → tag m (segment_of g at) ≡ Tag.condemned → marked g m at ≡ 1)

-- ---- the sweep's cursor: no condemned segment stands before it

abbrev pub Behind : Geometry → Mem → Type 0
Behind g m = (s : ℕ) → s < g.segments → s < cursor m → tag m s ≡ Tag.condemned → ⊥

-- ---- the second half: all the rest; no upper level of a bitmap, no bit past a level's end, no stack of segments and
-- no count

pub record Sound (g : Geometry) (m : Mem) : Type 0 where
  -- "Phases are idle, roll 1, roll 2, mark and sweep"
  pub phases : control_word m 0 ≤ phase_number sweep
  pub segments : (s : ℕ) → s < g.segments → SegmentOk g m s
  pub occupied : (s : ℕ) → s < g.segments → Occupied g m s
  -- a start sets the cursor to 0, and a sweep, which takes the lowest condemned segment, sets it past that one
  pub behind : Behind g m
  pub mutators : (k : ℕ) → k < mutator_count → MutatorOk g m k
  pub acknowledgements : (k : ℕ) → k < mutator_count → (state m k ≡ absent → ⊥) → AcksIn (phase m) (acks m k)
  -- "That definition binds the links of records reachable from slots or trace stack only."
  pub records : (at : ℕ) → Live m at → RecordOk g m at
  pub trace : TraceOk g m
  pub cycle : InPhase (phase m) g m

pub record Consistent (g : Geometry) (m : Mem) : Type 0 where
  pub summed : Summed g m
  pub sound : Sound g m
