-- The lent memory as one value with a list of words for each region, cut from the slice and joined to it again.
use Rattle.std.specs.Prelude.{ℕ, ◌+◌, ◌-◌, ◌≡◌, List, [], ◌∷◌, ◌++◌, length, get_or, take, drop, set, replicate}
use Rattle.layout.specs.declared.Geometry.{Geometry}
use Rattle.layout.specs.Geometry.{lens, len}
use Rattle.layout.specs.Parts.{parts, joined}
use Rattle.layout.specs.Region as Region

pub record Mem : Type 0 where
  pub control : List ℕ
  pub mutators : List ℕ
  pub heap : List ℕ
  pub segments : List ℕ
  pub stacks : List ℕ
  pub bitmaps : List ℕ
  pub marks : List ℕ
  pub trace : List ℕ

abbrev pub of_parts : List (List ℕ) → Mem
of_parts xs = record {
  control = get_or xs 0 [];
  mutators = get_or xs 1 [];
  heap = get_or xs 2 [];
  segments = get_or xs 3 [];
  stacks = get_or xs 4 [];
  bitmaps = get_or xs 5 [];
  marks = get_or xs 6 [];
  trace = get_or xs 7 [];
}

abbrev pub regions : Mem → List (List ℕ)
regions m = m.control ∷ m.mutators ∷ m.heap ∷ m.segments ∷ m.stacks ∷ m.bitmaps ∷ m.marks ∷ m.trace ∷ []

unfoldable pub mem_of : Geometry → List ℕ → Mem
mem_of g l = of_parts (parts (lens g) l)

unfoldable pub flat : Mem → List ℕ
flat m = joined (regions m)

-- every region has its length
pub record Sizes (g : Geometry) (m : Mem) : Type 0 where
  pub control : length m.control ≡ len g Region.control
  pub mutators : length m.mutators ≡ len g Region.mutators
  pub segments : length m.segments ≡ len g Region.segments
  pub stacks : length m.stacks ≡ len g Region.stacks
  pub bitmaps : length m.bitmaps ≡ len g Region.bitmaps
  pub marks : length m.marks ≡ len g Region.marks
  pub trace : length m.trace ≡ len g Region.trace
  pub heap : length m.heap ≡ len g Region.heap

-- region k, and the memory with another in its place
abbrev pub region : Mem → ℕ → List ℕ
region m k = get_or (regions m) k []

abbrev pub with_region : Mem → ℕ → List ℕ → Mem
with_region m k l = of_parts (set (regions m) k l)

-- region k with every word 0 (in no statement: contracts and proofs use it)
unfoldable pub clear_region : Geometry → Mem → ℕ → Mem
clear_region g m k = with_region m k (replicate (len g k) 0)

-- one word of a region, read
abbrev pub control_word : Mem → ℕ → ℕ
control_word m i = get_or m.control i 0

abbrev pub mutator_word : Mem → ℕ → ℕ
mutator_word m i = get_or m.mutators i 0

abbrev pub heap_word : Mem → ℕ → ℕ
heap_word m i = get_or m.heap i 0

abbrev pub segment_record_word : Mem → ℕ → ℕ
segment_record_word m i = get_or m.segments i 0

abbrev pub stack_word : Mem → ℕ → ℕ
stack_word m i = get_or m.stacks i 0

-- of a bitmap and of the marks (in no statement: contracts and proofs use them)
abbrev pub bitmap_word : Mem → ℕ → ℕ
bitmap_word m i = get_or m.bitmaps i 0

abbrev pub mark_word : Mem → ℕ → ℕ
mark_word m i = get_or m.marks i 0

-- of the trace stack
abbrev pub trace_word : Mem → ℕ → ℕ
trace_word m i = get_or m.trace i 0

-- one word of a region, set
unfoldable pub set_control : Mem → ℕ → ℕ → Mem
set_control m i v = with_region m Region.control (set m.control i v)

unfoldable pub set_mutator : Mem → ℕ → ℕ → Mem
set_mutator m i v = with_region m Region.mutators (set m.mutators i v)

unfoldable pub set_heap : Mem → ℕ → ℕ → Mem
set_heap m i v = with_region m Region.heap (set m.heap i v)

unfoldable pub set_segment : Mem → ℕ → ℕ → Mem
set_segment m i v = with_region m Region.segments (set m.segments i v)

unfoldable pub set_stack : Mem → ℕ → ℕ → Mem
set_stack m i v = with_region m Region.stacks (set m.stacks i v)

-- of the marks (in no statement: contracts and proofs use it)
unfoldable pub set_mark_word : Mem → ℕ → ℕ → Mem
set_mark_word m i v = with_region m Region.marks (set m.marks i v)

-- of the trace stack
unfoldable pub set_trace : Mem → ℕ → ℕ → Mem
set_trace m i v = with_region m Region.trace (set m.trace i v)

-- a list with vs from element i on, as far as it reaches
unfoldable pub spliced : List ℕ → ℕ → List ℕ → List ℕ
spliced l i vs = take i l ++ (take (length l - i) vs ++ drop (i + length vs) l)

-- w words of region k from word i on, read and set
abbrev pub read_run : Mem → ℕ → ℕ → ℕ → List ℕ
read_run m k i w = take w (drop i (region m k))

unfoldable pub set_run : Mem → ℕ → ℕ → List ℕ → Mem
set_run m k i vs = with_region m k (spliced (region m k) i vs)
