-- Request No. 3: "Over any calls from an opening to the next, each given what the last one left, all blocks ever handed out, less all freed by
-- sweeps, equal the blocks in use in segments not free. The first two totals are taken from the calls, not from the stored counts." Said as an
-- equation of sums, so that no difference is cut off at 0; and from any memory that passes the examination.
use Rattle.std.specs.Prelude.{◌≡◌, false, List, [], ◌∷◌, ℕ, zero, suc, ◌+◌, ◌<◌, length, Result, Ok, Err}
use Rattle.layout.specs.declared.Geometry.{Geometry}
use Rattle.layout.specs.Geometry.{wrong_size}
use Rattle.layout.specs.Mem.{Mem, mem_of}
use Rattle.theory.specs.Calls.{CallKind, coming, working, asks_number, asks_flag, asks_shape, making, kind_of}
use Rattle.model.specs.declared.Answer.{Answer}
use Rattle.model.specs.declared.Answer.TheVariants.{Done, Number, Same, Shape}
use Rattle.model.specs.declared.Refusal.{Refusal}
use Rattle.model.specs.declared.Step.{Step}
use Rattle.model.specs.Fields.{kept_count, handed_count}
use Rattle.model.specs.Segments.{in_use}
use Rattle.model.specs.Consistent.{Consistent}
use Rattle.model.specs.Lists.{Event, mutator_call, start_call, step_call, opening_call, look_call, Element, Chain, words_after, Ghost, Begins}
use Rattle.model.specs.declared.Step.TheVariants as step

-- the sum of a number of each of the first n segments
unfoldable pub sum_over : (ℕ → ℕ) → ℕ → ℕ
sum_over number zero = 0
sum_over number (suc s) = sum_over number s + number s

-- "the blocks in use in segments not free", by places and bits: `in_use` of a free one is 0
abbrev pub blocks_in_use : Geometry → Mem → ℕ
blocks_in_use g m = sum_over (in_use g m) g.segments

-- ---- the two totals, from the calls and their answers

-- a make answered Ok hands out one block, and no other call does
abbrev pub ok_count : Result Answer Refusal → ℕ
ok_count (Ok Done) = 1
ok_count (Ok (Number v)) = 0
ok_count (Ok (Same b)) = 0
ok_count (Ok (Shape s)) = 0
ok_count (Err e) = 0

abbrev pub made_by : CallKind → Result Answer Refusal → ℕ
made_by coming r = 0
made_by working r = 0
made_by asks_number r = 0
made_by asks_flag r = 0
made_by asks_shape r = 0
made_by (making k d) r = ok_count r

-- "Answers swept, the segment, and how many blocks in use became free."
abbrev pub freed_by : Step → ℕ
freed_by (step.Waiting n) = 0
freed_by step.Moved = 0
freed_by step.Traced = 0
freed_by (step.Swept s f) = f
freed_by step.Done = 0
freed_by step.Idle = 0
freed_by (step.Refused n) = 0

abbrev pub made_at : Event → ℕ
made_at (mutator_call c r) = made_by (kind_of c) r
made_at (start_call r) = 0
made_at (step_call r) = 0
made_at (opening_call r) = 0
made_at (look_call l) = 0

abbrev pub freed_at : Event → ℕ
freed_at (mutator_call c r) = 0
freed_at (start_call r) = 0
freed_at (step_call r) = freed_by r
freed_at (opening_call r) = 0
freed_at (look_call l) = 0

-- "all blocks ever handed out": how many makes were answered Ok; "all freed by sweeps": the numbers of the answers Swept
abbrev pub makes_in : List Element → ℕ
makes_in [] = 0
makes_in (e ∷ es) = made_at e.event + makes_in es

abbrev pub freed_in : List Element → ℕ
freed_in [] = 0
freed_in (e ∷ es) = freed_at e.event + freed_in es

-- ---- the theorems

-- from any memory that passes the examination on
abbrev pub Balance : Type 0
Balance =
    (g : Geometry) (words : List ℕ) (es : List Element) → wrong_size g (length words) ≡ false → Consistent g (mem_of g words) → Chain g words es
    → blocks_in_use g (mem_of g words) + makes_in es ≡ blocks_in_use g (mem_of g (words_after words es)) + freed_in es

-- from an opening on: nothing is in use there
abbrev pub Totals : Type 0
Totals =
    (g : Geometry) (words : List ℕ) (w : Ghost) (es : List Element) → Begins g words w → Chain g words es
    → makes_in es ≡ freed_in es + blocks_in_use g (mem_of g (words_after words es))

-- what the front panel shows: the two counts of a segment add up to its blocks in use, and those of all segments to all blocks in use
pub record Stored (g : Geometry) (m : Mem) : Type 0 where
  pub segment : (s : ℕ) → s < g.segments → in_use g m s ≡ kept_count m s + handed_count m s
  pub all : blocks_in_use g m ≡ sum_over (λ s. kept_count m s + handed_count m s) g.segments

abbrev pub EveryStored : Type 0
EveryStored = (g : Geometry) (m : Mem) → Consistent g m → Stored g m
