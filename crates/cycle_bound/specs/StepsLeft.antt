-- Request No. 7: how many steps a cycle can still take, from its phase mark on, a measure of the memory alone. From mark on each step that is counted
-- lowers it, and nothing that is called raises it before the cycle's done.
use Rattle.std.specs.Prelude.{◌≡◌, true, false, List, [], ◌∷◌, ◌⊎◌, ℕ, ◌+◌, ◌-◌, ◌≤◌, eqb, length}
use Rattle.basics.specs.Pick.{pick, one_if}
use Rattle.words.specs.Bits.{ones_among}
use Rattle.layout.specs.declared.Geometry.{Geometry}
use Rattle.layout.specs.Geometry.{wrong_size, blocks_in}
use Rattle.layout.specs.Mem.{Mem, mem_of}
use Rattle.theory.specs.Phases.{Phase, idle, sync1, sync2, mark, sweep}
use Rattle.model.specs.declared.Step.{Step}
use Rattle.model.specs.declared.Step.TheVariants.{Waiting, Moved, Traced, Swept, Done, Idle, Refused}
use Rattle.model.specs.Fields.{phase, tag, class}
use Rattle.model.specs.Segments.{used_bit}
use Rattle.model.specs.Records.{header_of, marked}
use Rattle.model.specs.Consistent.{Consistent}
use Rattle.model.specs.Lists.{Event, mutator_call, start_call, step_call, opening_call, look_call, Element, Meets, KeepsLength, Gets, wrong_sized, next_words}
use Rattle.guarantee.specs.Totals.{sum_over, blocks_in_use}
use Rattle.model.specs.Tag as Tag

-- ---- "steps neither refused nor answered waiting"

abbrev pub counted_step : Step → ℕ
counted_step (Waiting n) = 0
counted_step Moved = 1
counted_step Traced = 1
counted_step (Swept s f) = 1
counted_step Done = 1
counted_step Idle = 1
counted_step (Refused n) = 0

abbrev pub counted_at : Event → ℕ
counted_at (mutator_call c r) = 0
counted_at (start_call r) = 0
counted_at (step_call r) = counted_step r
counted_at (opening_call r) = 0
counted_at (look_call l) = 0

-- how many of a list there are
abbrev pub counted : List Element → ℕ
counted [] = 0
counted (e ∷ es) = counted_at e.event + counted es

-- ---- what is left of the marking, and of the sweep

-- 1 for a block in use that is not marked; one on the trace stack is not marked yet
abbrev pub unmarked_bit : Geometry → Mem → ℕ → ℕ → ℕ
unmarked_bit g m s b = used_bit g m s b - marked g m (header_of g s (class m s) b)

-- how many a segment has; a free one has none
abbrev pub unmarked_of : Geometry → Mem → ℕ → ℕ
unmarked_of g m s = pick (eqb (tag m s) Tag.free) 0 (ones_among (unmarked_bit g m s) (blocks_in g (class m s)))

abbrev pub unmarked_in : Geometry → Mem → ℕ
unmarked_in g m = sum_over (unmarked_of g m) g.segments

-- "the number of segments that start condemned", of the memory that the start left: in idle none is condemned. Later, of those still to be swept
abbrev pub condemned_in : Geometry → Mem → ℕ
condemned_in g m = sum_over (λ s. one_if (eqb (tag m s) Tag.condemned)) g.segments

-- in mark at most one step for each block in use that is not marked, and the one that moves to sweep; there one for each condemned segment, and done.
-- Before mark it says nothing: a make in a handshake may add a block that is not marked
abbrev pub left_in : Phase → Geometry → Mem → ℕ
left_in idle g m = 0
left_in sync1 g m = 0
left_in sync2 g m = 0
left_in mark g m = unmarked_in g m + condemned_in g m + 2
left_in sweep g m = condemned_in g m + 1

abbrev pub steps_left : Geometry → Mem → ℕ
steps_left g m = left_in (phase m) g m

-- the phases that it measures
abbrev pub MarkOrSweep : Mem → Type 0
MarkOrSweep m = (phase m ≡ mark) ⊎ (phase m ≡ sweep)

-- ---- what holds of it, over memory that passes the examination

-- an element that may come next in a list
pub record Follows (g : Geometry) (words : List ℕ) (e : Element) : Type 0 where
  pub meets : Meets e
  pub long : KeepsLength e
  pub lent : (wrong_sized e ≡ true) ⊎ Gets g words e

pub record Measures (g : Geometry) (words : List ℕ) : Type 0 where
  -- a step is left, and in mark no more than its blocks in use allow
  pub some : 1 ≤ steps_left g (mem_of g words)
  pub most : phase (mem_of g words) ≡ mark → steps_left g (mem_of g words) ≤ blocks_in_use g (mem_of g words) + condemned_in g (mem_of g words) + 2
  -- each element, of whatever kind, lowers it by one at least where it is a step that is counted, and does not raise it where it is not
  pub lowers : (e : Element) → Follows g words e → steps_left g (mem_of g (next_words words e)) + counted_at e.event ≤ steps_left g (mem_of g words)
  -- each step that is lent this memory is counted
  pub counts : (e : Element) (r : Step) → Follows g words e → wrong_sized e ≡ false → e.event ≡ step_call r → counted_step r ≡ 1
  -- and none but done leaves mark and sweep
  pub stays : (e : Element) → Follows g words e → (e.event ≡ step_call Done → ⊥) → MarkOrSweep (mem_of g (next_words words e))

abbrev pub EveryMeasure : Type 0
EveryMeasure =
    (g : Geometry) (words : List ℕ) → wrong_size g (length words) ≡ false → Consistent g (mem_of g words) → MarkOrSweep (mem_of g words) → Measures g words
