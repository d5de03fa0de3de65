-- What a call must show, unless it is refused and nothing changes: the words of its memory afterwards are in order, they agree with the abstract machine's state after the same call,
-- and no segment came among the condemned. Consistency afterwards follows (`consistent-of`, proofs/Invariants.antt).
use Rattle.std.specs.Prelude.{◌≡◌, Bool, true, ℕ, ◌*◌, ◌≤◌, ◌<◌}
use Rattle.words.specs.Bits.{bit_at, ones_among}
use Rattle.layout.specs.declared.Geometry.{Geometry}
use Rattle.layout.specs.Geometry.{mutator_count, most_blocks, segment_of}
use Rattle.layout.specs.Mem.{Mem, Sizes, control_word, trace_word}
use Rattle.theory.specs.Phases.{Phase, idle, sync1, sync2, mark, sweep}
use Rattle.theory.specs.Calls.{Call, Answer, a_no, refusal}
use Rattle.theory.specs.Machine.{State, start}
use Rattle.theory.proofs.Agree.{Agree}
use Rattle.theory.proofs.CollectorKeeps.{Pick}
use Rattle.model.specs.Fields.{phase, trace_count, absent, state, acks, tag, class}
use Rattle.model.specs.PhaseNumbers.{phase_number}
use Rattle.model.specs.Records.{entered}
use Rattle.model.specs.Collector.{collects, started, lowest, step_of}
use Rattle.model.specs.Reaching.{IsEntry, Live}
use Rattle.model.specs.Consistent.{Consistent, SegmentOk, Occupied, Behind, MutatorOk, AcksIn, Summed, RecordOk, TraceOk, MarksOf, bit_word, InPhase}
use Rattle.refine_view.specs.View.{view}
use Rattle.model.specs.Calls as model
use Rattle.theory.specs.MachineCalls as machine
use Rattle.model.specs.Tag as Tag

-- consistency but for `occupied`, which a make breaks between taking a free segment and handing out a block of it, and `behind`, which no proof
-- but that of the sweep's code asks for
pub record Ordered (g : Geometry) (m : Mem) : Type 0 where
  pub phases : control_word m 0 ≤ phase_number sweep
  pub segments : (s : ℕ) → s < g.segments → SegmentOk g m s
  pub mutators : (k : ℕ) → k < mutator_count → MutatorOk g m k
  pub acknowledgements : (k : ℕ) → k < mutator_count → (state m k ≡ absent → ⊥) → AcksIn (phase m) (acks m k)
  pub summed : Summed g m
  pub records : (at : ℕ) → Live m at → RecordOk g m at
  pub trace : TraceOk g m
  pub cycle : InPhase (phase m) g m

-- ---- the parts of consistency that the abstract machine does not see

pub record EntriesOk (g : Geometry) (m : Mem) : Type 0 where
  pub named : (i : ℕ) → i < trace_count m → 1 ≤ trace_word m i
  pub bits : (at : ℕ) → IsEntry m at → entered g m at ≡ 1
  pub number : trace_count m ≤ ones_among (bit_at m.marks) (g.segments * most_blocks g)

abbrev pub MarksIn : Phase → Geometry → Mem → Type 0
MarksIn idle g m = (s : ℕ) → s < g.segments → tag m s ≡ Tag.condemned → ⊥
MarksIn sync1 g m = (k : ℕ) → k < g.segments * most_blocks g → bit_at m.marks k ≡ 1 → IsEntry m (bit_word k)
MarksIn sync2 g m = MarksOf g m (λ s. Unit {0})
MarksIn mark g m = MarksOf g m (λ s. Unit {0})
MarksIn sweep g m = MarksOf g m (λ s. tag m s ≡ Tag.condemned)

pub record Structure (g : Geometry) (m : Mem) : Type 0 where
  pub phases : control_word m 0 ≤ phase_number sweep
  pub segments : (s : ℕ) → s < g.segments → SegmentOk g m s
  pub mutators : (k : ℕ) → k < mutator_count → MutatorOk g m k
  pub summed : Summed g m
  pub records : (at : ℕ) → Live m at → RecordOk g m at
  pub trace : EntriesOk g m
  pub marks : MarksIn (phase m) g m

-- what `Ordered` and `Structure` both leave out, beside `Behind`: every segment is occupied
abbrev pub EachOccupied : Geometry → Mem → Type 0
EachOccupied g m = (s : ℕ) → s < g.segments → Occupied g m s

-- ---- from one memory to the next

-- a condemned segment was condemned before, with its class
abbrev pub Steady : Geometry → Mem → Mem → Type 0
Steady g m m' = (s : ℕ) → s < g.segments → tag m' s ≡ Tag.condemned → (tag m s ≡ Tag.condemned) × (class m' s ≡ class m s)

-- the memory afterwards, beside the machine's state afterwards
pub record Moves (g : Geometry) (m m' : Mem) (st : State) : Type 0 where
  pub structure : Structure g m'
  pub occupied : EachOccupied g m → EachOccupied g m'
  pub behind : Behind g m → Behind g m'
  pub agree : Agree (segment_of g) st (view g m')
  pub steady : Steady g m m'

-- a mutator's call that no number from 2 to 9 refuses, by an answer and a memory afterwards. `ready` is the memory that the call begins on: the one
-- it was lent, or, where a make first takes a segment, that memory with the segment taken, which the machine cannot tell from it. `block` is what
-- a make is handed.
pub record Matches (g : Geometry) (m : Mem) (c : Call) (r : Answer × Mem) : Type 0 where
  pub ready : Mem
  pub prepared : Agree (segment_of g) (view g m) (view g ready)
  pub shows : machine.observe (view g ready) ≡ machine.observe (view g m)
  pub block : ℕ
  pub permitted : machine.Permitted (segment_of g) block (view g ready) c
  pub answer : r.0 ≡ (machine.act block (view g ready) c).0
  pub moves : Moves g m r.1 (machine.act block (view g ready) c).1

-- it is refused by a number that is struck out, and nothing changes; or it is as on the machine
pub data Refines (out : ℕ → Bool) (g : Geometry) (m : Mem) (c : Call) (r : Answer × Mem) : Type 0 where
  refused_out : (n : ℕ) → out n ≡ true → r ≡ (a_no n, m) → Refines out g m c r
  agrees : Matches g m c r → Refines out g m c r

abbrev pub ActRefines : Geometry → Mem → Call → Type 0
ActRefines g m c = Matches g m c (model.act g m c)

abbrev pub CallRefines : (ℕ → Bool) → Geometry → Mem → Call → Type 0
CallRefines out g m c = Refines out g m c (model.act g m c)

-- a start that is not refused: the segments that it collects, with their classes, are the condemned segments
pub record StartRefines (g : Geometry) (m : Mem) : Type 0 where
  pub structure : Structure g (started g m)
  pub occupied : EachOccupied g m → EachOccupied g (started g m)
  pub behind : Behind g (started g m)
  pub agree : Agree (segment_of g) (start (view g m) (collects m)) (view g (started g m))
  pub collected : (s : ℕ) → s < g.segments → tag (started g m) s ≡ Tag.condemned → (collects m s ≡ true) × (class (started g m) s ≡ class m s)

-- a step; in sweep it takes the lowest condemned segment
pub record StepRefines (g : Geometry) (m : Mem) : Type 0 where
  pub picked : Pick (λ _. lowest m g.segments) (view g m)
  pub moves : Moves g m (step_of g m).1 (machine.step (segment_of g) (λ _. lowest m g.segments) (view g m))

-- what must be shown of every call of the model: mutators' calls, starts and steps
pub record AllRefine (out : ℕ → Bool) : Type 0 where
  pub calls : (g : Geometry) (m : Mem) → Sizes g m → Consistent g m → (c : Call) → refusal (model.observe m) c ≡ 0 → CallRefines out g m c
  pub starts : (g : Geometry) (m : Mem) → Sizes g m → Consistent g m → phase m ≡ idle → StartRefines g m
  pub steps : (g : Geometry) (m : Mem) → Sizes g m → Consistent g m → StepRefines g m
