-- Request No. 1: "A start in idle with no full segment now opens a cycle over no segments", which by request No. 5 "now needs a start with neither full
-- nor part ones". What holds from such a start to the next accepted one, over memory that passes the examination and not only along lists from an
-- opening; that a start in idle is accepted; and that no call is refused 12.
use Rattle.std.specs.Prelude.{◌≡◌, Bool, true, false, List, [], ◌∷◌, ◌++◌, ℕ, ◌<◌, eqb, length, Result, Ok}
use Rattle.std.proofs.Math.Option.{some}
use Rattle.basics.specs.Pick.{pick}
use Rattle.layout.specs.declared.Geometry.{Geometry}
use Rattle.layout.specs.Geometry.{wrong_size, mutator_count}
use Rattle.layout.specs.Mem.{Mem, mem_of}
use Rattle.theory.specs.Phases.{Phase, idle, sync1, sync2, mark, sweep, in_handshake, owes}
use Rattle.theory.specs.Calls.{Call}
use Rattle.model.specs.declared.Answer.{Answer}
use Rattle.model.specs.declared.Refusal.{Refusal}
use Rattle.model.specs.declared.Step.{Step}
use Rattle.model.specs.declared.Step.TheVariants.{Waiting, Moved, Traced, Swept, Done, Idle, Refused}
use Rattle.model.specs.Answers.{refusal_of}
use Rattle.model.specs.Fields.{phase, trace_count, acks, class}
use Rattle.model.specs.Calls.{is_inside, exec}
use Rattle.model.specs.Collector.{collects, started, waiting}
use Rattle.model.specs.Consistent.{Consistent, BlockInUse, is_free}
use Rattle.model.specs.Promise.{StartPromise}
use Rattle.model.specs.Lists.{Event, mutator_call, start_call, step_call, opening_call, look_call, Element, start_element, Meets, wrong_sized, number_of, Chain, words_after, remaining_calls, remaining_answers}
use Rattle.guarantee.specs.Keeping.{NeverSwept}
use Rattle.theory.specs.Calls as theory
use Rattle.model.specs.declared.Answer.TheVariants as call_answer

-- the answers that mutators' calls get, one after the other, from the memory m on
abbrev pub heap_answers : Geometry → Mem → List Call → List theory.Answer
heap_answers g m [] = []
heap_answers g m (c ∷ cs) = (exec g m c).0 ∷ heap_answers g (exec g m c).1 cs

-- the calls that are left out of the comparison: refused 1, as they were not lent this memory, and "save 11"
abbrev pub left_out : ℕ → Bool
left_out n = pick (eqb n 1) true (eqb n 11)

-- "a start with neither full nor part ones": memory of the right size that passes the examination, of whose segments a start condemns none; a start
-- that is not refused; and further calls of every kind, with no such start among them
pub record OverNothing (g : Geometry) (words after : List ℕ) (ds : List Element) : Type 0 where
  pub sized : wrong_size g (length words) ≡ false
  pub consistent : Consistent g (mem_of g words)
  pub nothing : (s : ℕ) → s < g.segments → collects (mem_of g words) s ≡ false
  pub chain : Chain g words (start_element g words (Ok call_answer.Done) after ∷ ds)
  pub one_start : (xs ys : List Element) (u v : List ℕ) → ds ≡ xs ++ (start_element g u (Ok call_answer.Done) v ∷ ys) → ⊥

-- from memory m to a later memory m' nothing becomes free, which is: "the block is not in use, or its segment is free"
pub record FreesNothing (g : Geometry) (m m' : Mem) : Type 0 where
  pub segments : (s : ℕ) → is_free m s ≡ false → (is_free m' s ≡ false) × (class m' s ≡ class m s)
  pub blocks : (s b : ℕ) → BlockInUse g m s b → BlockInUse g m' s b

-- ---- "held as usual": which answer a step gives in which phase, and the phase by the answers alone

-- a step that is lent memory m: in a roll call it waits for the mutators inside that owe an answer, and says how many, and moves on when none does; in mark
-- it traces while the trace stack has an entry, and moves on when it has none; it is done in sweep alone
pub data StepsIn (m : Mem) : Phase → Step → Type 0 where
  waits : {p : Phase} {n : ℕ} → in_handshake p ≡ true → n ≡ waiting m mutator_count → (n ≡ 0 → ⊥) → StepsIn m p (Waiting n)
  moves : {p : Phase} → in_handshake p ≡ true → ((k : ℕ) → k < mutator_count → is_inside m k ≡ true → owes p (acks m k) ≡ false) → StepsIn m p Moved
  traces : (trace_count m ≡ 0 → ⊥) → StepsIn m mark Traced
  empties : trace_count m ≡ 0 → StepsIn m mark Moved
  ends : StepsIn m sweep Done
  rests : StepsIn m idle Idle

-- roll 1, roll 2, mark, sweep; no step moves on from idle or sweep
abbrev pub following : Phase → Phase
following idle = idle
following sync1 = sync2
following sync2 = mark
following mark = sweep
following sweep = sweep

-- moved leads to the following phase and done to idle; nothing else changes it
abbrev pub stepped_to : Phase → Step → Phase
stepped_to p (Waiting n) = p
stepped_to p Moved = following p
stepped_to p Traced = p
stepped_to p (Swept s f) = p
stepped_to p Done = idle
stepped_to p Idle = p
stepped_to p (Refused n) = p

abbrev pub phase_by : Phase → Event → Phase
phase_by p (mutator_call c r) = p
phase_by p (start_call r) = p
phase_by p (step_call r) = stepped_to p r
phase_by p (opening_call r) = p
phase_by p (look_call l) = p

abbrev pub phase_after : Phase → List Element → Phase
phase_after p [] = p
phase_after p (e ∷ es) = phase_after (phase_by p e.event) es

-- ---- what holds of every such list

pub record EmptyCycle (g : Geometry) (words after : List ℕ) (ds : List Element) : Type 0 where
  -- "now opens a cycle": in idle, and the memory becomes that of every start, by the one definition
  pub opens : (phase (mem_of g words) ≡ idle) × (mem_of g after ≡ started g (mem_of g words))
  -- "Both roll calls and the marking are held as usual": each step that is lent the list's memory; and at each point the phase is the one that the answers
  -- before it lead to, from roll 1 on
  pub steps : (xs ys : List Element) (e : Element) (r : Step) → ds ≡ xs ++ (e ∷ ys) → e.event ≡ step_call r → wrong_sized e ≡ false
      → StepsIn (mem_of g (words_after after xs)) (phase (mem_of g (words_after after xs))) r
  pub phases : (xs ys : List Element) → ds ≡ xs ++ ys → phase (mem_of g (words_after after xs)) ≡ phase_after sync1 xs
  -- "and the first step in sweep answers done": a step there that is lent the list's memory
  pub done : (xs ys : List Element) (e : Element) (r : Step) → ds ≡ xs ++ (e ∷ ys) → e.event ≡ step_call r → wrong_sized e ≡ false → phase (mem_of g (words_after after xs)) ≡ sweep → r ≡ Done
  -- "over no segments"
  pub no_swept : (s : ℕ) → NeverSwept s ds
  -- "A cycle over nothing frees nothing": between any two points of the list, the one before the start among them
  pub frees : (xs ys zs : List Element) → start_element g words (Ok call_answer.Done) after ∷ ds ≡ xs ++ (ys ++ zs)
      → FreesNothing g (mem_of g (words_after words xs)) (mem_of g (words_after (words_after words xs) ys))
  -- "while it lasts each script call answers what it would answer over the same heap in idle": over the heap that was lent to the start, one call
  -- after the other, refusal 10 among the answers
  pub as_in_idle : remaining_answers left_out ds ≡ heap_answers g (mem_of g words) (remaining_calls left_out ds)
  -- "save 11 in its roll calls"
  pub not_now : (xs ys : List Element) (e : Element) (c : Call) (r : Result Answer Refusal) → ds ≡ xs ++ (e ∷ ys) → e.event ≡ mutator_call c r → refusal_of r ≡ some 11
      → in_handshake (phase (mem_of g (words_after after xs))) ≡ true

abbrev pub EveryEmptyCycle : Type 0
EveryEmptyCycle = (g : Geometry) (words after : List ℕ) (ds : List Element) → OverNothing g words after ds → EmptyCycle g words after ds

-- "A start in idle .. now opens a cycle": there it is not refused, whatever the segments are
abbrev pub IdleAccepts : Type 0
IdleAccepts =
    (g : Geometry) (words after : List ℕ) (r : Result Answer Refusal) → wrong_size g (length words) ≡ false → Consistent g (mem_of g words) → phase (mem_of g words) ≡ idle
    → StartPromise g words r after → r ≡ Ok call_answer.Done

-- "Refusal 12 never occurs any more": whatever a call was lent
abbrev pub NeverTwelve : Type 0
NeverTwelve = (e : Element) → Meets e → number_of e ≡ some 12 → ⊥
