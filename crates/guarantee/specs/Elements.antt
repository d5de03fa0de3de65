-- What one element of a list does to memory that passes the examination: the law that every theorem over lists stands on, whatever the list
-- began with.
use Rattle.std.specs.Prelude.{◌≡◌, ◌⊎◌, true, false, List, ℕ, length, Result, Ok, Err}
use Rattle.std.proofs.Math.Option.{some}
use Rattle.layout.specs.declared.Geometry.{Geometry}
use Rattle.layout.specs.Geometry.{wrong_size}
use Rattle.layout.specs.Mem.{Mem, mem_of}
use Rattle.theory.specs.Phases.{idle}
use Rattle.theory.specs.Calls.{Call, a_ok, a_no}
use Rattle.model.specs.declared.Answer.{Answer}
use Rattle.model.specs.declared.Answer.TheVariants.{Done}
use Rattle.model.specs.declared.Refusal.{Refusal}
use Rattle.model.specs.declared.Step.{Step}
use Rattle.model.specs.Refusals.{number_of}
use Rattle.model.specs.Answers.{answer_of, step_answer_of}
use Rattle.model.specs.Fields.{phase}
use Rattle.model.specs.Calls.{exec}
use Rattle.model.specs.Collector.{started, start_of, step_of}
use Rattle.model.specs.Consistent.{Consistent}
use Rattle.model.specs.Looks.{Look}
use Rattle.model.specs.Lists.{Event, mutator_call, start_call, step_call, look_call, Element, Meets, KeepsLength, Gets, wrong_sized, event_number, next_words}

-- from memory m to memory m': the memory as it was, or what the definition of the call makes of it, with that answer
pub data Acts (g : Geometry) (m m' : Mem) : Event → Type 0 where
  wrong : {v : Event} → event_number v ≡ some 1 → m' ≡ m → Acts g m m' v
  looks : {l : Look} → m' ≡ m → Acts g m m' (look_call l)
  calls : {c : Call} {r : Result Answer Refusal} → answer_of r ≡ (exec g m c).0 → m' ≡ (exec g m c).1 → Acts g m m' (mutator_call c r)
  starts : phase m ≡ idle → (start_of g m).0 ≡ a_ok → m' ≡ started g m → Acts g m m' (start_call (Ok Done))
  start_refused : {w : Refusal} → (start_of g m).0 ≡ a_no (number_of w) → m' ≡ m → Acts g m m' (start_call (Err w))
  steps : {r : Step} → step_answer_of r ≡ (step_of g m).0 → m' ≡ (step_of g m).1 → Acts g m m' (step_call r)

pub record Continues (g : Geometry) (words : List ℕ) (e : Element) : Type 0 where
  pub sized : wrong_size g (length (next_words words e)) ≡ false
  pub consistent : Consistent g (mem_of g (next_words words e))
  pub acts : Acts g (mem_of g words) (mem_of g (next_words words e)) e.event

abbrev pub EveryElement : Type 0
EveryElement =
    (g : Geometry) (words : List ℕ) (e : Element) → wrong_size g (length words) ≡ false → Consistent g (mem_of g words) → Meets e → KeepsLength e
    → (wrong_sized e ≡ true) ⊎ Gets g words e → Continues g words e
