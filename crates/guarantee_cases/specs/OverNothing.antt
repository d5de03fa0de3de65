-- What the theorem of the cycle over no segments says of a case: one segment, held at the start, one of its two records dropped. The cycle has
-- a make in each phase, an attach in the first handshake and a make of another class without room; after it comes a get.
use Rattle.std.specs.Prelude.{◌≡◌, true, List, [], ◌∷◌, ◌++◌, ℕ, Result, Ok, Err}
use Rattle.layout.specs.declared.Geometry.{Geometry}
use Rattle.layout.specs.Mem.{mem_of}
use Rattle.theory.specs.Phases.{mark, sweep, in_handshake}
use Rattle.theory.specs.Calls.{c_attach, c_check, c_clear, c_make, c_store, c_put, c_get, a_ok, a_num, a_no}
use Rattle.model.specs.declared.Answer.{Answer}
use Rattle.model.specs.declared.Refusal.{Refusal}
use Rattle.model.specs.declared.Step.TheVariants.{Waiting, Moved, Traced, Done, Idle}
use Rattle.model.specs.declared.Refusal.TheVariants.{NotNow}
use Rattle.model.specs.Fields.{phase, trace_count}
use Rattle.model.specs.Collector.{started}
use Rattle.model.specs.Consistent.{BlockInUse}
use Rattle.model.specs.Promise.{StartPromise}
use Rattle.model.specs.Lists.{Element, call_element, start_element, step_element, Chain, words_after, Opened, remaining_calls, remaining_answers}
use Rattle.guarantee.specs.Demand3.{struck_out}
use Rattle.guarantee.specs.EmptyCycle.{heap_answers, left_out, OverNothing}
use Rattle.guarantee.specs.Keeping.{NeverSwept}
use Rattle.guarantee_cases.specs.Columns.{left_column, right_column}
use Rattle.guarantee_cases.specs.Consequences.{Along}
use Rattle.model_cases.specs.Replies.{Line, ◌⇒◌, opening, start, step, call, answer, stepped, ok, no}
use Rattle.model.specs.declared.Answer.TheVariants as call_answer

abbrev pub over_nothing : List Line
over_nothing =
    opening ⇒ ok
    ∷ call (c_attach 0) ⇒ ok
    ∷ call (c_make 0 0 1 510) ⇒ ok
    ∷ call (c_put 0 0 0 77) ⇒ ok
    ∷ call (c_make 0 1 1 510) ⇒ ok
    ∷ call (c_clear 0 1) ⇒ ok
    ∷ start ⇒ ok
    ∷ call (c_make 0 1 1 510) ⇒ ok
    ∷ call (c_attach 1) ⇒ no 11
    ∷ step ⇒ stepped (Waiting 1)
    ∷ call (c_check 0) ⇒ ok
    ∷ step ⇒ stepped Moved
    ∷ call (c_make 0 2 1 510) ⇒ ok
    ∷ call (c_store 0 0 0 1) ⇒ ok
    ∷ call (c_check 0) ⇒ ok
    ∷ step ⇒ stepped Moved
    ∷ call (c_make 0 3 1 510) ⇒ ok
    ∷ call (c_make 0 4 0 0) ⇒ no 10
    ∷ step ⇒ stepped Traced
    ∷ step ⇒ stepped Traced
    ∷ step ⇒ stepped Traced
    ∷ step ⇒ stepped Moved
    ∷ call (c_make 0 5 1 510) ⇒ ok
    ∷ step ⇒ stepped Done
    ∷ step ⇒ stepped Idle
    ∷ call (c_get 0 0 0) ⇒ answer (a_num 77)
    ∷ []

pub record OfOverNothing : Type 0 where
  pub geometry : Geometry
  pub content : List ℕ
  pub words : List ℕ
  pub calls : List Element
  pub opened : Opened geometry content words
  pub chain : Chain geometry words calls
  -- no call of it is refused 12, the start with nothing full or part among them
  pub along : Along geometry words calls
  pub remaining : remaining_calls struck_out calls ≡ left_column over_nothing
  pub answers : remaining_answers struck_out calls ≡ right_column over_nothing
  -- the start, and what follows it
  pub before : List Element
  pub during : List Element
  pub start_before : List ℕ
  pub start_after : List ℕ
  pub starts : calls ≡ before ++ (start_element geometry start_before (Ok call_answer.Done) start_after ∷ during)
  pub over : OverNothing geometry start_before start_after during
  pub opens : mem_of geometry start_after ≡ started geometry (mem_of geometry start_before)
  -- no other answer keeps the promise of a start there
  pub accepted : (r : Result Answer Refusal) (after : List ℕ) → StartPromise geometry start_before r after → r ≡ Ok call_answer.Done
  -- the marking ends with an empty trace stack; the cycle comes to its done in sweep, and no segment is swept
  pub to_sweep : List Element
  pub from_sweep : List Element
  pub move_before : List ℕ
  pub move_after : List ℕ
  pub moved : during ≡ to_sweep ++ (step_element geometry move_before Moved move_after ∷ from_sweep)
  pub in_mark : phase (mem_of geometry (words_after start_after to_sweep)) ≡ mark
  pub emptied : trace_count (mem_of geometry (words_after start_after to_sweep)) ≡ 0
  pub to_done : List Element
  pub rest : List Element
  pub step_before : List ℕ
  pub step_after : List ℕ
  pub done : during ≡ to_done ++ (step_element geometry step_before Done step_after ∷ rest)
  pub in_sweep : phase (mem_of geometry (words_after start_after to_done)) ≡ sweep
  pub no_swept : (s : ℕ) → NeverSwept s during
  -- block 1, whose record the cleared root named, is in use before the start, and still at the end
  pub used : BlockInUse geometry (mem_of geometry start_before) 0 1
  pub kept : BlockInUse geometry (mem_of geometry (words_after start_before (start_element geometry start_before (Ok call_answer.Done) start_after ∷ during))) 0 1
  -- the calls that are compared, and what they are answered, after the start and by the heap before it, in idle: the make without room too
  pub compared : remaining_calls left_out during
      ≡ c_make 0 1 1 510 ∷ c_check 0 ∷ c_make 0 2 1 510 ∷ c_store 0 0 0 1 ∷ c_check 0 ∷ c_make 0 3 1 510 ∷ c_make 0 4 0 0 ∷ c_make 0 5 1 510 ∷ c_get 0 0 0 ∷ []
  pub in_list : remaining_answers left_out during ≡ a_ok ∷ a_ok ∷ a_ok ∷ a_ok ∷ a_ok ∷ a_ok ∷ a_no 10 ∷ a_ok ∷ a_num 77 ∷ []
  pub in_idle : heap_answers geometry (mem_of geometry start_before) (remaining_calls left_out during) ≡ a_ok ∷ a_ok ∷ a_ok ∷ a_ok ∷ a_ok ∷ a_ok ∷ a_no 10 ∷ a_ok ∷ a_num 77 ∷ []
  -- the attach was refused 11 in a handshake
  pub early : List Element
  pub late : List Element
  pub attach_before : List ℕ
  pub attach_after : List ℕ
  pub refused : during ≡ early ++ (call_element (c_attach 1) geometry attach_before (Err NotNow) attach_after ∷ late)
  pub handshake : in_handshake (phase (mem_of geometry (words_after start_after early))) ≡ true
