-- The declared answers as document 01 has them: for each enum one definition gives the number and the values of its cases, and the promises use
-- it. Then which results and which refusals a call may give, over memory of any content.
use Rattle.std.specs.Prelude.{◌≡◌, Bool, true, false, List, [], ◌∷◌, ℕ, ◌≤◌, ◌<◌, eqb, Result, Ok, Err}
use Rattle.std.proofs.Math.Option.{Option, none, some}
use Rattle.basics.specs.Pick.{pick}
use Rattle.classes.specs.declared.RecordShape.{RecordShape}
use Rattle.layout.specs.declared.Geometry.{Geometry}
use Rattle.layout.specs.Geometry.{mutator_count, most_blocks}
use Rattle.theory.specs.Phases.{sweep}
use Rattle.theory.specs.Calls.{Call, CallKind, coming, working, asks_number, asks_flag, asks_shape, making, kind_of, c_attach, c_detach, c_check, c_leave, c_enter, c_spawn, c_make, c_load, c_store, c_copy, c_clear, c_put, c_get, c_same, c_shape, a_ok, a_moved, a_traced, a_done, a_idle, a_num, a_flag, a_shape, a_no, a_waiting, a_swept}
use Rattle.model.specs.PhaseNumbers.{phase_number}
use Rattle.model.specs.Records.{InHalves}
use Rattle.model.specs.declared.Answer.{Answer}
use Rattle.model.specs.declared.Answer.TheVariants.{Done, Number, Same, Shape}
use Rattle.model.specs.declared.Refusal.{Refusal}
use Rattle.model.specs.Refusals.{number_of}
use Rattle.model.specs.declared.Step.{Step}
use Rattle.theory.specs.Calls as theory
use Rattle.model.specs.declared.Step.TheVariants as step_answer

-- ---- the enums

-- of a mutator's call, of an opening and of start: ok, a number, whether two roots are equal, a shape, or a refusal
abbrev pub answer_of : Result Answer Refusal → theory.Answer
answer_of (Ok Done) = a_ok
answer_of (Ok (Number v)) = a_num v
answer_of (Ok (Same b)) = a_flag b
answer_of (Ok (Shape s)) = a_shape s
answer_of (Err e) = a_no (number_of e)

-- of step
abbrev pub step_answer_of : Step → theory.Answer
step_answer_of (step_answer.Waiting n) = a_waiting n
step_answer_of step_answer.Moved = a_moved
step_answer_of step_answer.Traced = a_traced
step_answer_of (step_answer.Swept s f) = a_swept s f
step_answer_of step_answer.Done = a_done
step_answer_of step_answer.Idle = a_idle
step_answer_of (step_answer.Refused n) = a_no n

-- of the look at the phase: the phase's number
abbrev pub phase_answer_of : Result ℕ Refusal → theory.Answer
phase_answer_of (Ok p) = a_num p
phase_answer_of (Err e) = a_no (number_of e)

-- of the examination: whether it "says yes"
abbrev pub examined_answer_of : Result Bool Refusal → theory.Answer
examined_answer_of (Ok b) = a_flag b
examined_answer_of (Err e) = a_no (number_of e)

-- the number of a refusal
abbrev pub refusal_in : theory.Answer → Option ℕ
refusal_in a_ok = none
refusal_in a_moved = none
refusal_in a_traced = none
refusal_in a_done = none
refusal_in a_idle = none
refusal_in (a_num v) = none
refusal_in (a_flag b) = none
refusal_in (a_shape s) = none
refusal_in (a_no n) = some n
refusal_in (a_waiting n) = none
refusal_in (a_swept s f) = none

abbrev pub refusal_of : Result Answer Refusal → Option ℕ
refusal_of r = refusal_in (answer_of r)

abbrev pub step_refusal_of : Step → Option ℕ
step_refusal_of r = refusal_in (step_answer_of r)

abbrev pub phase_refusal_of : Result ℕ Refusal → Option ℕ
phase_refusal_of r = refusal_in (phase_answer_of r)

abbrev pub examined_refusal_of : Result Bool Refusal → Option ℕ
examined_refusal_of r = refusal_in (examined_answer_of r)

-- ---- which result a call gives, over memory of any content: "No script call answers a block or segment number"

abbrev pub IsOk : theory.Answer → Type 0
IsOk a = a ≡ a_ok

abbrev pub IsNumber : theory.Answer → Type 0
IsNumber a = (v : ℕ) × (a ≡ a_num v)

abbrev pub IsFlag : theory.Answer → Type 0
IsFlag a = (b : Bool) × (a ≡ a_flag b)

abbrev pub IsRecordShape : theory.Answer → Type 0
IsRecordShape a = (s : RecordShape) × (a ≡ a_shape s) × InHalves s

abbrev pub ResultBy : CallKind → theory.Answer → Type 0
ResultBy coming a = IsOk a
ResultBy (making k d) a = IsOk a
ResultBy working a = IsOk a
ResultBy asks_number a = IsNumber a
ResultBy asks_flag a = IsFlag a
ResultBy asks_shape a = IsRecordShape a

abbrev pub ResultOf : Call → theory.Answer → Type 0
ResultOf c = ResultBy (kind_of c)

-- step waits for one mutator at least, and sweeps a segment of the memory, whose blocks are no more than a segment can have
pub data StepResult (g : Geometry) : theory.Answer → Type 0 where
  is_waiting : (n : ℕ) → 1 ≤ n → n ≤ mutator_count → StepResult g (a_waiting n)
  is_moved : StepResult g a_moved
  is_traced : StepResult g a_traced
  is_swept : (s f : ℕ) → s < g.segments → f ≤ most_blocks g → StepResult g (a_swept s f)
  is_done : StepResult g a_done
  is_idle : StepResult g a_idle

-- the look at the phase: "Phases are idle, roll 1, roll 2, mark and sweep", 0 to 4
abbrev pub IsPhase : theory.Answer → Type 0
IsPhase a = (p : ℕ) × (a ≡ a_num p) × (p ≤ phase_number sweep)

-- ---- which numbers of the table a call may give, over memory of any content

-- document 01's table of refusals goes from 1 to this number
abbrev pub last_number : ℕ
last_number = 13

abbrev pub among : ℕ → List ℕ → Bool
among n [] = false
among n (x ∷ xs) = pick (eqb n x) true (among n xs)

-- the numbers of a call's own, beside "1, size" and "13, torn", which every mutator's call may give
abbrev pub own_numbers : Call → List ℕ
own_numbers (c_attach k) = 2 ∷ 3 ∷ 11 ∷ []
own_numbers (c_spawn k p i) = 2 ∷ 3 ∷ 4 ∷ 5 ∷ 6 ∷ 11 ∷ []
own_numbers (c_detach k) = 2 ∷ 4 ∷ 5 ∷ 11 ∷ []
own_numbers (c_check k) = 2 ∷ 4 ∷ 5 ∷ []
own_numbers (c_leave k) = 2 ∷ 4 ∷ 5 ∷ []
own_numbers (c_enter k) = 2 ∷ 4 ∷ 5 ∷ []
own_numbers (c_make k d p n) = 2 ∷ 4 ∷ 5 ∷ 6 ∷ 9 ∷ 10 ∷ []
own_numbers (c_load k d i f) = 2 ∷ 4 ∷ 5 ∷ 6 ∷ 7 ∷ 8 ∷ []
own_numbers (c_store k i f j) = 2 ∷ 4 ∷ 5 ∷ 6 ∷ 7 ∷ 8 ∷ []
own_numbers (c_copy k d i) = 2 ∷ 4 ∷ 5 ∷ 6 ∷ []
own_numbers (c_clear k d) = 2 ∷ 4 ∷ 5 ∷ 6 ∷ []
own_numbers (c_put k i f v) = 2 ∷ 4 ∷ 5 ∷ 6 ∷ 7 ∷ 8 ∷ []
own_numbers (c_get k i f) = 2 ∷ 4 ∷ 5 ∷ 6 ∷ 7 ∷ 8 ∷ []
own_numbers (c_same k i j) = 2 ∷ 4 ∷ 5 ∷ 6 ∷ []
own_numbers (c_shape k i) = 2 ∷ 4 ∷ 5 ∷ 6 ∷ 7 ∷ []

abbrev pub may_give : Call → List ℕ
may_give c = 1 ∷ 13 ∷ own_numbers c

-- "11, not now". Request No. 1: "Refusal 12 never occurs any more": it stays in the table as a number that no call gives
abbrev pub start_may_give : List ℕ
start_may_give = 1 ∷ 11 ∷ 13 ∷ []

-- "step refuses only with 1 and 13"
abbrev pub step_may_give : List ℕ
step_may_give = 1 ∷ 13 ∷ []

-- a look at memory that fails the examination: "13, torn"
abbrev pub look_may_give : List ℕ
look_may_give = 1 ∷ 13 ∷ []
