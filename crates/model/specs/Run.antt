-- The model's own run: what is asked, answered by the definitions themselves, as a list of elements.
use Rattle.std.specs.Prelude.{Bool, true, false, List, [], ◌∷◌, ℕ, eqb, length, replicate, Result, Ok, Err}
use Rattle.layout.specs.declared.Geometry.{Geometry}
use Rattle.layout.specs.Geometry.{len, scratch_words, sheet_bytes}
use Rattle.layout.specs.Mem.{Mem, mem_of, flat, control_word}
use Rattle.theory.specs.Calls.{Call, a_ok, a_moved, a_traced, a_done, a_idle, a_num, a_flag, a_shape, a_no, a_waiting, a_swept}
use Rattle.model.specs.declared.Answer.{Answer}
use Rattle.model.specs.declared.Answer.TheVariants.{Done, Number, Same, Shape}
use Rattle.model.specs.declared.Refusal.{Refusal}
use Rattle.model.specs.declared.Refusal.TheVariants.{Size}
use Rattle.model.specs.Refusals.{refusal_numbered}
use Rattle.model.specs.declared.Step.{Step}
use Rattle.model.specs.Calls.{exec}
use Rattle.model.specs.Collector.{start_of, step_of}
use Rattle.model.specs.Sheet.{sheet_of}
use Rattle.model.specs.Looks.{Look, saw_phase, saw_states, saw_sheet, examined_by}
use Rattle.model.specs.Lists.{Event, mutator_call, start_call, step_call, look_call, Element}
use Rattle.model.specs.declared.Step.TheVariants as step_answer
use Rattle.theory.specs.Calls as theory
use Rattle.layout.specs.Region as Region

-- a look that is asked for: at the phase, at the segments' states or the sheet into an output, or the examination with a scratch
pub data Query : Type 0 where
  of_phase : Query
  of_states : (output : List ℕ) → Query
  of_sheet : (output : List ℕ) → Query
  of_examination : (scratch : List ℕ) → Query

-- a mutator's call, one of the collector's calls, or a look
pub data Command : Type 0 where
  call : Call → Command
  start step : Command
  look : Query → Command

-- an answer of a definition as the declared one: a mutator's call and start give none of the results of step, and step none of theirs
abbrev pub declared : theory.Answer → Result Answer Refusal
declared a_ok = Ok Done
declared (a_num v) = Ok (Number v)
declared (a_flag b) = Ok (Same b)
declared (a_shape s) = Ok (Shape s)
declared (a_no n) = Err (refusal_numbered n)
declared a_moved = Ok Done
declared a_traced = Ok Done
declared a_done = Ok Done
declared a_idle = Ok Done
declared (a_waiting n) = Ok Done
declared (a_swept s f) = Ok Done

abbrev pub declared_step : theory.Answer → Step
declared_step a_moved = step_answer.Moved
declared_step a_traced = step_answer.Traced
declared_step a_done = step_answer.Done
declared_step a_idle = step_answer.Idle
declared_step (a_waiting n) = step_answer.Waiting n
declared_step (a_swept s f) = step_answer.Swept s f
declared_step (a_no n) = step_answer.Refused n
declared_step a_ok = step_answer.Idle
declared_step (a_num v) = step_answer.Idle
declared_step (a_flag b) = step_answer.Idle
declared_step (a_shape s) = step_answer.Idle

-- the segments' states, where the output has their length
abbrev pub shown_states : Bool → Mem → List ℕ → Look
shown_states true m output = saw_states output (Ok Done) m.segments
shown_states false m output = saw_states output (Err Size) output

-- the sheet, where the output has its length
abbrev pub shown_sheet : Bool → Geometry → Mem → List ℕ → Look
shown_sheet true g m output = saw_sheet output (Ok Done) (sheet_of g m)
shown_sheet false g m output = saw_sheet output (Err Size) output

-- yes, as along every list from an opening, where the scratch has its length
abbrev pub examined : Bool → Geometry → List ℕ → Look
examined true g scratch = examined_by scratch (Ok true) (replicate (scratch_words g) 0)
examined false g scratch = examined_by scratch (Err Size) scratch

abbrev pub look_of : Geometry → Mem → Query → Look
look_of g m of_phase = saw_phase (Ok (control_word m 0))
look_of g m (of_states output) = shown_states (eqb (length output) (len g Region.segments)) m output
look_of g m (of_sheet output) = shown_sheet (eqb (length output) (sheet_bytes g)) g m output
look_of g m (of_examination scratch) = examined (eqb (length scratch) (scratch_words g)) g scratch

-- the event that answers a command, and the memory that it leaves
abbrev pub answer_to : Geometry → Mem → Command → Event × Mem
answer_to g m (call c) = (mutator_call c (declared (exec g m c).0), (exec g m c).1)
answer_to g m start = (start_call (declared (start_of g m).0), (start_of g m).1)
answer_to g m step = (step_call (declared_step (step_of g m).0), (step_of g m).1)
answer_to g m (look q) = (look_call (look_of g m q), m)

abbrev pub answered : Geometry → List ℕ → Command → Element
answered g words r = record {
  geometry = g;
  before = words;
  event = (answer_to g (mem_of g words) r).0;
  after = flat (answer_to g (mem_of g words) r).1;
}

abbrev pub run : Geometry → List ℕ → List Command → List Element
run g words [] = []
run g words (r ∷ rs) = answered g words r ∷ run g (answered g words r).after rs
