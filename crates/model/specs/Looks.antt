-- The looks: each with its answer and, where it has one, its lent output or scratch before and after. A further look is one more case of each
-- definition here.
use Rattle.std.specs.Prelude.{Bool, true, List, ℕ, eqb, length, Result}
use Rattle.std.proofs.Math.Option.{Option}
use Rattle.layout.specs.declared.Geometry.{Geometry}
use Rattle.layout.specs.Geometry.{len, scratch_words, sheet_bytes}
use Rattle.model.specs.declared.Answer.{Answer}
use Rattle.model.specs.declared.Refusal.{Refusal}
use Rattle.model.specs.Answers.{refusal_of, phase_refusal_of, examined_refusal_of}
use Rattle.model.specs.Promise.{PhasePromise, StatesPromise, SheetPromise, ExaminePromise}
use Rattle.layout.specs.Region as Region

-- "Looks: phase, segment states, examination."; document 02, No. 10: "The sheet is a look."
pub data Look : Type 0 where
  saw_phase : Result ℕ Refusal → Look
  saw_states : (output : List ℕ) → Result Answer Refusal → (after : List ℕ) → Look
  saw_sheet : (output : List ℕ) → Result Answer Refusal → (after : List ℕ) → Look
  examined_by : (scratch : List ℕ) → Result Bool Refusal → (after : List ℕ) → Look

-- what it promises, over the memory that it was lent
abbrev pub LookPromise : Geometry → List ℕ → Look → Type 0
LookPromise g mem (saw_phase r) = PhasePromise g mem r
LookPromise g mem (saw_states output r after) = StatesPromise g mem output r after
LookPromise g mem (saw_sheet output r after) = SheetPromise g mem output r after
LookPromise g mem (examined_by scratch r after) = ExaminePromise g mem scratch r after

-- whether its output or scratch has its length
abbrev pub look_sized : Geometry → Look → Bool
look_sized g (saw_phase r) = true
look_sized g (saw_states output r after) = eqb (length output) (len g Region.segments)
look_sized g (saw_sheet output r after) = eqb (length output) (sheet_bytes g)
look_sized g (examined_by scratch r after) = eqb (length scratch) (scratch_words g)

-- the number of its refusal
abbrev pub look_number : Look → Option ℕ
look_number (saw_phase r) = phase_refusal_of r
look_number (saw_states output r after) = refusal_of r
look_number (saw_sheet output r after) = refusal_of r
look_number (examined_by scratch r after) = examined_refusal_of r
