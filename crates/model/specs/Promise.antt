-- What each public call promises of its answer and of what it was lent afterwards: the record that its `ensures` cites whole. Over memory that
-- fails the examination a call is only safe and finite, its results are of its own kind, and its refusals are numbers that document 01 allows it.
use Rattle.std.specs.Prelude.{◌≡◌, Bool, true, false, List, ℕ, length, replicate, Result}
use Rattle.std.proofs.Math.Option.{none, some}
use Rattle.layout.specs.declared.Geometry.{Geometry}
use Rattle.layout.specs.Geometry.{len, scratch_words, sheet_bytes, wrong_size}
use Rattle.layout.specs.Mem.{Mem, mem_of, control_word}
use Rattle.theory.specs.Calls.{Call, a_ok, a_num, a_flag, a_no}
use Rattle.model.specs.declared.Answer.{Answer}
use Rattle.model.specs.declared.Step.{Step}
use Rattle.model.specs.declared.Refusal.{Refusal}
use Rattle.model.specs.Answers.{answer_of, step_answer_of, phase_answer_of, examined_answer_of, refusal_in, refusal_of, examined_refusal_of, IsOk, ResultOf, StepResult, IsPhase, among, may_give, start_may_give, step_may_give, look_may_give}
use Rattle.model.specs.Calls.{exec}
use Rattle.model.specs.Collector.{start_of, step_of}
use Rattle.model.specs.Opening.{opened}
use Rattle.model.specs.Consistent.{Consistent}
use Rattle.model.specs.Sheet.{sheet_of}
use Rattle.theory.specs.Calls as theory
use Rattle.layout.specs.Region as Region

-- a call that answers and leaves the memory as a definition says, gives results of its own kind, may refuse with some numbers only, and gives 1
-- exactly where a size is wrong; `value` is its enum's answer as document 01 has it
module _ {A : Type 0} (value : A → theory.Answer) (Kind : Geometry → theory.Answer → Type 0) (may_refuse : List ℕ) (does : Geometry → Mem → theory.Answer × Mem) where
  pub record PromiseOf (g : Geometry) (before : List ℕ) (r : A) (after : List ℕ) : Type 0 where
    -- "1, size: .. (any call)"; not a word is changed
    pub sizes : wrong_size g (length before) ≡ true → (value r ≡ a_no 1) × (after ≡ before)
    -- over memory that passes the examination, answer and memory are the definition's
    pub exact : wrong_size g (length before) ≡ false → Consistent g (mem_of g before)
        → (value r ≡ (does g (mem_of g before)).0) × (mem_of g after ≡ (does g (mem_of g before)).1)
    -- always: a result is of the call's own kind; a refusal is a number that the call may give, and 1 only where a size is wrong
    pub kind : refusal_in (value r) ≡ none → Kind g (value r)
    pub allowed : (n : ℕ) → refusal_in (value r) ≡ some n → among n may_refuse ≡ true
    pub only_size : refusal_in (value r) ≡ some 1 → wrong_size g (length before) ≡ true

-- a mutator's call
abbrev pub Promise : Call → Geometry → List ℕ → Result Answer Refusal → List ℕ → Type 0
Promise c = PromiseOf answer_of (λ g. ResultOf c) (may_give c) (λ g m. exec g m c)

abbrev pub StartPromise : Geometry → List ℕ → Result Answer Refusal → List ℕ → Type 0
StartPromise = PromiseOf answer_of (λ g. IsOk) start_may_give start_of

abbrev pub StepPromise : Geometry → List ℕ → Step → List ℕ → Type 0
StepPromise = PromiseOf step_answer_of StepResult step_may_give step_of

-- an opening is exact over memory of any content: "an opening .. only with 1"
pub record OpenPromise (g : Geometry) (before : List ℕ) (r : Result Answer Refusal) (after : List ℕ) : Type 0 where
  pub sizes : wrong_size g (length before) ≡ true → (answer_of r ≡ a_no 1) × (after ≡ before)
  pub exact : wrong_size g (length before) ≡ false → (answer_of r ≡ a_ok) × (mem_of g after ≡ opened g (mem_of g before))

-- the look at the phase: its number; nothing changes
abbrev pub PhasePromise : Geometry → List ℕ → Result ℕ Refusal → Type 0
PhasePromise g mem r = PromiseOf phase_answer_of (λ g. IsPhase) look_may_give (λ g m. (a_num (control_word m 0), m)) g mem r mem

-- the look at the segments' states: the output, of as many words as the segment records, gets their words; "Refused, it leaves the output
-- unchanged"
pub record StatesPromise (g : Geometry) (mem output : List ℕ) (r : Result Answer Refusal) (after : List ℕ) : Type 0 where
  pub sizes : (wrong_size g (length mem) ≡ true → answer_of r ≡ a_no 1) × ((length output ≡ len g Region.segments → ⊥) → answer_of r ≡ a_no 1)
  pub exact : wrong_size g (length mem) ≡ false → length output ≡ len g Region.segments → Consistent g (mem_of g mem) → (answer_of r ≡ a_ok) × (after ≡ (mem_of g mem).segments)
  pub torn : wrong_size g (length mem) ≡ false → length output ≡ len g Region.segments → (n : ℕ) → refusal_of r ≡ some n → n ≡ 13
  pub kind : refusal_of r ≡ none → answer_of r ≡ a_ok
  pub unchanged : (n : ℕ) → refusal_of r ≡ some n → after ≡ output

-- a look that shows the memory in a lent output of its length: it gets what is shown; refused, it leaves the output unchanged. The look at the
-- states keeps it at the words of the segment records (model_laws/proofs/Shown.antt)
module _ (long : Geometry → ℕ) (shown : Geometry → Mem → List ℕ) where
  pub record OutputPromise (g : Geometry) (mem output : List ℕ) (r : Result Answer Refusal) (after : List ℕ) : Type 0 where
    pub sizes : (wrong_size g (length mem) ≡ true → answer_of r ≡ a_no 1) × ((length output ≡ long g → ⊥) → answer_of r ≡ a_no 1)
    pub exact : wrong_size g (length mem) ≡ false → length output ≡ long g → Consistent g (mem_of g mem) → (answer_of r ≡ a_ok) × (after ≡ shown g (mem_of g mem))
    pub torn : wrong_size g (length mem) ≡ false → length output ≡ long g → (n : ℕ) → refusal_of r ≡ some n → n ≡ 13
    pub kind : refusal_of r ≡ none → answer_of r ≡ a_ok
    pub unchanged : (n : ℕ) → refusal_of r ≡ some n → after ≡ output

-- the sheet: the output, of as many bytes as the sheet, gets its characters. Document 02, No. 10: "The sheet is a look. Turned away: 1 for an
-- output slice not of the sheet's length."
abbrev pub SheetPromise : Geometry → List ℕ → List ℕ → Result Answer Refusal → List ℕ → Type 0
SheetPromise = OutputPromise sheet_bytes sheet_of

-- the examination: yes exactly when the memory is consistent, over memory of any content; the scratch, of its own length (docs/LAYOUT.md), ends all
-- zero, "refused 1, the scratch too" unchanged
pub record ExaminePromise (g : Geometry) (mem scratch : List ℕ) (r : Result Bool Refusal) (after : List ℕ) : Type 0 where
  pub sizes : (wrong_size g (length mem) ≡ true → (examined_answer_of r ≡ a_no 1) × (after ≡ scratch)) × ((length scratch ≡ scratch_words g → ⊥) → (examined_answer_of r ≡ a_no 1) × (after ≡ scratch))
  pub sound : examined_answer_of r ≡ a_flag true → Consistent g (mem_of g mem)
  pub complete : wrong_size g (length mem) ≡ false → length scratch ≡ scratch_words g → Consistent g (mem_of g mem) → examined_answer_of r ≡ a_flag true
  pub answers : wrong_size g (length mem) ≡ false → length scratch ≡ scratch_words g → examined_refusal_of r ≡ none
  pub cleared : wrong_size g (length mem) ≡ false → length scratch ≡ scratch_words g → after ≡ replicate (scratch_words g) 0
