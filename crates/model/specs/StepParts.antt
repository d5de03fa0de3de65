-- What a part of step promises, of memory that has the right size: step is one of its parts, by the phase. It answers and leaves the memory as a
-- definition says where the memory passes the examination; always, a result is one of step's, and a refusal is 13.
use Rattle.std.specs.Prelude.{◌≡◌, ℕ}
use Rattle.std.proofs.Math.Option.{none, some}
use Rattle.layout.specs.declared.Geometry.{Geometry}
use Rattle.layout.specs.Mem.{Mem}
use Rattle.model.specs.declared.Step.{Step}
use Rattle.model.specs.Answers.{step_answer_of, step_refusal_of, StepResult}
use Rattle.model.specs.Consistent.{Consistent}
use Rattle.theory.specs.Calls as theory

pub record StepsAs (does : Geometry → Mem → theory.Answer × Mem) (g : Geometry) (m : Mem) (r : Step) (after : Mem) : Type 0 where
  pub exact : Consistent g m → (step_answer_of r ≡ (does g m).0) × (after ≡ (does g m).1)
  pub kind : step_refusal_of r ≡ none → StepResult g (step_answer_of r)
  pub torn : (n : ℕ) → step_refusal_of r ≡ some n → n ≡ 13
