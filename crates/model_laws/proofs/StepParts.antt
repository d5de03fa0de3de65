-- How a part of step keeps its promise: as its definition says, or 13 where the memory fails the examination.
use mathlib.Core.Path.{◌≡◌, sym, ◌∙◌}
use mathlib.Core.Option.{none, none-ne-some, some-injective}
use Rattle.layout.specs.declared.Geometry.{Geometry}
use Rattle.layout.specs.Mem.{Mem}
use Rattle.model.specs.declared.Step.{Step}
use Rattle.model.specs.declared.Step.TheVariants.{Refused}
use Rattle.model.specs.Answers.{step_answer_of, step_refusal_of, StepResult}
use Rattle.model.specs.Consistent.{Consistent}
use Rattle.model.specs.StepParts.{StepsAs}
use Rattle.theory.specs.Calls as theory

module _ (does : Geometry → Mem → theory.Answer × Mem) (g : Geometry) (m : Mem) where
  pub steps_done : {r : Step} {after : Mem} → step_refusal_of r ≡ none → StepResult g (step_answer_of r)
      → (Consistent g m → (step_answer_of r ≡ (does g m).0) × (after ≡ (does g m).1)) → StepsAs does g m r after
  steps_done v k e = record { exact = e; kind = λ _. k; torn = λ n q. absurd (none-ne-some n (sym v ∙ q)) }

  -- "13, torn": only where the memory fails the examination
  pub steps_13 : {after : Mem} → (Consistent g m → ⊥) → StepsAs does g m (Refused 13) after
  steps_13 f = record { exact = λ c. absurd (f c); kind = λ q. absurd (none-ne-some 13 (sym q)); torn = λ n q. sym (some-injective 13 n q) }
