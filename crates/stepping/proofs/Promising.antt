-- How step keeps its promise, by the phase's number n: refused 1, idle, as one of its parts, or torn.
use mathlib.Core.Path.{◌≡◌, refl, sym, ◌∙◌, ap}
use mathlib.Core.Bool.{true, false}
use mathlib.Core.List.{List}
use Prim.Native.Nat.{ℕ, zero, suc, ◌≤◌}
use native.Mathlib.Omega.{arith}
use lib.ListN.{length}
use Rattle.layout.specs.declared.Geometry.{Geometry}
use Rattle.layout.specs.Geometry.{wrong_size}
use Rattle.layout.specs.Mem.{Mem, mem_of, control_word}
use Rattle.theory.specs.Calls.{Answer}
use Rattle.theory.specs.Phases.{sweep}
use Rattle.model.specs.declared.Step.{Step}
use Rattle.model.specs.declared.Step.TheVariants.{Idle, Refused}
use Rattle.model.specs.PhaseNumbers.{phase_of, phase_number}
use Rattle.model.specs.Answers.{step_answer_of, StepResult, is_idle, step_may_give}
use Rattle.model.specs.Collector.{step_in, step_of}
use Rattle.model.specs.Promise.{StepPromise}
use Rattle.model.specs.StepParts.{StepsAs}
use Rattle.model_laws.proofs.PromisedSteps.{promise_1, promise_refused, promise_done, promise_part}

-- a word that is no phase's number
beyond : (n : ℕ) → (n ≡ 0 → ⊥) → (n ≡ 1 → ⊥) → (n ≡ 2 → ⊥) → (n ≡ 3 → ⊥) → (n ≡ 4 → ⊥) → n ≤ phase_number sweep → ⊥
beyond zero a b c d e l = a refl
beyond (suc zero) a b c d e l = b refl
beyond (suc (suc zero)) a b c d e l = c refl
beyond (suc (suc (suc zero))) a b c d e l = d refl
beyond (suc (suc (suc (suc zero)))) a b c d e l = e refl
beyond (suc (suc (suc (suc (suc n))))) a b c d e l = omega arith

module _ (g : Geometry) (xs : List ℕ) where
  pub step_1 : wrong_size g (length xs) ≡ true → StepPromise g xs (Refused 1) xs
  step_1 = promise_1 step_answer_of StepResult step_may_give step_of g xs (Refused 1) refl refl

  module _ (e : wrong_size g (length xs) ≡ false) (n : ℕ) (p : n ≡ control_word (mem_of g xs) 0) where
    by : (k : ℕ) → n ≡ k → step_in (phase_of k) g (mem_of g xs) ≡ step_of g (mem_of g xs)
    unfolding step_of
    by k z = ap (λ w. step_in (phase_of w) g (mem_of g xs)) (sym z ∙ p)

    pub step_idle : n ≡ 0 → StepPromise g xs Idle xs
    step_idle z = promise_done step_answer_of StepResult step_may_give step_of g xs Idle e refl is_idle xs (λ _. by 0 z)

    -- in the phase of number k step is a part
    pub step_as : (part : Geometry → Mem → Answer × Mem) (k : ℕ) → part g (mem_of g xs) ≡ step_in (phase_of k) g (mem_of g xs) → n ≡ k
        → (r : Step) (ys : List ℕ) → StepsAs part g (mem_of g xs) r (mem_of g ys) → StepPromise g xs r ys
    step_as part k d z r ys s = promise_part part g xs r ys e (d ∙ by k z) s

    -- "13, torn"
    pub step_13 : (n ≡ 0 → ⊥) → (n ≡ 1 → ⊥) → (n ≡ 2 → ⊥) → (n ≡ 3 → ⊥) → (n ≡ 4 → ⊥) → StepPromise g xs (Refused 13) xs
    step_13 a b c d f =
        promise_refused step_answer_of StepResult step_may_give step_of g xs (Refused 13) e 13 refl refl (λ z. omega arith) xs
        (λ k. absurd (beyond n a b c d f (let l = k.sound.phases in omega arith)))
