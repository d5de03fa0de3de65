-- How a step in a handshake promises its part: waiting, moved, or torn; x is the memory after the acknowledgements of the mutators outside.
use mathlib.Core.Path.{◌≡◌, refl, sym, ◌∙◌, ap}
use mathlib.Core.Bool.{Bool, true, false}
use mathlib.Core.Option.{none-ne-some, some-injective}
use Prim.Native.Nat.{ℕ, zero, suc, ◌≤◌}
use native.Mathlib.Omega.{arith}
use Rattle.layout.specs.declared.Geometry.{Geometry}
use Rattle.layout.specs.Geometry.{mutator_count}
use Rattle.layout.specs.Mem.{Mem, Sizes}
use Rattle.theory.specs.Phases.{Phase}
use Rattle.theory.specs.Calls.{a_waiting}
use Rattle.model.specs.declared.Step.TheVariants.{Waiting, Moved, Refused}
use Rattle.model.specs.Fields.{set_phase}
use Rattle.model.specs.Answers.{is_waiting, is_moved}
use Rattle.model.specs.Collector.{waiting, moved_or_waiting}
use Rattle.model.specs.StepParts.{StepsAs}
use Rattle.stepping.specs.Handshaking.{AnswersOutside, handshakes}
use Rattle.stepping.proofs.Answering.{answers_succeed}
use Rattle.stepping.proofs.Counting.{waiting_most}

waits_for : (n : ℕ) (m : Mem) (p : Phase) → (n ≡ 0 → ⊥) → moved_or_waiting n m p ≡ (a_waiting n, m)
waits_for zero m p f = absurd (f refl)
waits_for (suc n) m p f = refl

at_least_one : (n : ℕ) → (n ≡ 0 → ⊥) → 1 ≤ n
at_least_one zero f = absurd (f refl)
at_least_one (suc n) f = omega arith

module _ (g : Geometry) (m : Mem) (r : Bool) (x : Mem) (a : AnswersOutside g m r x) where
  module _ (t : r ≡ true) (n : ℕ) (w : n ≡ waiting x mutator_count) where
    counted : (p : Phase) → handshakes p g m ≡ moved_or_waiting n x p
    counted p = ap (λ z. moved_or_waiting (waiting z mutator_count) z p) (sym (a.done t)) ∙ ap (λ k. moved_or_waiting k x p) (sym w)

    pub step_waits : (n ≡ 0 → ⊥) → (p : Phase) → StepsAs (handshakes p) g m (Waiting n) x
    step_waits f p =
        let e = counted p ∙ waits_for n x p f in
        let l = waiting_most x mutator_count in
        record {
          exact = λ _. (sym (ap (λ z. z.0) e), sym (ap (λ z. z.1) e));
          kind = λ _. is_waiting n (at_least_one n f) (omega arith);
          torn = λ k q. absurd (none-ne-some k q);
        }

    pub step_moves : n ≡ 0 → (p : Phase) (m' : Mem) → m' ≡ set_phase x p → StepsAs (handshakes p) g m Moved m'
    step_moves z p m' e =
        let d = counted p ∙ ap (λ k. moved_or_waiting k x p) z in
        record {
          exact = λ _. (sym (ap (λ z. z.0) d), e ∙ sym (ap (λ z. z.1) d));
          kind = λ _. is_moved;
          torn = λ k q. absurd (none-ne-some k q);
        }

  -- "13, torn": a root of a mutator outside that cannot be pushed
  pub step_torn : r ≡ false → Sizes g m → (p : Phase) → StepsAs (handshakes p) g m (Refused 13) x
  step_torn f s p = record {
    exact = λ c. absurd (answers_succeed g m s c (a.fails f));
    kind = λ q. absurd (none-ne-some 13 (sym q));
    torn = λ k q. sym (some-injective 13 k q);
  }
