-- How a start keeps its promise: 1, 11, or done.
use mathlib.Core.Path.{◌≡◌, refl, sym, ◌∙◌, ap}
use mathlib.Core.Bool.{true, false}
use mathlib.Core.List.{List}
use Prim.Native.Nat.{ℕ, zero, suc}
use native.Mathlib.Omega.{arith}
use lib.ListN.{length}
use Rattle.layout.specs.declared.Geometry.{Geometry}
use Rattle.layout.specs.Geometry.{wrong_size}
use Rattle.layout.specs.Mem.{Mem, mem_of, control_word}
use Rattle.theory.specs.Calls.{a_ok, a_no}
use Rattle.std.specs.Prelude.{Ok, Err}
use Rattle.model.specs.declared.Answer.TheVariants.{Done}
use Rattle.model.specs.declared.Refusal.TheVariants.{Size, NotNow}
use Rattle.model.specs.Answers.{answer_of, IsOk, start_may_give}
use Rattle.model.specs.PhaseNumbers.{phase_of}
use Rattle.model.specs.Collector.{started, start_in, start_of}
use Rattle.model.specs.Promise.{StartPromise}
use Rattle.model_laws.proofs.PromisedSteps.{promise_1, promise_refused, promise_done}

-- ---- by the phase's number n

-- "11, not now: start outside idle"; a word that is no phase's number is none of idle's
not_idle : (g : Geometry) (m : Mem) (n : ℕ) → (n ≡ 0 → ⊥) → (a_no 11, m) ≡ start_in (phase_of n) g m
not_idle g m zero f = absurd (f refl)
not_idle g m (suc zero) f = refl
not_idle g m (suc (suc zero)) f = refl
not_idle g m (suc (suc (suc zero))) f = refl
not_idle g m (suc (suc (suc (suc n)))) f = refl

pub start_1 : (g : Geometry) (xs : List ℕ) → wrong_size g (length xs) ≡ true → StartPromise g xs (Err Size) xs
start_1 g xs = promise_1 answer_of (λ g. IsOk) start_may_give start_of g xs (Err Size) refl refl

module _ (g : Geometry) (xs : List ℕ) (e : wrong_size g (length xs) ≡ false) (n : ℕ) (p : n ≡ control_word (mem_of g xs) 0) where
  pub start_11 : (n ≡ 0 → ⊥) → StartPromise g xs (Err NotNow) xs
  unfolding start_of
  start_11 f =
      promise_refused answer_of (λ g. IsOk) start_may_give start_of g xs (Err NotNow) e 11 refl refl (λ z. omega arith) xs
      (λ _. not_idle g (mem_of g xs) n f ∙ ap (λ z. start_in (phase_of z) g (mem_of g xs)) p)

  pub start_ok : n ≡ 0 → (ys : List ℕ) → mem_of g ys ≡ started g (mem_of g xs) → StartPromise g xs (Ok Done) ys
  unfolding start_of
  start_ok z ys q =
      promise_done answer_of (λ g. IsOk) start_may_give start_of g xs (Ok Done) e refl refl ys
      (λ _. ap (λ m. (a_ok, m)) q ∙ ap (λ w. start_in (phase_of w) g (mem_of g xs)) (sym z ∙ p))
