-- How the looks keep their promises: the phase, one record, and the states of all segments.
use mathlib.Core.Path.{◌≡◌, refl, sym, ◌∙◌, ap}
use mathlib.Core.Bool.{Bool, true, false}
use mathlib.Core.List.{List}
use Prim.Native.Nat.{ℕ, ◌≤◌, ◌<◌}
use native.Mathlib.Omega.{arith}
use lib.ListN.{length}
use Rattle.basics.specs.Decides.{Decides}
use Rattle.classes.specs.Class.{class_test}
use Rattle.classes.proofs.Every.{class_passes, class_passed}
use Rattle.layout.specs.declared.Geometry.{Geometry}
use Rattle.layout.specs.Geometry.{wrong_size, len}
use Rattle.layout.specs.Mem.{Mem, mem_of, control_word}
use Rattle.theory.specs.Calls.{a_num}
use Rattle.std.specs.Prelude.{Ok, Err}
use Rattle.model.specs.declared.Answer.TheVariants.{Done}
use Rattle.model.specs.declared.Refusal.TheVariants.{Size, Torn}
use Rattle.model.specs.Answers.{phase_answer_of, IsPhase, look_may_give}
use Rattle.model.specs.Fields.{tag, class}
use Rattle.model.specs.Consistent.{Consistent}
use Rattle.model.specs.Promise.{PhasePromise, StatesPromise}
use Rattle.model_laws.proofs.PromisedSteps.{promise_1, promise_refused, promise_done}
use Rattle.model_laws.proofs.Shown.{shown_1, shown_short, shown_13, shown_ok, record_words, records, as_states}
use Rattle.looks.specs.Plausible.{Plausible}
use Rattle.layout.specs.Region as Region

-- ---- the phase

pub phase_1 : (g : Geometry) (xs : List ℕ) → wrong_size g (length xs) ≡ true → PhasePromise g xs (Err Size)
phase_1 g xs = promise_1 phase_answer_of (λ g. IsPhase) look_may_give (λ g m. (a_num (control_word m 0), m)) g xs (Err Size) refl refl

module _ (g : Geometry) (xs : List ℕ) (e : wrong_size g (length xs) ≡ false) (n : ℕ) (p : n ≡ control_word (mem_of g xs) 0) where
  -- a number over sweep's is no phase's
  pub phase_13 : 4 < n → PhasePromise g xs (Err Torn)
  phase_13 l =
      promise_refused phase_answer_of (λ g. IsPhase) look_may_give (λ g m. (a_num (control_word m 0), m)) g xs (Err Torn) e 13 refl refl (λ z. omega arith) xs
      (λ c. let h = c.sound.phases in absurd (omega arith))

  pub phase_is : n ≤ 4 → PhasePromise g xs (Ok n)
  phase_is l =
      promise_done phase_answer_of (λ g. IsPhase) look_may_give (λ g m. (a_num (control_word m 0), m)) g xs (Ok n) e refl (n, refl, l) xs
      (λ c. ap (λ z. (a_num z, mem_of g xs)) p)

-- ---- one record

module _ (m : Mem) (s t : ℕ) (p : t ≡ tag m s) where
  pub by_class : t ≤ 4 → (t ≡ 0 → ⊥) → (c : ℕ) → c ≡ class m s → (r : Bool) → r ≡ class_test c → Decides r (Plausible m s)
  by_class l f c q r e = record {
    sound = λ h. record { tags = omega arith; classes = λ _. class_passed _ (ap class_test (sym q) ∙ sym e ∙ h) };
    complete = λ h. e ∙ ap class_test q ∙ class_passes _ (h.classes (λ z. f (p ∙ z)));
  }

-- the records of consistent memory pass
pub consistent_plausible : (g : Geometry) (m : Mem) → Consistent g m → (s : ℕ) → s < g.segments → Plausible m s
consistent_plausible g m c s l = let o = c.sound.segments s l in record { tags = o.tags; classes = o.classes }

-- ---- the states

module _ (g : Geometry) (xs ys : List ℕ) where
  pub states_1 : wrong_size g (length xs) ≡ true → StatesPromise g xs ys (Err Size) ys
  states_1 e = as_states g xs ys (Err Size) ys (shown_1 record_words records g xs ys e)

  -- the output is not of its length
  pub states_short : (length ys ≡ len g Region.segments → ⊥) → StatesPromise g xs ys (Err Size) ys
  states_short d = as_states g xs ys (Err Size) ys (shown_short record_words records g xs ys d)

  module _ (e : wrong_size g (length xs) ≡ false) (l : length ys ≡ len g Region.segments) where
    pub states_13 : (r : Bool) → Decides r ((s : ℕ) → s < g.segments → Plausible (mem_of g xs) s) → r ≡ false → StatesPromise g xs ys (Err Torn) ys
    states_13 r d q =
        as_states g xs ys (Err Torn) ys (shown_13 record_words records g xs ys e l (consistent_plausible g (mem_of g xs)) r d q)

    pub states_ok : (zs : List ℕ) → zs ≡ (mem_of g xs).segments → StatesPromise g xs ys (Ok Done) zs
    states_ok zs q = as_states g xs ys (Ok Done) zs (shown_ok record_words records g xs ys e l zs (λ _. q))
