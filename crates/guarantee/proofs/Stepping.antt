-- Which answer a step gives in which phase, where no segment is condemned: in a handshake by the mutators inside that owe, in mark by the trace stack.
use mathlib.Core.Path.{◌≡◌, refl, sym, ◌∙◌, ap, subst}
use mathlib.Core.Logic.{◌⊎◌, inl, inr}
use mathlib.Core.Bool.{Bool, true, false, ◌&&◌}
use mathlib.Core.Option.{none}
use Prim.Native.Nat.{ℕ, zero, suc, ◌+◌, ◌*◌, ◌≤◌, ◌<◌}
use native.Mathlib.Omega.{arith}
use lib.Dec.{eqb}
use borrow.Author.Tests.{eqb-true}
use Rattle.basics.specs.Pick.{pick, one_if}
use Rattle.basics.proofs.Order.{same_or_not}
use Rattle.layout.specs.declared.Geometry.{Geometry}
use Rattle.layout.specs.Geometry.{mutator_count, mutator_words}
use Rattle.layout.specs.Mem.{Mem, Sizes, mutator_word}
use Rattle.theory.specs.Phases.{Phase, idle, sync1, sync2, mark, sweep, in_handshake, owes}
use Rattle.model.specs.Fields.{phase, trace_count, inside, outside, state_at, acks_at, state, acks}
use Rattle.model.specs.Mutators.{acknowledged}
use Rattle.model.specs.Calls.{is_inside}
use Rattle.model.specs.Collector.{outside_answered, waiting, moved_or_waiting, traces, lowest, sweeps, step_in, step_of}
use Rattle.model.specs.Run.{declared_step}
use Rattle.model_laws.proofs.Bools.{and_not}
use Rattle.model_laws.proofs.Acknowledgements.{acknowledged_word}
use Rattle.words.proofs.Counts.{lt_of}
use Rattle.refine_run.proofs.Collecting.{sizes_answered}
use Rattle.idle_twin.proofs.Cycle.{leaves_outside}
use Rattle.idle_twin.proofs.Phase.{phase_outside}
use Rattle.guarantee.specs.EmptyCycle.{StepsIn, waits, empties, ends, rests}
use Rattle.guarantee.specs.EmptyCycle as cycle

-- nobody is waited for
waiting_none : (m : Mem) (n : ℕ) → waiting m n ≡ 0 → (k : ℕ) → k < n → (eqb (state m k) inside && owes (phase m) (acks m k)) ≡ false
unfolding waiting
waiting_none m zero e k l = absurd (omega arith)
waiting_none m (suc j) e k l = go (same_or_not k j) (λ f. waiting_none m j (omega arith) k f)
  where
    not_one : (b : Bool) → one_if b ≡ 0 → b ≡ false
    not_one true q = absurd (omega arith)
    not_one false q = refl

    here : (eqb (state m j) inside && owes (phase m) (acks m j)) ≡ false
    here = not_one _ (omega arith)

    go : (k ≡ j) ⊎ (k ≡ j → ⊥) → (k < j → (eqb (state m k) inside && owes (phase m) (acks m k)) ≡ false) → (eqb (state m k) inside && owes (phase m) (acks m k)) ≡ false
    go (inl q) ih = subst (λ i. (eqb (state m i) inside && owes (phase m) (acks m i)) ≡ false) (sym q) here
    go (inr f) ih = ih (lt_of {k = k} {n = j} (omega arith) f)

module _ (g : Geometry) (m : Mem) (z : Sizes g m) where
  -- the acknowledgements for mutators outside leave the words of one that is inside
  inside_word : (k : ℕ) → state m k ≡ inside → (o : ℕ) → o < mutator_words → (n : ℕ) → n ≤ mutator_count
      → mutator_word (outside_answered g m n) (k * mutator_words + o) ≡ mutator_word m (k * mutator_words + o)
  unfolding outside_answered
  inside_word k i o h zero l = refl
  inside_word k i o h (suc j) l = go (eqb (state m j) outside) refl (inside_word k i o h j (omega arith))
    where
      go : (b : Bool) → eqb (state m j) outside ≡ b → mutator_word (outside_answered g m j) (k * mutator_words + o) ≡ mutator_word m (k * mutator_words + o)
          → mutator_word (pick b (acknowledged g (outside_answered g m j) j) (outside_answered g m j)) (k * mutator_words + o) ≡ mutator_word m (k * mutator_words + o)
      go true e ih =
          let x : state m j ≡ outside = eqb-true _ _ e in
          acknowledged_word g (outside_answered g m j) (sizes_answered g m z j) j (omega arith) k o h (λ q _. let y : state m k ≡ state m j = ap (state m) q in omega arith) ∙ ih
      go false e ih = ih

  abbrev answered : Mem
  answered = outside_answered g m mutator_count

  -- so as many mutators inside owe after them as before
  term_same : (k : ℕ) → (eqb (state answered k) inside && owes (phase answered) (acks answered k)) ≡ (eqb (state m k) inside && owes (phase m) (acks m k))
  term_same k = go (eqb (state m k) inside) refl
    where
      s : state answered k ≡ state m k
      s = (leaves_outside g m mutator_count).entries k state_at (omega arith) (λ e. omega arith)

      go : (b : Bool) → eqb (state m k) inside ≡ b → (eqb (state answered k) inside && owes (phase answered) (acks answered k)) ≡ (eqb (state m k) inside && owes (phase m) (acks m k))
      go true t =
          let a : acks answered k ≡ acks m k = inside_word k (eqb-true _ _ t) acks_at (omega arith) mutator_count (omega arith) in
          λ j. eqb (s j) inside && owes (phase_outside g m mutator_count j) (a j)
      go false t = ap (λ b. b && owes (phase answered) (acks answered k)) (ap (λ x. eqb x inside) s ∙ t) ∙ sym (ap (λ b. b && owes (phase m) (acks m k)) t)

  pub waiting_same : (n : ℕ) → waiting answered n ≡ waiting m n
  unfolding waiting
  waiting_same zero = refl
  waiting_same (suc k) = λ j. one_if (term_same k j) + waiting_same k j

  nobody_owes : waiting answered mutator_count ≡ 0 → (k : ℕ) → k < mutator_count → is_inside m k ≡ true → owes (phase m) (acks m k) ≡ false
  nobody_owes e k l t = and_not (is_inside m k) (owes (phase m) (acks m k)) t (waiting_none m mutator_count (sym (waiting_same mutator_count) ∙ e) k l)

  pub step_fits : lowest m g.segments ≡ none → StepsIn m (phase m) (declared_step (step_of g m).0)
  unfolding step_of
  step_fits h = go (phase m) refl
    where
      handshake : (p q : Phase) → phase m ≡ p → in_handshake p ≡ true → (n : ℕ) → waiting answered mutator_count ≡ n → StepsIn m p (declared_step (moved_or_waiting n answered q).0)
      handshake p q i t zero e = cycle.moves t (λ k l u. ap (λ x. owes x (acks m k)) (sym i) ∙ nobody_owes e k l u)
      handshake p q i t (suc n) e = waits t (sym e ∙ waiting_same mutator_count) (λ x. omega arith)

      marking : (n : ℕ) → trace_count m ≡ n → StepsIn m mark (declared_step (traces g n m).0)
      marking zero e = empties e
      marking (suc n) e = cycle.traces (λ x. omega arith)

      go : (p : Phase) → phase m ≡ p → StepsIn m p (declared_step (step_in p g m).0)
      go idle i = rests
      go sync1 i = handshake sync1 sync2 i refl (waiting answered mutator_count) refl
      go sync2 i = handshake sync2 mark i refl (waiting answered mutator_count) refl
      go mark i = marking (trace_count m) refl
      go sweep i = subst (λ o. StepsIn m sweep (declared_step (sweeps g o m).0)) (sym h) ends
