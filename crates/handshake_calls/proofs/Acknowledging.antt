-- An acknowledgement by the phase's number, and how check and leave keep their promises with it.
use mathlib.Core.Path.{◌≡◌, refl, sym, ◌∙◌, ap, subst}
use mathlib.Core.Bool.{Bool, true, false, true≢false}
use mathlib.Core.List.{List}
use Prim.Native.Nat.{ℕ, zero, suc}
use native.Mathlib.Omega.{arith}
use lib.ListN.{length}
use Rattle.layout.specs.declared.Geometry.{Geometry}
use Rattle.layout.specs.Geometry.{wrong_size, root_count}
use Rattle.layout.specs.Mem.{Mem, mem_of, control_word, set_mutator}
use Rattle.layout.proofs.Regions.{sized}
use Rattle.theory.specs.Phases.{owes}
use Rattle.theory.specs.Calls.{Call, c_check, c_leave}
use Rattle.theory.proofs.Refusals.{by_ok}
use Rattle.std.specs.Prelude.{Ok, Err}
use Rattle.model.specs.declared.Answer.TheVariants.{Done}
use Rattle.model.specs.declared.Refusal.TheVariants.{Torn}
use Rattle.model.specs.PhaseNumbers.{phase_of}
use Rattle.model.specs.Fields.{phase, outside, set_mutator_state, acks, set_acks, root}
use Rattle.model.specs.Tracing.{push_roots}
use Rattle.model.specs.Mutators.{acknowledged}
use Rattle.model.specs.Calls.{observe, act}
use Rattle.model.specs.Promise.{Promise}
use Rattle.model_laws.proofs.Bools.{not_eq}
use Rattle.model_laws.proofs.Lengths.{sizes_of}
use Rattle.model_laws.proofs.Acknowledgements.{root_acks, roots_acks, roots_ready}
use Rattle.model_laws.proofs.Promised.{done, torn_13}
use Rattle.mutators.specs.Inside.{inside_then}
use Rattle.tracing.specs.Pushing.{PushFails}
use Rattle.tracing.specs.Roots.{RootFails, PushesRoots}
use Rattle.tracing.proofs.Roots.{roots_succeed}
use Rattle.handshake_calls.specs.Acknowledging.{Acknowledges}

-- ---- by the phase's number n, the acknowledgements a, and whether one is owed

-- one is owed in the two handshakes only
first_owed : (n a : ℕ) → owes (phase_of n) a ≡ true → (n ≡ 2 → ⊥) → n ≡ 1
first_owed zero a t f = absurd (true≢false (sym t))
first_owed (suc zero) a t f = refl
first_owed (suc (suc zero)) a t f = absurd (f refl)
first_owed (suc (suc (suc zero))) a t f = absurd (true≢false (sym t))
first_owed (suc (suc (suc (suc n)))) a t f = absurd (true≢false (sym t))

-- nothing but roots and trace stack hinders a push
hinders_acks : (g : Geometry) (m : Mem) (k v w : ℕ) → PushFails g (set_acks m k v) w → PushFails g m w
unfolding set_mutator
hinders_acks g m k v w h = record { at = h.at; names = h.names; why = h.why }

fails_acks : (g : Geometry) (m : Mem) (k v : ℕ) → RootFails g (set_acks m k v) k → RootFails g m k
fails_acks g m k v f =
    let l = f.within in
    record {
      index = f.index;
      within = l;
      why =
          hinders_acks g (push_roots g m k f.index) k v (root m k f.index)
          (subst (λ z. PushFails g z (root m k f.index)) (roots_acks g m k v f.index (omega arith))
          (subst (λ z. PushFails g (push_roots g (set_acks m k v) k f.index) z) (root_acks m k v f.index l) f.why));
    }

module _ (g : Geometry) (m : Mem) (k n a : ℕ) (o : Bool) (en : n ≡ control_word m 0) (ea : a ≡ acks m k) (eo : o ≡ owes (phase_of n) a) where
  owed : owes (phase m) (acks m k) ≡ o
  owed = sym (eo ∙ ap (λ z. owes (phase_of z) a) en ∙ ap (owes (phase m)) ea)

  made : (m' : Mem) → m' ≡ acknowledged g m k → Acknowledges g m k true m'
  made m' e = record { done = λ _. e; fails = λ t. absurd (true≢false t) }

  pub none_owed : o ≡ false → Acknowledges g m k true m
  unfolding acknowledged
  none_owed f = made m (rw (owed ∙ f) refl)

  module _ (t : o ≡ true) where
    pub first_given : (n ≡ 2 → ⊥) → (m' : Mem) → m' ≡ set_acks m k 1 → Acknowledges g m k true m'
    unfolding acknowledged
    first_given f m' e = made m' (e ∙ rw (owed ∙ t, sym en ∙ first_owed n a (sym eo ∙ t) f) refl)

    -- set before the roots are pushed
    pub second_given : n ≡ 2 → (m₁ : Mem) → m₁ ≡ set_acks m k 2 → (r : Bool) (m' : Mem) → PushesRoots g m₁ k r m' → Acknowledges g m k r m'
    unfolding acknowledged
    second_given z m₁ e r m' p =
        let q = subst (λ w. PushesRoots g w k r m') e p in
        record {
          done = λ y. q.done y ∙ roots_acks g m k 2 root_count (omega arith) ∙ rw (owed ∙ t, sym en ∙ z) refl;
          fails = λ y. fails_acks g m k 2 (q.fails y);
        }

-- ---- how check and leave keep their promises, past the refusals of a mutator that must be inside

module _ (g : Geometry) (xs : List ℕ) (k : ℕ) (e : wrong_size g (length xs) ≡ false) (s : 0 ≡ inside_then (mem_of g xs) k 0)
    (r : Bool) (m₁ : Mem) (p : Acknowledges g (mem_of g xs) k r m₁) where
  pub checked : r ≡ true → (ys : List ℕ) → mem_of g ys ≡ m₁ → Promise (c_check k) g xs (Ok Done) ys
  unfolding inside_then act
  checked t ys q = done (c_check k) g xs e s refl refl refl (q ∙ p.done t)

  pub left : r ≡ true → (ys : List ℕ) → mem_of g ys ≡ set_mutator_state m₁ k outside → Promise (c_leave k) g xs (Ok Done) ys
  unfolding inside_then act
  left t ys q = done (c_leave k) g xs e s refl refl refl (q ∙ ap (λ m. set_mutator_state m k outside) (p.done t))

  -- "13, torn": a root that cannot be pushed
  pub hindered : r ≡ false → (c : Call) (ys : List ℕ) → Promise c g xs (Err Torn) ys
  unfolding inside_then
  hindered f c ys =
      let o = by_ok (observe (mem_of g xs)) k 0 (sym s) in
      let y = roots_ready g (mem_of g xs) (sizes_of g xs (sized g (length xs) e)) in
      torn_13 c g xs e (λ x. roots_succeed g (mem_of g xs) (y x) k o.0 (not_eq _ _ o.1) (p.fails f))
