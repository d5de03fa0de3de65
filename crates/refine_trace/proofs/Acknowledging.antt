-- An attached mutator acknowledges a handshake, on the memory and on the machine.
use mathlib.Core.Path.{◌≡◌, refl, sym, ◌∙◌, ap, subst}
use mathlib.Core.Logic.{inl, inr, ⊎_elim}
use mathlib.Core.Bool.{not}
use mathlib.Core.Option.{some}
use mathlib.Core.List.{List, Memᴰ}
use Prim.Native.Nat.{ℕ, zero, suc, ◌≤◌, ◌<◌}
use native.Mathlib.Omega.{arith}
use lib.Dec.{eqb}
use lib.ListN.{get_or}
use Rattle.basics.specs.Pick.{pick}
use Rattle.layout.specs.declared.Geometry.{Geometry}
use Rattle.layout.specs.Geometry.{mutator_count, root_count, segment_of}
use Rattle.layout.specs.Mem.{Mem, set_mutator, Sizes}
use Rattle.theory.specs.Phases.{Phase, idle, sync1, sync2, mark, sweep, owes}
use Rattle.theory.specs.Reach.{root}
use Rattle.theory.specs.TraceStack.{tab, pushes}
use Rattle.theory.specs.Machine.{State, Root, Grey, LiveRoot, acknowledge, check}
use Rattle.theory.proofs.Agree.{Agree}
use Rattle.theory.proofs.Graph.{reach_map}
use Rattle.theory.proofs.CycleKeeps.{acknowledge_back}
use Rattle.model.specs.PhaseNumbers.{phase_of}
use Rattle.model.specs.Fields.{phase, absent, acks_at, state, acks, set_acks}
use Rattle.model.specs.Records.{record?}
use Rattle.model.specs.Tracing.{push_roots}
use Rattle.model.specs.Mutators.{given, acknowledged}
use Rattle.model.specs.Reaching.{Live}
use Rattle.model.specs.Consistent.{RecordOk}
use Rattle.refine_view.specs.View.{view, stack_of}
use Rattle.refine_view.specs.Refines.{Ordered, Structure, Moves}
use Rattle.model_laws.proofs.Bools.{ne_not}
use Rattle.model_laws.proofs.Words.{mutator_there}
use Rattle.theory.proofs.Updates.{upd_by}
use Rattle.model_laws.proofs.Entries.{state_set, acks_set, root_set, mutators_set, held_set}
use Rattle.refine_view.proofs.Seeing.{entries_same, live_on}
use Rattle.refine_view.proofs.Frames.{mutator_beside}
use Rattle.refine_view.proofs.Invariants.{to_record, structure_of}
use Rattle.refine_view.proofs.SelfSimulation.{moves_self}
use Rattle.model_laws.proofs.Apart.{class_of}
use Rattle.refine_trace.proofs.Over.{over, condemned_class, mutator_over}
use Rattle.refine_trace.proofs.Entered.{Entered, structure_entered}
use Rattle.refine_trace.proofs.Push.{Pushed}
use Rattle.refine_trace.proofs.Folds.{roots_pushed}
use Rattle.refine_trace.proofs.Self.{pushed_self}
use Rattle.theory.specs.Machine as machine
use Rattle.theory.proofs.Agree as agreeing
use Rattle.model.specs.Fields as fields

module _ (g : Geometry) (m : Mem) (s : Sizes g m) (c : Ordered g m) (k : ℕ) (few : k < mutator_count) (there : state m k ≡ absent → ⊥) (v : ℕ) (small : v ≤ 2) where
  module _ (control q t : List ℕ) (e : Entered g m control q t) (l : List ℕ) (is : stack_of (over m control q t) (get_or control 1 0) ≡ l) where
    abbrev base : Mem
    base = set_acks m k v

    abbrev next_memory : Mem
    next_memory = over base control q t

    abbrev next_state : State
    next_state = machine.set_acks (view g m) k v l

    module _ (lives : (x : ℕ) → Memᴰ x l → machine.Live (view g m) x) where
      was_live : {x : ℕ} → machine.Live next_state x → machine.Live (view g m) x
      was_live p = reach_map {R = LiveRoot next_state} {R' = LiveRoot (view g m)} (λ x h. ⊎_elim (λ (r : Root (view g m) x). root (inl r)) (lives x) h) (λ x y z d. inl d) p

      acks_agree : Agree (segment_of g) next_state (view g next_memory)
      unfolding set_mutator
      acks_agree = record {
        phase = ap phase_of e.phase;
        stack = entries_same (over m control q t) next_memory (get_or control 1 0) (λ i h. refl) ∙ is;
        attached = λ i. ap (λ x. not (eqb x 0)) (state_set g m s k acks_at v few (omega arith) i (λ x y. omega arith));
        inside = λ i. ap (λ x. eqb x 1) (state_set g m s k acks_at v few (omega arith) i (λ x y. omega arith));
        acks = λ i. upd_by (acks m) k v i (acks base i) (λ h. ap (acks base) h ∙ mutator_there g m s k acks_at v few (omega arith)) (λ f. acks_set g m s k acks_at v few (omega arith) i (λ x y. f x));
        root = λ i j a h. ap record? (root_set g m s k acks_at v few (omega arith) i j h (λ x y. omega arith));
        marked = λ x b h. e.same b (class_of g m b (to_record g m s c b (was_live h)));
        condemned_marks = λ b h. e.same b (condemned_class g m s c.segments b h);
        condemned = λ x. refl;
        pointer_count = λ b h. refl;
        values = λ b h. refl;
        pointer = λ b f h x. refl;
        used = λ b h. refl;
      }

      was_record : (x : ℕ) → Live next_memory x → RecordOk g m x
      was_record x p = to_record g m s c x ((was_live (agreeing.live_back (segment_of g) next_state (view g next_memory) acks_agree (live_on g next_memory p))))

      next_structure : Structure g next_memory
      unfolding set_mutator
      next_structure = structure_entered g m control q t e base.mutators m.heap (structure_of g m c)
          (held_set g m s c.mutators k acks_at v few (omega arith) there (λ z. absurd (omega arith)) (λ z. small))
          (λ j l. mutator_beside g base control q t m.heap j (mutators_set g m s c.mutators k acks_at v few (omega arith) there (λ z. absurd (omega arith)) (λ z. small) j l))
          (λ x p. (was_record x p, refl))

      acks_over : Moves g m next_memory next_state
      unfolding set_mutator
      acks_over = record { structure = next_structure; occupied = λ u. u; behind = λ u x h b. u x h (subst (λ z. x < z) e.cursor b); agree = acks_agree; steady = λ x h z. (z, refl) }

  -- the trace stack pushed to l, then the acknowledgements set
  acks_moves : (m' : Mem) (l : List ℕ) → Pushed g m m' l → ((x : ℕ) → Memᴰ x l → machine.Live (view g m) x) → Moves g m (set_acks m' k v) (machine.set_acks (view g m) k v l)
  acks_moves m' l p h =
      subst (λ z. Moves g m z (machine.set_acks (view g m) k v l))
      (sym (ap (λ z. set_acks z k v) p.is ∙ mutator_over m p.control p.marks p.trace _ v))
      (acks_over p.control p.marks p.trace p.entered l p.stack h)

module _ (g : Geometry) (m : Mem) (s : Sizes g m) (c : Ordered g m) (k : ℕ) (few : k < mutator_count) (there : state m k ≡ absent → ⊥) where
  root_live : (i x : ℕ) → i < root_count → record? (fields.root m k i) ≡ some x → machine.Live (view g m) x
  root_live i x h e = root (inl (k, (i, ne_not _ _ there, h, e)))

  roots_in : Pushed g m (push_roots g m k root_count) (pushes (view g m).marked (tab root_count ((view g m).root k)) (view g m).stack)
  roots_in = roots_pushed g m c.segments m _ (pushed_self g m s c) k root_count (λ i x h e. to_record g m s c x (root_live i x h e))

  second : Moves g m (set_acks (push_roots g m k root_count) k 2) (machine.set_acks (view g m) k 2 (pushes (view g m).marked (tab root_count ((view g m).root k)) (view g m).stack))
  second =
      acks_moves g m s c k few there 2 (omega arith) (push_roots g m k root_count) _ roots_in
      (λ x h. ⊎_elim (λ (z : Grey (view g m) x). root (inr z)) (λ z. root (inl (k, z))) (acknowledge_back (view g m) k (ne_not _ _ there) x h))

  first : Moves g m (set_acks m k 1) (machine.set_acks (view g m) k 1 (view g m).stack)
  first = acks_moves g m s c k few there 1 (omega arith) m _ (pushed_self g m s c) (λ x (h : Grey (view g m) x). root (inr h))

  by_phase : (p : Phase) (a : ℕ) → Moves g m (pick (owes p a) (given g p m k) m) (acknowledge p a (view g m) k)
  by_phase idle a = moves_self g m c
  by_phase sync1 zero = first
  by_phase sync1 (suc a) = moves_self g m c
  by_phase sync2 zero = second
  by_phase sync2 (suc zero) = second
  by_phase sync2 (suc (suc a)) = moves_self g m c
  by_phase mark a = moves_self g m c
  by_phase sweep a = moves_self g m c

  pub acknowledged_moves : Moves g m (acknowledged g m k) (check (view g m) k)
  unfolding acknowledged
  acknowledged_moves = by_phase (phase m) (acks m k)
