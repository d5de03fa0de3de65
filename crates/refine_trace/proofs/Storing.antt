-- A store, with its write barrier, on the memory and on the machine.
use mathlib.Core.Path.{◌≡◌, refl, sym, ◌∙◌, ap, subst}
use mathlib.Core.Logic.{inl}
use mathlib.Core.Option.{Option, some}
use mathlib.Core.List.{List}
use Prim.Native.Nat.{ℕ, ◌<◌}
use lib.ListN.{get_or}
use Rattle.layout.specs.Geometry.{segment_of}
use Rattle.layout.specs.declared.Geometry.{Geometry}
use Rattle.layout.specs.Mem.{Mem, set_heap, Sizes}
use Rattle.theory.specs.Phases.{Duty, nothing, both, old, duty}
use Rattle.theory.specs.Reach.{root, next}
use Rattle.theory.specs.Machine.{State, Holds, store}
use Rattle.theory.proofs.Agree.{Agree}
use Rattle.model.specs.PhaseNumbers.{phase_of}
use Rattle.model.specs.Fields.{phase, acks}
use Rattle.model.specs.Records.{record?, pointer_count, pointer, set_pointer}
use Rattle.model.specs.Consistent.{RecordOk}
use Rattle.refine_view.specs.View.{view, stack_of}
use Rattle.refine_view.specs.Refines.{Ordered, Structure, Moves}
use Rattle.refine_view.proofs.Seeing.{entries_same, live_on}
use Rattle.refine_view.proofs.Frames.{held_self, mutator_beside}
use Rattle.refine_view.proofs.Invariants.{to_record, to_inv, structure_of}
use Rattle.model_laws.proofs.Apart.{class_of}
use Rattle.refine_trace.proofs.Over.{over, condemned_class, heap_over}
use Rattle.refine_trace.proofs.Entered.{Entered, structure_entered}
use Rattle.refine_trace.proofs.Push.{Pushed, push_pushed}
use Rattle.refine_trace.proofs.Self.{pushed_self}
use Rattle.refine_trace.proofs.Pointers.{header_kept, pointers_kept, values_kept, pointer_kept}
use Rattle.theory.specs.Machine as machine
use Rattle.theory.proofs.Agree as agreeing
use Rattle.theory.proofs.StoreKeeps as storing
use Rattle.model.specs.Tracing as tracing

module _ (g : Geometry) (m : Mem) (s : Sizes g m) (c : Ordered g m) where
  -- mutator k stores the word w of one of its roots into pointer f of the record at a word that another of its roots names
  module _ (k at f w : ℕ) (holds : Holds (view g m) k at) (few : f < pointer_count m at) (from : (x : ℕ) → record? w ≡ some x → Holds (view g m) k x) where
    at_live : machine.Live (view g m) at
    at_live = root (inl (k, holds))

    abbrev new : Option ℕ
    new = record? w

    abbrev old_value : Option ℕ
    old_value = record? (pointer m at f)

    new_record : (x : ℕ) → new ≡ some x → RecordOk g m x
    new_record x e = to_record g m s c x (root (inl (k, from x e)))

    old_record : (x : ℕ) → old_value ≡ some x → RecordOk g m x
    old_record x e = to_record g m s c x (next at_live (f, few, e))

    barrier_pushed : (d : Duty) → Pushed g m (tracing.barrier g d m new old_value) (machine.barrier d (view g m).marked new old_value (view g m).stack)
    barrier_pushed nothing = pushed_self g m s c
    barrier_pushed both = push_pushed g m c.segments _ _ (push_pushed g m c.segments m _ (pushed_self g m s c) new new_record) old_value old_record
    barrier_pushed old = push_pushed g m c.segments m _ (pushed_self g m s c) old_value old_record

    abbrev base : Mem
    base = set_pointer m at f w

    abbrev next_state : State
    next_state = store (view g m) k at f new

    was_live : {x : ℕ} → machine.Live next_state x → machine.Live (view g m) x
    was_live p = storing.live_back (segment_of g) (view g m) (to_inv g m s c) k at f new holds few from p

    at_record : RecordOk g m at
    at_record = to_record g m s c at at_live

    module _ (control q t : List ℕ) (e : Entered g m control q t) (is : stack_of (over m control q t) (get_or control 1 0) ≡ next_state.stack) where
      abbrev next_memory : Mem
      next_memory = over base control q t

      store_agree : Agree (segment_of g) next_state (view g next_memory)
      unfolding set_heap
      store_agree = record {
        phase = ap phase_of e.phase;
        stack = entries_same (over m control q t) next_memory (get_or control 1 0) (λ i h. refl) ∙ is;
        attached = λ i. refl;
        inside = λ i. refl;
        acks = λ i. refl;
        root = λ i j a h. refl;
        marked = λ x b h. e.same b (class_of g m b (to_record g m s c b (was_live h)));
        condemned_marks = λ b h. e.same b (condemned_class g m s c.segments b h);
        condemned = λ x. refl;
        pointer_count = λ b h. pointers_kept g m s c.segments at f w at_record few b (to_record g m s c b (was_live h));
        values = λ b h. values_kept g m s c.segments at f w at_record few b (to_record g m s c b (was_live h));
        pointer = λ b i h l. pointer_kept g m s c.segments at f w at_record few b (to_record g m s c b (was_live h)) i l;
        used = λ b h. refl;
      }

      next_structure : Structure g next_memory
      unfolding set_heap
      next_structure = structure_entered g m control q t e m.mutators base.heap (structure_of g m c)
          (held_self g m control q t base.heap)
          (λ j l. mutator_beside g m control q t base.heap j (c.mutators j l))
          (λ x p.
          let r = to_record g m s c x (was_live (agreeing.live_back (segment_of g) next_state (view g next_memory) store_agree (live_on g next_memory p))) in
          (r, header_kept g m s c.segments at f w at_record few x r))

      store_over : Moves g m next_memory next_state
      unfolding set_heap
      store_over = record { structure = next_structure; occupied = λ u. u; behind = λ u x h b. u x h (subst (λ z. x < z) e.cursor b); agree = store_agree; steady = λ x h z. (z, refl) }

    pub store_moves : Moves g m (set_pointer (tracing.barrier g (duty (phase m) (acks m k)) m new old_value) at f w) next_state
    store_moves =
        let p = barrier_pushed (duty (phase m) (acks m k)) in
        subst (λ z. Moves g m z next_state)
        (sym (ap (λ z. set_pointer z at f w) p.is ∙ heap_over m p.control p.marks p.trace _ w))
        (store_over p.control p.marks p.trace p.entered p.stack)
