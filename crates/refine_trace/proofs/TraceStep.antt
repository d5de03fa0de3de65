-- A step in the phase mark, on the memory and on the machine.
use mathlib.Core.Path.{◌≡◌, refl, sym, ◌∙◌, ap, subst}
use mathlib.Core.Logic.{inr}
use mathlib.Core.Bool.{true}
use mathlib.Core.Option.{some}
use mathlib.Core.List.{List, [], ◌∷◌}
use Prim.Native.Nat.{ℕ, zero, suc, ◌-◌, ◌≤◌, ◌<◌}
use native.Mathlib.Omega.{arith}
use lib.ListN.{get_or}
use Rattle.layout.specs.Geometry.{segment_of}
use Rattle.layout.specs.declared.Geometry.{Geometry}
use Rattle.layout.specs.Mem.{Mem, trace_word, control_word, set_control, Sizes}
use Rattle.theory.specs.Phases.{mark, sweep}
use Rattle.theory.specs.Reach.{root, next}
use Rattle.theory.specs.TraceStack.{tab, pushes}
use Rattle.theory.specs.Update.{upd}
use Rattle.theory.specs.Machine.{State, trace}
use Rattle.theory.specs.MachineCalls.{trace_step}
use Rattle.theory.proofs.Agree.{Agree}
use Rattle.model.specs.PhaseNumbers.{phase_of}
use Rattle.model.specs.Fields.{phase, trace_count}
use Rattle.model.specs.Records.{record?, pointer_count, pointer}
use Rattle.model.specs.Tracing.{popped, traced}
use Rattle.model.specs.Collector.{traces}
use Rattle.model.specs.Consistent.{RecordOk}
use Rattle.refine_view.specs.View.{view, stack_of}
use Rattle.refine_view.specs.Refines.{Ordered, Structure, Moves, MarksIn}
use Rattle.refine_view.proofs.Seeing.{entries_same, live_on}
use Rattle.refine_view.proofs.Invariants.{to_record, to_inv, structure_of}
use Rattle.refine_view.proofs.SelfSimulation.{moves_self}
use Rattle.model_laws.proofs.Apart.{class_of}
use Rattle.refine_view.proofs.Frames.{held_self, mutator_beside, structure_beside}
use Rattle.refine_view.proofs.Phasing.{phase_moves}
use Rattle.refine_trace.proofs.Over.{over, condemned_class}
use Rattle.refine_trace.proofs.Entered.{Entered, entries_over}
use Rattle.refine_trace.proofs.Push.{Pushed}
use Rattle.theory.proofs.Updates.{pushes_alike}
use Rattle.refine_trace.proofs.Folds.{pointers_pushed}
use Rattle.refine_trace.proofs.Self.{entry_at}
use Rattle.refine_trace.proofs.Popping.{after, popped_over, count_after, phase_after, cursor_after, marked_view, segments_after, record_after, entered_after}
use Rattle.theory.specs.Machine as machine
use Rattle.theory.proofs.Agree as agreeing
use Rattle.theory.proofs.CycleKeeps as cycle

module _ (g : Geometry) (m : Mem) (s : Sizes g m) (c : Ordered g m) (marking : phase m ≡ mark) where
  marks_now : MarksIn mark g m
  marks_now = subst (λ p. MarksIn p g m) marking (structure_of g m c).marks

  -- ---- the stack is empty

  none_left : Moves g m (traces g 0 m).1 (trace_step [] (view g m))
  none_left = phase_moves g m m (view g m) (moves_self g m c) s sweep (λ t. absurd t) (λ k l u e. marks_now k l tt e)

  -- ---- the last entered record

  module _ (n : ℕ) (some_left : trace_count m ≡ suc n) where
    abbrev at : ℕ
    at = trace_word m n - 1

    at_live : machine.Live (view g m) at
    at_live = live_on g m (root (inr (entry_at g m s c n (omega arith))))

    at_record : RecordOk g m at
    at_record = to_record g m s c at at_live

    abbrev base : Mem
    base = after g m s c n some_left

    abbrev next_state : State
    next_state = trace (view g m) at (stack_of m n)

    stack_is : (view g m).stack ≡ at ∷ stack_of m n
    stack_is = ap (stack_of m) some_left

    was_live : {x : ℕ} → machine.Live next_state x → machine.Live (view g m) x
    was_live p = cycle.live_back (segment_of g) (view g m) (to_inv g m s c) at (stack_of m n) marking stack_is p

    popped_pushed : Pushed g base (popped g m at) (stack_of m n)
    popped_pushed = record {
      control = _;
      marks = _;
      trace = _;
      is = popped_over g m s c n some_left;
      entered = entered_after g m s c n some_left marking;
      stack = ap (stack_of base) (count_after g m s c n some_left) ∙ entries_same m base n (λ i h. refl);
    }

    pointer_live : (i x : ℕ) → i < pointer_count m at → record? (pointer m at i) ≡ some x → machine.Live (view g m) x
    pointer_live i x l e = next at_live (i, l, e)

    pointers_in : Pushed g base (traced g m at) (pushes (view g base).marked (tab (pointer_count m at) (λ i. record? (pointer m at i))) (stack_of m n))
    unfolding set_control
    pointers_in =
        pointers_pushed g base (segments_after g m s c n some_left) (popped g m at) (stack_of m n) popped_pushed at (pointer_count m at)
        (λ i x l e. record_after g m s c n some_left x (to_record g m s c x (pointer_live i x l e)))

    all_pushed : Pushed g base (traced g m at) next_state.stack
    all_pushed =
        subst (Pushed g base (traced g m at))
        (pushes_alike (view g base).marked (upd (view g m).marked at true) (tab (pointer_count m at) (λ i. record? (pointer m at i))) (stack_of m n) (λ x h. marked_view g m s c n some_left x))
        pointers_in

    module _ (control q t : List ℕ) (e : Entered g base control q t) (is : stack_of (over base control q t) (get_or control 1 0) ≡ next_state.stack) where
      abbrev next_memory : Mem
      next_memory = over base control q t

      phase_word : get_or control 0 0 ≡ control_word m 0
      phase_word = e.phase ∙ phase_after g m s c n some_left

      trace_agree : Agree (segment_of g) next_state (view g next_memory)
      trace_agree = record {
        phase = ap phase_of phase_word;
        stack = is;
        attached = λ i. refl;
        inside = λ i. refl;
        acks = λ i. refl;
        root = λ i j a h. refl;
        marked = λ x b h. e.same b (class_of g m b (to_record g m s c b (was_live h))) ∙ marked_view g m s c n some_left b;
        condemned_marks = λ b h. e.same b (condemned_class g m s c.segments b h) ∙ marked_view g m s c n some_left b;
        condemned = λ x. refl;
        pointer_count = λ b h. refl;
        values = λ b h. refl;
        pointer = λ b i h l. refl;
        used = λ b h. refl;
      }

      next_structure : Structure g next_memory
      next_structure = structure_beside g m control m.mutators q t m.heap (structure_of g m c) (subst (λ z. z ≤ 4) (sym phase_word) c.phases)
          (held_self g m control q t m.heap)
          (λ j l. mutator_beside g m control q t m.heap j (c.mutators j l))
          (λ x p. (to_record g m s c x (was_live (agreeing.live_back (segment_of g) next_state (view g next_memory) trace_agree (live_on g next_memory p))), refl))
          (entries_over g base control q t e m.mutators m.heap)
          (subst (λ z. MarksIn (phase_of z) g next_memory) (sym e.phase) e.marks)

      trace_over : Moves g m next_memory next_state
      trace_over = record {
        structure = next_structure;
        occupied = λ u. u;
        behind = λ u x h b. u x h (subst (λ z. x < z) (e.cursor ∙ cursor_after g m s c n some_left) b);
        agree = trace_agree;
        steady = λ x h z. (z, refl);
      }

    one_traced : Moves g m (traces g (suc n) m).1 (trace_step (stack_of m (suc n)) (view g m))
    one_traced = let p = all_pushed in subst (λ z. Moves g m z next_state) (sym p.is) (trace_over p.control p.marks p.trace p.entered p.stack)

  pub trace_by : (n : ℕ) → trace_count m ≡ n → Moves g m (traces g n m).1 (trace_step (stack_of m n) (view g m))
  trace_by zero e = none_left
  trace_by (suc n) e = one_traced n e
