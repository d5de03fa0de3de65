-- The next phase, on the memory and on the machine.
use mathlib.Core.Path.{◌≡◌, refl, sym, ◌∙◌, ap, subst}
use mathlib.Core.List.{List}
use Prim.Native.Nat.{ℕ, ◌≤◌, ◌<◌}
use native.Mathlib.Omega.{arith}
use lib.Dec.{eqb}
use lib.ListN.{get_or, set}
use mathlib.Core.Bool.{◌&&◌}
use Rattle.model_laws.proofs.Marked.{marked_by}
use lib.Seq.{get_or-set_same, get_or-set_other}
use Rattle.layout.specs.Geometry.{segment_of}
use Rattle.layout.specs.declared.Geometry.{Geometry}
use Rattle.layout.specs.Mem.{Mem, set_control, Sizes}
use Rattle.theory.specs.Phases.{Phase, idle, sync1, sync2, mark, sweep}
use Rattle.theory.specs.Machine.{State}
use Rattle.theory.proofs.Agree.{Agree}
use Rattle.theory.proofs.Invariant.{Tracing}
use Rattle.model.specs.PhaseNumbers.{phase_of, phase_number}
use Rattle.model.specs.Fields.{set_phase, trace_count, cursor}
use Rattle.model.specs.Reaching.{Live}
use Rattle.refine_view.specs.View.{view, stack_of, is_head}
use Rattle.refine_view.specs.Refines.{Structure, Moves, MarksIn}
use Rattle.refine_view.proofs.Seeing.{entries_same, root_was, entry_was, edge_was, live_was}
use Rattle.refine_view.proofs.Carried.{entries_by}
use Rattle.refine_view.proofs.Frames.{beside, held_self, mutator_beside, marks_beside, structure_beside}
use Rattle.theory.specs.Machine as machine

numbered : (p : Phase) → phase_of (phase_number p) ≡ p
numbered idle = refl
numbered sync1 = refl
numbered sync2 = refl
numbered mark = refl
numbered sweep = refl

number_le : (p : Phase) → phase_number p ≤ 4
number_le idle = omega arith
number_le sync1 = omega arith
number_le sync2 = omega arith
number_le mark = omega arith
number_le sweep = omega arith

module _ (g : Geometry) (m m' : Mem) (st : State) (v : Moves g m m' st) (s : Sizes g m') (p : Phase) (tracing : Tracing p → Tracing st.phase) (marks : MarksIn p g m') where
  abbrev words : List ℕ
  words = set m'.control 0 (phase_number p)

  abbrev now : Mem
  now = beside m' words m'.mutators m'.marks m'.trace m'.heap

  phase_word : get_or words 0 0 ≡ phase_number p
  phase_word = let l = s.control in get_or-set_same m'.control 0 (phase_number p) 0 (omega arith)

  count_same : get_or words 1 0 ≡ trace_count m'
  count_same = get_or-set_other m'.control 0 1 (phase_number p) 0 (λ e. omega arith)

  cursor_same : get_or words 2 0 ≡ cursor m'
  cursor_same = get_or-set_other m'.control 0 2 (phase_number p) 0 (λ e. omega arith)

  was_live : {x : ℕ} → Live now x → Live m' x
  was_live q = live_was m' now (root_was m' now (λ k e. e) (λ k i l. refl)) (entry_was m' now count_same (λ i. refl)) (edge_was m' now (λ i. refl)) q

  next_structure : Structure g now
  next_structure =
      let o = v.structure in
      structure_beside g m' words m'.mutators m'.marks m'.trace m'.heap o
      (subst (λ z. z ≤ 4) (sym phase_word) (number_le p))
      (held_self g m' words m'.marks m'.trace m'.heap)
      (λ k l. mutator_beside g m' words m'.marks m'.trace m'.heap k (o.mutators k l))
      (λ x q. (o.records x (was_live q), refl))
      (entries_by g m' now o.trace count_same (λ i. refl) refl)
      (subst (λ z. MarksIn z g now) (sym (ap phase_of phase_word ∙ numbered p)) (marks_beside g m' words m'.mutators m'.heap count_same p marks))

  same_mark : (b : ℕ) → (view g now).marked b ≡ (view g m').marked b
  same_mark b = ap (λ z. is_head g m' b && eqb z 1) (marked_by g m' now b refl refl count_same)

  next_agree : Agree (segment_of g) (machine.set_phase st p) (view g now)
  next_agree = let a = v.agree in record {
    phase = ap phase_of phase_word ∙ numbered p;
    stack = ap (stack_of now) count_same ∙ entries_same m' now (trace_count m') (λ i h. refl) ∙ a.stack;
    attached = a.attached;
    inside = a.inside;
    acks = a.acks;
    root = a.root;
    marked = λ t b h. same_mark b ∙ a.marked (tracing t) b h;
    condemned_marks = λ b h. same_mark b ∙ a.condemned_marks b h;
    condemned = a.condemned;
    pointer_count = a.pointer_count;
    values = a.values;
    pointer = a.pointer;
    used = a.used;
  }

  pub phase_moves : Moves g m (set_phase m' p) (machine.set_phase st p)
  unfolding set_control
  phase_moves = record { structure = next_structure; occupied = v.occupied; behind = λ u x h b. v.behind u x h (subst (λ z. x < z) cursor_same b); agree = next_agree; steady = v.steady }
