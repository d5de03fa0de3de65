-- The sweep's cursor passes the segment that was swept, which was the lowest condemned one.
use mathlib.Core.Path.{◌≡◌, refl, sym, ◌∙◌, ap, subst}
use mathlib.Core.Logic.{⊎_elim}
use mathlib.Core.Bool.{◌&&◌}
use mathlib.Core.List.{List}
use Prim.Native.Nat.{ℕ, suc, ◌≤◌, ◌<◌}
use native.Mathlib.Omega.{arith}
use lib.Dec.{eqb}
use lib.ListN.{length, get_or, set}
use lib.Seq.{get_or-set_same, get_or-set_other}
use Rattle.basics.proofs.Order.{same_or_not}
use Rattle.layout.specs.declared.Geometry.{Geometry}
use Rattle.layout.specs.Geometry.{segment_of}
use Rattle.layout.specs.Mem.{Mem, Sizes, control_word, set_control}
use Rattle.theory.specs.Phases.{sweep}
use Rattle.theory.specs.Machine.{State}
use Rattle.theory.proofs.Agree.{Agree}
use Rattle.model.specs.PhaseNumbers.{phase_of}
use Rattle.model.specs.Fields.{phase, trace_count, set_cursor, cursor, tag}
use Rattle.model.specs.Reaching.{Live}
use Rattle.model.specs.Consistent.{Behind}
use Rattle.model_laws.proofs.Marked.{marked_by}
use Rattle.refine_view.specs.View.{view, stack_of, is_head}
use Rattle.refine_view.specs.Refines.{Ordered, Structure, MarksIn, Moves}
use Rattle.refine_view.proofs.Seeing.{entries_same, root_was, entry_was, edge_was, live_was}
use Rattle.refine_view.proofs.Carried.{entries_by}
use Rattle.refine_view.proofs.Frames.{beside, held_self, mutator_beside, marks_beside, structure_beside}
use Rattle.refine_sweep.proofs.Outcome.{Outcome}
use Rattle.refine_sweep.proofs.Agreeing.{moves_after}
use Rattle.theory.specs.Machine as machine
use Rattle.model.specs.Tag as Tag

-- the machine does not see the cursor
module _ (g : Geometry) (m m' : Mem) (st : State) (v : Moves g m m' st) (n : ℕ) where
  abbrev words : List ℕ
  words = set m'.control 2 n

  abbrev now : Mem
  now = beside m' words m'.mutators m'.marks m'.trace m'.heap

  phase_word : get_or words 0 0 ≡ control_word m' 0
  phase_word = get_or-set_other m'.control 2 0 n 0 (λ e. omega arith)

  count_same : get_or words 1 0 ≡ trace_count m'
  count_same = get_or-set_other m'.control 2 1 n 0 (λ e. omega arith)

  was_live : {x : ℕ} → Live now x → Live m' x
  was_live q = live_was m' now (root_was m' now (λ k e. e) (λ k i l. refl)) (entry_was m' now count_same (λ i. refl)) (edge_was m' now (λ i. refl)) q

  next_structure : Structure g now
  next_structure =
      let o = v.structure in
      structure_beside g m' words m'.mutators m'.marks m'.trace m'.heap o
      (subst (λ z. z ≤ 4) (sym phase_word) o.phases)
      (held_self g m' words m'.marks m'.trace m'.heap)
      (λ k l. mutator_beside g m' words m'.marks m'.trace m'.heap k (o.mutators k l))
      (λ x q. (o.records x (was_live q), refl))
      (entries_by g m' now o.trace count_same (λ i. refl) refl)
      (subst (λ z. MarksIn (phase_of z) g now) (sym phase_word) (marks_beside g m' words m'.mutators m'.heap count_same (phase m') o.marks))

  same_mark : (b : ℕ) → (view g now).marked b ≡ (view g m').marked b
  same_mark b = ap (λ z. is_head g m' b && eqb z 1) (marked_by g m' now b refl refl count_same)

  next_agree : Agree (segment_of g) st (view g now)
  next_agree = let a = v.agree in record {
    phase = ap phase_of phase_word ∙ a.phase;
    stack = ap (stack_of now) count_same ∙ entries_same m' now (trace_count m') (λ i h. refl) ∙ a.stack;
    attached = a.attached;
    inside = a.inside;
    acks = a.acks;
    root = a.root;
    marked = λ t b h. same_mark b ∙ a.marked t b h;
    condemned_marks = λ b h. same_mark b ∙ a.condemned_marks b h;
    condemned = a.condemned;
    pointer_count = a.pointer_count;
    values = a.values;
    pointer = a.pointer;
    used = a.used;
  }

  cursor_moves : Behind g (set_cursor m' n) → Moves g m (set_cursor m' n) st
  unfolding set_control
  cursor_moves b = record { structure = next_structure; occupied = v.occupied; behind = λ _. b; agree = next_agree; steady = v.steady }

module _ (g : Geometry) (m : Mem) (s : Sizes g m) (c : Ordered g m) (ph : phase m ≡ sweep) (r : ℕ) (l : r < g.segments)
    (t : tag m r ≡ Tag.condemned) (low : (x : ℕ) → x < r → tag m x ≡ Tag.condemned → ⊥) (m' : Mem) (o : Outcome g m m' r) where
  cursor_there : cursor (set_cursor m' (suc r)) ≡ suc r
  unfolding set_control
  cursor_there = let y = s.control in let z : length m'.control ≡ length m.control = ap (λ (w : List ℕ). length w) o.left.control in get_or-set_same m'.control 2 (suc r) 0 (omega arith)

  passed : Behind g (set_cursor m' (suc r))
  unfolding set_control
  passed x h b e = ⊎_elim (λ q. o.uncondemned (sym (ap (tag m') q) ∙ e)) (λ d. let y = cursor_there in low x (omega arith) (sym (o.left.other x d).tag ∙ e)) (same_or_not x r)

  pub swept_moves : Moves g m (set_cursor m' (suc r)) (machine.sweep_segment (segment_of g) (view g m) r)
  swept_moves = cursor_moves g m m' _ (moves_after g m s c ph m' r l t o) (suc r) passed
