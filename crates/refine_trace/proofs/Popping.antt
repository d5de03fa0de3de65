-- The last entered record taken off the trace stack: it is marked, no other is, and the rest is in order.
use mathlib.Core.Path.{◌≡◌, refl, sym, ◌∙◌, ap, subst}
use mathlib.Core.Logic.{◌⊎◌, inl, inr, ⊎_elim}
use mathlib.Core.Bool.{true, false, ◌&&◌}
use Prim.Native.Nat.{ℕ, suc, ◌-◌, ◌<◌}
use native.Mathlib.Omega.{arith}
use lib.Dec.{eqb}
use lib.ListN.{get_or, set, length-set}
use lib.Seq.{get_or-set_same, get_or-set_other}
use borrow.Author.Tests.{eq-eqb}
use Rattle.basics.specs.Pick.{pick}
use Rattle.layout.specs.declared.Geometry.{Geometry}
use Rattle.layout.specs.Mem.{Mem, Sizes, trace_word, control_word, set_control}
use mathlib.Core.List.{List}
use Rattle.theory.specs.Phases.{mark}
use Rattle.theory.specs.Reach.{root}
use Rattle.model.specs.PhaseNumbers.{phase_of}
use Rattle.theory.specs.Update.{upd}
use Rattle.theory.proofs.Updates.{upd_cases}
use Rattle.model.specs.Fields.{phase, cursor, trace_count}
use Rattle.model.specs.Records.{entered, on_stack, marked}
use Rattle.model.specs.Reaching.{IsEntry}
use Rattle.model.specs.Tracing.{popped}
use Rattle.model.specs.Consistent.{RecordOk, bit_word}
use Rattle.refine_view.specs.View.{view, is_head}
use Rattle.refine_view.specs.Refines.{Ordered, MarksIn}
use Rattle.refine_view.proofs.Frames.{use_beside, record_beside, segment_beside, held_self}
use Rattle.refine_view.proofs.Invariants.{structure_of}
use Rattle.model_laws.proofs.Marked.{stack_other, stacked?, off_stack}
use Rattle.refine_trace.proofs.Over.{over, Segments}
use Rattle.refine_trace.proofs.Entered.{Entered}
use Rattle.refine_trace.proofs.Self.{entry_at}

module _ (g : Geometry) (m : Mem) (s : Sizes g m) (c : Ordered g m) (n : ℕ) (is : trace_count m ≡ suc n) where
  abbrev at : ℕ
  at = trace_word m n - 1

  abbrev rest : List ℕ
  rest = set m.control 1 (trace_count m - 1)

  abbrev pub after : Mem
  after = over m rest m.marks m.trace

  pub popped_over : popped g m at ≡ after
  unfolding set_control
  popped_over = refl

  pub count_after : get_or rest 1 0 ≡ n
  count_after = let l = s.control in get_or-set_same m.control 1 (trace_count m - 1) 0 (omega arith) ∙ omega arith

  pub phase_after : get_or rest 0 0 ≡ control_word m 0
  phase_after = get_or-set_other m.control 1 0 (trace_count m - 1) 0 (λ z. omega arith)

  pub cursor_after : get_or rest 2 0 ≡ cursor m
  cursor_after = get_or-set_other m.control 1 2 (trace_count m - 1) 0 (λ z. omega arith)

  last : n < trace_count m
  last = omega arith

  last_word : trace_word m n ≡ suc at
  last_word = let z = c.trace.named n last in omega arith

  before : (i : ℕ) → i < get_or rest 1 0 → i < trace_count m
  before i l = let z = count_after in omega arith

  -- ---- what the machine sees of the marks

  marked_there : marked g after at ≡ 1
  marked_there = go (stacked? g after at)
    where
      go : IsEntry after at ⊎ (on_stack m.trace (get_or rest 1 0) at ≡ false) → marked g after at ≡ 1
      go (inl x) = let l : x.index < get_or rest 1 0 = x.within in absurd (c.trace.once x.index n (let z = count_after in omega arith) last (x.names ∙ sym last_word))
      go (inr f) = off_stack g after at f ∙ c.trace.bits at (entry_at g m s c n last)

  marked_else : (x : ℕ) → (x ≡ at → ⊥) → marked g after x ≡ marked g m x
  marked_else x d =
      ap (λ b. pick b 0 (entered g m x))
      (ap (λ k. on_stack m.trace k x) count_after ∙ sym (stack_other m.trace n x (λ z. d (let w = last_word in omega arith))) ∙ ap (λ k. on_stack m.trace k x) (sym is))

  -- the machine sees the record marked, and no other
  pub marked_view : (x : ℕ) → (view g after).marked x ≡ upd (view g m).marked at true x
  marked_view x = ⊎_elim (λ h. there h.0 ∙ sym h.1) (λ h. ap (λ z. is_head g m x && eqb z 1) (marked_else x h.0) ∙ sym h.1) (upd_cases (view g m).marked at true x)
    where
      there : x ≡ at → (is_head g m x && eqb (marked g after x) 1) ≡ true
      there e = rw e (rw (eq-eqb _ _ (c.records at (root (inr (entry_at g m s c n last)))).aligned, marked_there) refl)

  -- ---- the rest in order

  pub segments_after : Segments g after
  segments_after x l = segment_beside g m rest m.mutators m.marks m.trace m.heap (held_self g m rest m.marks m.trace m.heap) x (c.segments x l)

  pub record_after : (x : ℕ) → RecordOk g m x → RecordOk g after x
  record_after x o = record_beside g m rest m.mutators m.marks m.trace m.heap x refl o

  marks_after : phase m ≡ mark → MarksIn (phase after) g after
  marks_after e =
      subst (λ p. MarksIn p g after) (sym (ap phase_of phase_after ∙ e))
      (λ k l u b. use_beside g m rest m.mutators m.marks m.trace m.heap (bit_word k) (subst (λ p. MarksIn p g m) e (structure_of g m c).marks k l u b))

  pub entered_after : phase m ≡ mark → Entered g after rest m.marks m.trace
  entered_after e = record {
    length_control = length-set m.control 1 (trace_count m - 1) ∙ s.control;
    length_marks = s.marks;
    length_trace = s.trace;
    phase = refl;
    cursor = refl;
    named = λ i l. c.trace.named i (before i l);
    records = λ i l. record_after _ (c.records _ (root (inr (entry_at g m s c i (before i l)))));
    bits = λ i l. c.trace.bits _ (entry_at g m s c i (before i l));
    number = let z = count_after in let y = c.trace.number in omega arith;
    marks = marks_after e;
    same = λ x k. refl;
  }
