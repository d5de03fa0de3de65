-- The memory after the sweep of a segment agrees with the abstract machine's sweep of it.
use mathlib.Core.Path.{◌≡◌, sym, ◌∙◌, ap, subst}
use mathlib.Core.Logic.{◌⊎◌, inl, inr}
use mathlib.Core.Bool.{true, false, not, ◌&&◌, true≢false}
use Prim.Native.Nat.{ℕ, ◌%◌, ◌<◌}
use native.Mathlib.Decide.{ℕ_discrete}
use lib.Dec.{eqb}
use borrow.Author.Tests.{eq-eqb, ne_eqb}
use Rattle.layout.specs.declared.Geometry.{Geometry}
use Rattle.layout.specs.Geometry.{segment_words, segment_of}
use Rattle.layout.specs.Mem.{Mem, Sizes}
use Rattle.theory.specs.Phases.{sweep}
use Rattle.theory.specs.Update.{if_dec}
use Rattle.theory.proofs.Updates.{upd_cases}
use Rattle.theory.proofs.Agree.{Agree}
use Rattle.theory.proofs.Invariant.{Tracing}
use Rattle.model.specs.Fields.{phase, trace_count, absent, inside, tag}
use Rattle.classes.specs.Class.{block_words}
use Rattle.model.specs.Records.{record?}
use Rattle.model.specs.Reaching.{Live, is_marked}
use Rattle.refine_view.specs.View.{view, stack_of, is_head, is_used}
use Rattle.refine_view.specs.Refines.{Ordered, Moves}
use Rattle.model_laws.proofs.Bools.{and_both}
use Rattle.model_laws.proofs.Marked.{marked_by}
use Rattle.refine_view.proofs.Seeing.{head_of}
use Rattle.refine_view.proofs.Contents.{pointers_by, fields_by}
use Rattle.refine_view.proofs.Invariants.{to_live, used_of, used_record}
use Rattle.refine_sweep.proofs.Frames.{mutator_same, heap_same}
use Rattle.refine_sweep.proofs.Outcome.{Outcome}
use Rattle.refine_sweep.proofs.Survivors.{empty, empty_after, phase_after, live_marked, control_same}
use Rattle.refine_sweep.proofs.Structured.{record_after, structure_after, occupied_after, steady_after}
use Rattle.refine_view.proofs.SelfSimulation.{behind_by}
use Rattle.theory.specs.Machine as machine
use Rattle.model.specs.Tag as Tag

module _ (g : Geometry) (m : Mem) (s : Sizes g m) (c : Ordered g m) (ph : phase m ≡ sweep) (m' : Mem) (r : ℕ) (l : r < g.segments) (t : tag m r ≡ Tag.condemned) (o : Outcome g m m' r) where
  abbrev after : machine.State
  after = machine.sweep_segment (segment_of g) (view g m) r

  stack_agrees : stack_of m' (trace_count m') ≡ stack_of m (trace_count m)
  stack_agrees = ap (stack_of m') (empty_after g m s c ph m' r l t o) ∙ sym (ap (stack_of m) (empty g m s c ph m' r l t o))

  used_agrees : (x : ℕ) → Live m x → is_used g m' x ≡ after.used x
  used_agrees x p = used_record g m' x (record_after g m s c ph m' r l t o x p) ∙ sym (go (ℕ_discrete (segment_of g x) r))
    where
      go : (d : Dec (segment_of g x ≡ r)) → if_dec d (is_head g m x && is_marked g m x) (is_used g m x) ≡ true
      go (yes e) = and_both _ _ (head_of g m s c.trace.named c.records x p) (eq-eqb _ _ (live_marked g m s c ph m' r l t o x p e))
      go (no e) = used_of g m s c x p

  collect_agrees : (x : ℕ) → eqb (tag m' x) Tag.condemned ≡ after.condemned x
  collect_agrees x = go (upd_cases (λ z. eqb (tag m z) Tag.condemned) r false x)
    where
      go : ((x ≡ r) × (after.condemned x ≡ false)) ⊎ ((x ≡ r → ⊥) × (after.condemned x ≡ eqb (tag m x) Tag.condemned)) → eqb (tag m' x) Tag.condemned ≡ after.condemned x
      go (inl h) = ne_eqb _ _ (λ e. o.uncondemned (sym (ap (tag m') h.0) ∙ e)) ∙ sym h.1
      go (inr h) = ap (λ z. eqb z 4) (o.left.other x h.0).tag ∙ sym h.1

  -- the marks of the segments that remain to be swept
  fated_agrees : (x : ℕ) → after.condemned (segment_of g x) ≡ true → (is_head g m' x && is_marked g m' x) ≡ (is_head g m x && is_marked g m x)
  fated_agrees x e = go (upd_cases (λ z. eqb (tag m z) Tag.condemned) r false (segment_of g x))
    where
      go : ((segment_of g x ≡ r) × (after.condemned (segment_of g x) ≡ false))
          ⊎ ((segment_of g x ≡ r → ⊥) × (after.condemned (segment_of g x) ≡ eqb (tag m (segment_of g x)) Tag.condemned))
          → (is_head g m' x && is_marked g m' x) ≡ (is_head g m x && is_marked g m x)
      go (inl h) = absurd (true≢false (sym e ∙ h.1))
      go (inr h) =
          ap (λ z. eqb (x % segment_words g % block_words z) 0 && is_marked g m' x) (o.left.other (segment_of g x) h.0).class
          ∙ ap (λ z. is_head g m x && eqb z 1) (marked_by g m m' x o.left.marks o.left.trace (empty_after g m s c ph m' r l t o ∙ sym (empty g m s c ph m' r l t o)))

  pub agree_after : Agree (segment_of g) after (view g m')
  agree_after =
      let st = mutator_same m m' o.left.mutators in
      record {
        phase = phase_after g m s c ph m' r l t o ∙ sym ph;
        stack = stack_agrees;
        attached = λ i. ap (λ z. not (eqb z absent)) (st _);
        inside = λ i. ap (λ z. eqb z inside) (st _);
        acks = λ i. st _;
        root = λ i k a h. ap record? (st _);
        marked = λ q. absurd (subst Tracing ph q);
        condemned_marks = fated_agrees;
        condemned = collect_agrees;
        pointer_count = λ x p. pointers_by m m' x (heap_same m m' o.left.heap x);
        values = λ x p. fields_by m m' x (heap_same m m' o.left.heap x) (λ f l. heap_same m m' o.left.heap _);
        pointer = λ x f p h. ap record? (heap_same m m' o.left.heap _);
        used = λ x p. used_agrees x (to_live g m s c p);
      }

  pub moves_after : Moves g m m' after
  moves_after = record {
    structure = structure_after g m s c ph m' r l t o;
    occupied = occupied_after g m s c ph m' r l t o;
    behind = behind_by g m m' (steady_after g m s c ph m' r l t o) (control_same g m s c ph m' r l t o 2);
    agree = agree_after;
    steady = steady_after g m s c ph m' r l t o;
  }
