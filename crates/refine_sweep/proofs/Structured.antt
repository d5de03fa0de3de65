-- After the sweep of a segment the words are in order.
use mathlib.Core.Path.{◌≡◌, sym, ◌∙◌, ap, subst}
use mathlib.Core.Logic.{◌⊎◌, inl, inr, ⊎_elim}
use mathlib.Core.List.{List}
use Prim.Native.Nat.{ℕ, ◌≤◌, ◌<◌}
use native.Mathlib.Omega.{arith}
use lib.ListN.{get_or}
use Rattle.basics.proofs.Order.{same_or_not}
use Rattle.words.specs.Bits.{bit_at}
use Rattle.layout.specs.declared.Geometry.{Geometry}
use Rattle.layout.specs.Geometry.{mutator_count, segment_of}
use Rattle.layout.specs.Mem.{Mem, Sizes}
use Rattle.theory.specs.Phases.{sweep}
use Rattle.model.specs.Fields.{phase, tag}
use Rattle.model.specs.Reaching.{Live}
use Rattle.model.specs.Records.{block_of}
use Rattle.model.specs.Consistent.{InPhase, SegmentOk, Occupied, TreeOk, CountsOk, MutatorOk, RecordOk, HeadInUse, bit_word}
use Rattle.refine_view.specs.Refines.{Ordered, EachOccupied, Structure, MarksIn, Steady}
use Rattle.model_laws.proofs.Segments.{segment_same, tree_same, counts_by, occupied_by}
use Rattle.refine_view.proofs.Carried.{record_by, use_by, entries_by}
use Rattle.refine_view.proofs.Invariants.{structure_of}
use Rattle.refine_sweep.proofs.Frames.{mutator_same, heap_same}
use Rattle.refine_sweep.proofs.Outcome.{Outcome}
use Rattle.refine_sweep.proofs.Survivors.{control_same, phase_after, live_was, class_same, used_other, tag_after, block_after}
use Rattle.model.specs.Tag as Tag

module _ (g : Geometry) (m : Mem) (s : Sizes g m) (c : Ordered g m) (ph : phase m ≡ sweep) (m' : Mem) (r : ℕ) (l : r < g.segments) (t : tag m r ≡ Tag.condemned) (o : Outcome g m m' r) where
  pub record_after : (x : ℕ) → Live m x → RecordOk g m' x
  record_after x p =
      record_by g m m' x (class_same g m s c ph m' r l t o x p) (c.records x p) (tag_after g m s c ph m' r l t o x p)
      (block_after g m s c ph m' r l t o x p) (heap_same m m' o.left.heap x)

  segment_after : (x : ℕ) → x < g.segments → (x ≡ r) ⊎ (x ≡ r → ⊥) → SegmentOk g m' x
  segment_after x h (inl e) = subst (SegmentOk g m') (sym e) o.segment
  segment_after x h (inr d) =
      let st = mutator_same m m' o.left.mutators in
      segment_same g m m' x (c.segments x h) (o.left.other x d) (o.left.bitmaps x d) (λ e. let y = (c.segments x h).held e in (λ z. y.1 (sym (st _) ∙ z), st _ ∙ y.2))

  tree_after : (x : ℕ) → x < g.segments → (x ≡ r) ⊎ (x ≡ r → ⊥) → TreeOk g m' x
  tree_after x h (inl e) = subst (TreeOk g m') (sym e) o.tree
  tree_after x h (inr d) = let w = o.left.other x d in tree_same g m m' x (c.summed.trees x h) (λ e. w.tag ∙ e) w.class (o.left.bitmaps x d)

  counts_after : (x : ℕ) → x < g.segments → CountsOk g m' x
  counts_after x h =
      ⊎_elim (λ e. subst (CountsOk g m') (sym e) o.counts) (λ d. counts_by g m m' x (c.summed.counts x h) (o.left.other x d) (o.left.bitmaps x d)) (same_or_not x r)

  pub occupied_after : EachOccupied g m → EachOccupied g m'
  occupied_after u x h = ⊎_elim (λ e. subst (Occupied g m') (sym e) o.occupied) (λ d. occupied_by g m m' x (u x h) (o.left.other x d) (o.left.bitmaps x d)) (same_or_not x r)

  mutator_after : (k : ℕ) → k < mutator_count → MutatorOk g m' k
  mutator_after k h =
      let q = c.mutators k h in
      let st = mutator_same m m' o.left.mutators in
      record {
        states = subst (λ z. z ≤ 2) (sym (st _)) q.states;
        acknowledged = subst (λ z. z ≤ 2) (sym (st _)) q.acknowledged;
        gone = λ e i a. st _ ∙ q.gone (sym (st _) ∙ e) i a;
        holds =
            λ x y a e.
            let z = q.holds x y a (sym (st _) ∙ e) in
            let d : y ≡ r → ⊥ = (λ f. let u : tag m y ≡ Tag.condemned = ap (tag m) f ∙ t in let v : tag m y ≡ Tag.held = z.1 in omega arith) in
            let w = o.left.other y d in
            (z.0, w.tag ∙ z.1, w.class ∙ z.2, w.owner ∙ z.3);
      }

  pub steady_after : Steady g m m'
  steady_after x h e =
      let d : x ≡ r → ⊥ = λ f. o.uncondemned (sym (ap (tag m') f) ∙ e) in
      let w = o.left.other x d in
      (sym w.tag ∙ e, w.class)

  marks_after : MarksIn sweep g m'
  marks_after k h e q =
      let x = bit_word k in
      let d : segment_of g x ≡ r → ⊥ = λ f. o.uncondemned (sym (ap (tag m') f) ∙ e) in
      let w = o.left.other (segment_of g x) d in
      let u : HeadInUse g m x = (subst (λ p. InPhase p g m) ph c.cycle).1 k h (sym w.tag ∙ e) (sym (ap (λ (z : List ℕ). bit_at z k) o.left.marks) ∙ q) in
      use_by g m m' x w.class u (λ z. u.used (sym w.tag ∙ z)) (used_other g m s c ph m' r l t o (segment_of g x) (block_of g m x) d ∙ u.block)

  pub structure_after : Structure g m'
  structure_after = record {
    phases = subst (λ z. z ≤ 4) (sym (control_same g m s c ph m' r l t o 0)) c.phases;
    segments = λ x h. segment_after x h (same_or_not x r);
    summed = record { trees = λ x h. tree_after x h (same_or_not x r); counts = counts_after; free_segments = o.stacks.0; part_segments = o.stacks.1 };
    mutators = mutator_after;
    records = λ x p. record_after x (live_was g m s c ph m' r l t o p);
    trace = entries_by g m m' (structure_of g m c).trace (control_same g m s c ph m' r l t o 1) (λ i. ap (λ (z : List ℕ). get_or z i 0) o.left.trace) o.left.marks;
    marks = subst (λ p. MarksIn p g m') (sym (phase_after g m s c ph m' r l t o)) marks_after;
  }
