-- The block that is handed out was not in use: not in the machine, not marked while tracing, not condemned.
use mathlib.Core.Path.{◌≡◌, ◌∙◌, ap, subst}
use mathlib.Core.Bool.{false, not, ◌&&◌}
use mathlib.Core.Logic.{inr, ⊎_elim}
use Prim.Native.Nat.{ℕ, ◌*◌, ◌<◌}
use native.Mathlib.Omega.{arith}
use lib.Dec.{eqb}
use borrow.Author.Tests.{ne_eqb, le-ltb}
use Rattle.basics.proofs.Order.{same_or_not}
use Rattle.words.proofs.Word.{one_of-not_zero}
use Rattle.words.proofs.Lists.{at_lt}
use Rattle.classes.specs.declared.RecordShape.{RecordShape}
use Rattle.layout.specs.Geometry.{most_blocks, segment_of, mark_bit}
use Rattle.layout.specs.declared.Geometry.{Geometry}
use Rattle.layout.specs.Mem.{Mem}
use Rattle.theory.specs.Phases.{Phase, idle, sync1, sync2, mark, sweep}
use Rattle.theory.proofs.Invariant.{Tracing}
use Rattle.model.specs.Fields.{phase, tag, place}
use Rattle.model.specs.Segments.{used_bit}
use Rattle.model.specs.Records.{block_of, header_of, entered}
use Rattle.model.specs.Consistent.{HeadInUse, MarksOf, bit_word}
use Rattle.theory.specs.Reach.{root}
use Rattle.refine_view.specs.View.{is_used}
use Rattle.refine_view.specs.Refines.{Ordered, MarksIn}
use Rattle.model_laws.proofs.Bools.{and_false}
use Rattle.model_laws.proofs.Blocks.{header_segment, header_block, header_inside, header_is_class, header_head, head_word, bit_below}
use Rattle.classes.proofs.Filling.{two_words}
use Rattle.refine_view.proofs.Invariants.{structure_of}
use Rattle.refine_making.proofs.Request.{Request}
use Rattle.model.specs.Tag as Tag

module _ (g : Geometry) (m : Mem) (c : Ordered g m) (k d cl r b : ℕ) (shape : RecordShape) (q : Request g m k d cl r b shape) where
  abbrev h : ℕ
  h = header_of g r cl b

  pub segment_is : segment_of g h ≡ r
  segment_is = header_segment g cl q.is_class r b q.below

  pub unused_bit : used_bit g m r b ≡ 0
  unused_bit = rw (le-ltb b (place m r) q.after) q.unused

  pub not_used : is_used g m h ≡ false
  not_used =
      let e : used_bit g m (segment_of g h) (block_of g m h) ≡ used_bit g m r b =
      ap (λ z. used_bit g m z (block_of g m h)) segment_is ∙ ap (used_bit g m r) (header_block g cl q.is_class r b q.below m q.of_class) in
      let z = unused_bit in
      ap (λ x. not (eqb (tag m (segment_of g h)) Tag.free) && x) (ne_eqb (used_bit g m (segment_of g h) (block_of g m h)) 1 (λ y. omega arith)) ∙ and_false (not (eqb (tag m (segment_of g h)) Tag.free))

  pub not_collected : eqb (tag m (segment_of g h)) Tag.condemned ≡ false
  not_collected =
      let e : tag m (segment_of g h) ≡ tag m r = ap (tag m) segment_is in
      let z = q.is_held in
      ne_eqb (tag m (segment_of g h)) 4 (λ y. omega arith)

  head_is : bit_word (mark_bit h) ≡ h
  head_is = head_word g m h (header_is_class g cl q.is_class r b q.below m q.of_class) (header_head g cl q.is_class r b q.below m q.of_class)

  bit_in : mark_bit h < g.segments * most_blocks g
  bit_in =
      let z = header_inside g cl q.is_class r b q.below q.inside in
      let w = two_words cl q.is_class in
      bit_below g m h (header_is_class g cl q.is_class r b q.below m q.of_class) (omega arith)

  -- only blocks in use have marks
  pub not_marked : Tracing (phase m) → entered g m h ≡ 0
  not_marked t = go (phase m) (structure_of g m c).marks t
    where
      in_use : MarksOf g m (λ s. Unit {0}) → entered g m h ≡ 0
      in_use f = ⊎_elim (λ z. z) (λ z. absurd (used z)) (same_or_not (entered g m h) 0)
        where
          used : (entered g m h ≡ 0 → ⊥) → ⊥
          used z =
              let w = subst (HeadInUse g m) head_is (f (mark_bit h) bit_in tt (one_of-not_zero _ (at_lt m.marks (mark_bit h)) z)) in
              let u = w.block in
              let v = unused_bit in
              let e : used_bit g m (segment_of g h) (block_of g m h) ≡ used_bit g m r b =
              ap (λ z. used_bit g m z (block_of g m h)) segment_is ∙ ap (used_bit g m r) (header_block g cl q.is_class r b q.below m q.of_class) in
              omega arith

      go : (ph : Phase) → MarksIn ph g m → Tracing ph → entered g m h ≡ 0
      go idle f t = absurd t
      go sync1 f t = in_use (λ k l u e. let o = c.records (bit_word k) (root (inr (f k l e))) in record { used = o.used; aligned = o.aligned; block = o.block })
      go sync2 f t = in_use f
      go mark f t = in_use f
      go sweep f t = absurd t
