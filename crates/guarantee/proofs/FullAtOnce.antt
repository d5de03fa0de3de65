-- A make of a class of one block: no segment of the class is held or part, so it takes a free one, and the block that it hands out is the last.
use mathlib.Core.Path.{◌≡◌, refl, sym, ◌∙◌, ap, subst}
use mathlib.Core.Logic.{◌⊎◌, inl, inr}
use mathlib.Core.Bool.{Bool, true, false}
use Prim.Native.Nat.{ℕ, zero, suc, ◌+◌, ◌-◌, ◌≤◌, ◌<◌}
use native.Mathlib.Omega.{arith}
use lib.Dec.{eqb}
use lib.ListN.{length}
use borrow.Author.Tests.{eqb-true}
use Rattle.basics.specs.Pick.{pick}
use Rattle.classes.specs.Class.{IsClass, SizeClass}
use Rattle.std.specs.Prelude.{Some, None}
use Rattle.classes.proofs.Smallest.{class_found}
use Rattle.classes.specs.Record.{of_counts, class_of_record}
use Rattle.layout.specs.declared.Geometry.{Geometry}
use Rattle.layout.specs.Geometry.{mutator_count, root_count, blocks_in, segment_of}
use Rattle.layout.specs.Mem.{Mem, mem_of, Sizes}
use Rattle.layout.proofs.Regions.{sized}
use Rattle.theory.specs.Calls.{c_make, a_ok, refusal, refuse}
use Rattle.theory.proofs.Refusals.{by_ok, root_ok}
use Rattle.model.specs.Fields.{holding, tag, class}
use Rattle.model.specs.Segments.{count, top, part_stack, free_stack}
use Rattle.model.specs.Records.{header_of}
use Rattle.model.specs.Making.{held, part, unused, no_room, source_of, handed_out, in_block, in_segment, from_source, made}
use Rattle.model.specs.Calls.{is_attached, observe, act, exec, of_class}
use Rattle.model.specs.Consistent.{Consistent}
use Rattle.model.proofs.InUse.{two_blocks}
use Rattle.model_laws.proofs.Lengths.{sizes_of}
use Rattle.model_laws.proofs.Topmost.{top_part, part_tag, part_class, free_tag}
use Rattle.refine_view.specs.Refines.{Ordered}
use Rattle.refine_view.proofs.Invariants.{consistent_ordered}
use Rattle.refine_take_detach.proofs.SegmentTaken.{SegmentTaken}
use Rattle.refine_take_detach.proofs.TakeFree.{taken_free}
use Rattle.refine_making.proofs.Request.{Request, requested}
use Rattle.refine_making.proofs.Result.{StillHeld, NowFull, Result}
use Rattle.refine_making.proofs.Blackened.{result}
use Rattle.refine_making.proofs.Unused.{segment_is}
use Rattle.guarantee.specs.HandsBack.{FullAtOnce, EveryFullAtOnce}
use Rattle.guarantee.proofs.AllRefine.{in_order, some_of}
use Rattle.model.specs.Tag as Tag
use Rattle.guarantee.proofs.Refused as refused

module _ (g : Geometry) (m : Mem) (s : Sizes g m) (c : Consistent g m) (k d cl p n : ℕ) (l : k < mutator_count)
    (a : is_attached m k ≡ true) (h : d < root_count) (e : class_of_record (of_counts p n) ≡ Some cl) (one : blocks_in g cl ≡ 1) where
  is_class_lem : IsClass cl
  is_class_lem = class_found (p + n) cl e

  order : Ordered g m
  order = consistent_ordered g m c

  -- no segment of the class is part or held
  none_shared : {A : Type 0} (r : ℕ) → r < g.segments → Tag.part ≤ tag m r → tag m r ≤ Tag.held → class m r ≡ cl → A
  none_shared r i x y q = let b = two_blocks g m r (c.sound.segments r i) (c.sound.occupied r i) x y in let z = ap (blocks_in g) q in absurd (omega arith)

  -- out of a free segment that is taken
  module _ (m₁ : Mem) (r : ℕ) (free : tag m r ≡ Tag.free) (t : SegmentTaken g m m₁ k cl r) where
    ordered : Ordered g m₁
    ordered = in_order g m s order k d cl p n l a h e m₁ r t

    handed_full : (b : ℕ) → Request g m₁ k d cl r b (of_counts p n) → FullAtOnce g m (handed_out g m₁ k d cl r b (of_counts p n)) k d
    handed_full b q = go y.segment
      where
        y : Result g m₁ (handed_out g m₁ k d cl r b (of_counts p n)) k d cl r b (of_counts p n)
        y = result g m₁ t.sizes k d cl r b (of_counts p n) q

        at_segment : segment_of g (header_of g r cl b) ≡ r
        at_segment = segment_is g m₁ ordered k d cl r b (of_counts p n) q

        go : StillHeld g m₁ (handed_out g m₁ k d cl r b (of_counts p n)) k cl r b ⊎ NowFull g m₁ (handed_out g m₁ k d cl r b (of_counts p n)) k cl r b
            → FullAtOnce g m (handed_out g m₁ k d cl r b (of_counts p n)) k d
        go (inl v) = let w = v.after in let u = v.below in absurd (omega arith)
        go (inr v) = record {
          at = header_of g r cl b;
          named = y.named;
          free = ap (tag m) at_segment ∙ free;
          full = ap (tag (handed_out g m₁ k d cl r b (of_counts p n))) at_segment ∙ v.recorded.tag;
        }

    from_taken : FullAtOnce g m (in_segment g m m₁ k d cl r (of_counts p n)).1 k d
    from_taken =
        let x = requested g m₁ ordered k d cl r (of_counts p n) l t.known h e t.holds in
        subst (λ f. FullAtOnce g m (in_block g m m₁ f k d cl r (of_counts p n)).1 k d) (sym x.1) (handed_full x.0 x.2)

  by_source : (from_source g m k d cl (of_counts p n) (source_of g m k cl)).0 ≡ a_ok → FullAtOnce g m (from_source g m k d cl (of_counts p n) (source_of g m k cl)).1 k d
  by_source = go (eqb (holding m k cl) 0) (eqb (count g m (part_stack cl)) 0) (eqb (count g m free_stack) 0) refl refl refl
    where
      go : (x y z : Bool) → eqb (holding m k cl) 0 ≡ x → eqb (count g m (part_stack cl)) 0 ≡ y → eqb (count g m free_stack) 0 ≡ z
          → (from_source g m k d cl (of_counts p n)
          (pick x (pick y (pick z no_room (unused (top g m free_stack))) (part (top g m (part_stack cl)))) (held (holding m k cl - 1)))).0 ≡ a_ok
          → FullAtOnce g m (from_source g m k d cl (of_counts p n)
          (pick x (pick y (pick z no_room (unused (top g m free_stack))) (part (top g m (part_stack cl)))) (held (holding m k cl - 1)))).1 k d
      go false y z q i j ok =
          let w = some_of (holding m k cl) q in
          let o = (c.sound.mutators k l).holds cl (holding m k cl - 1) is_class_lem (omega arith) in
          let u = o.1 in
          none_shared (holding m k cl - 1) o.0 (omega arith) (omega arith) o.2
      go true false z q i j ok =
          let stack = c.summed.part_segments cl is_class_lem in
          let u = part_tag g m cl stack (some_of _ i) in
          none_shared (top g m (part_stack cl)) (top_part g m cl stack (some_of _ i)).0 (omega arith) (omega arith) (part_class g m cl stack (some_of _ i))
      go true true false q i j ok =
          from_taken _ _ (free_tag g m c.summed.free_segments (some_of _ j)) (taken_free g m s order k cl l a is_class_lem (eqb-true _ _ q) (some_of _ j))
      go true true true q i j ok = refused.result a_ok 10 refl (sym ok)

-- ---- the call

make_full : (g : Geometry) (m : Mem) → Sizes g m → Consistent g m → (k d p n cl : ℕ) → class_of_record (of_counts p n) ≡ Some cl → blocks_in g cl ≡ 1
    → (exec g m (c_make k d p n)).0 ≡ a_ok → FullAtOnce g m (exec g m (c_make k d p n)).1 k d
unfolding exec act made
make_full g m s c k d p n cl w one ok = go (refusal (observe m) (c_make k d p n)) refl ok
  where
    classed : refusal (observe m) (c_make k d p n) ≡ 0 → (o : SizeClass) → o ≡ Some cl
        → (of_class m o (λ x. from_source g m k d x (of_counts p n) (source_of g m k x))).0 ≡ a_ok
        → FullAtOnce g m (of_class m o (λ x. from_source g m k d x (of_counts p n) (source_of g m k x))).1 k d
    classed z (Some x) q ok =
        let y = by_ok (observe m) k _ z in
        let r = root_ok d _ y.3 in
        let same : x ≡ cl = cc in
        by_source g m s c k d x p n y.0 y.1 r.0 (w ∙ sym q) (ap (blocks_in g) same ∙ one) ok
    classed z None q ok = refused.result a_ok 9 refl (sym ok)

    go : (x : ℕ) → refusal (observe m) (c_make k d p n) ≡ x
        → (refuse x m (of_class m (class_of_record (of_counts p n)) (λ y. from_source g m k d y (of_counts p n) (source_of g m k y)))).0 ≡ a_ok
        → FullAtOnce g m (refuse x m (of_class m (class_of_record (of_counts p n)) (λ y. from_source g m k d y (of_counts p n) (source_of g m k y)))).1 k d
    go zero z ok = classed z (class_of_record (of_counts p n)) w ok
    go (suc x) z ok = refused.result a_ok (suc x) refl (sym ok)

pub every_full_at_once : EveryFullAtOnce
every_full_at_once g words after k d p n cl a w one =
    let q = a.meets.exact a.sized a.consistent in
    let z = sizes_of g words (sized g (length words) a.sized) in
    subst (λ x. FullAtOnce g (mem_of g words) x k d) (sym q.1) (make_full g (mem_of g words) z a.consistent k d p n cl w one (sym q.0))
