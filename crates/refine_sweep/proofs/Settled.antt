-- The words of a swept segment: its bitmap rebuilt, its counts and its state set, then perhaps put on a stack.
use mathlib.Core.Path.{◌≡◌, refl, sym, ◌∙◌, ap, subst}
use mathlib.Core.List.{List}
use Prim.Native.Nat.{ℕ, ◌<◌}
use native.Mathlib.Omega.{arith}
use Rattle.words.specs.Bits.{bit_at}
use Rattle.words.specs.Tree.{Tree}
use Rattle.layout.specs.Geometry.{blocks_in}
use Rattle.layout.specs.declared.Geometry.{Geometry}
use Rattle.layout.specs.Mem.{Mem, set_segment, set_stack, set_run, Sizes}
use Rattle.model.specs.declared.SegmentState.{SegmentState}
use Rattle.model.specs.Fields.{class}
use Rattle.model.specs.Segments.{set_segment_state, above, bitmap, stacked}
use Rattle.model.specs.Collector.{marked_blocks, rebuilt_by, recounted}
use Rattle.model.specs.Records.{header_of, entered}
use Rattle.classes.specs.Class.{IsClass}
use Rattle.model_laws.proofs.Words.{Recorded, Counted, recorded_as, untouched_same, untouched_then, untouched_as, counted_then, tag_of, class_in, place_in, owner_in, OtherRegions}
use Rattle.model_laws.proofs.Words.{state_others, state_there, state_other, state_counts, counts_there, counts_other}
use Rattle.model_laws.proofs.Bitmaps.{bitmap_by}
use Rattle.model_laws.proofs.Lengths.{sizes_bitmap, sizes_segment, sizes_state}
use Rattle.refine_sweep.proofs.Outcome.{Left}
use Rattle.model_laws.proofs.Rebuilding.{rebuilt_other, rebuilt_bit, rebuilt_tree}

pub record Settled (g : Geometry) (m m' : Mem) (r : ℕ) (x : SegmentState) : Type 0 where
  pub left : Left g m m' r
  pub there : Recorded m' r (tag_of x) (class_in x) (place_in g x) (owner_in x)
  pub counts : Counted m' r (marked_blocks g m r) 0
  pub bits : (b : ℕ) → b < blocks_in g (class m r) → bit_at (bitmap g m' r) b ≡ entered g m (header_of g r (class m r) b)
  pub tree : Tree (above g (class m r)) (blocks_in g (class m r)) (bitmap g m' r)

module _ (g : Geometry) (m : Mem) (s : Sizes g m) (r : ℕ) (l : r < g.segments) (k : IsClass (class m r)) (x : SegmentState) where
  abbrev pub settled_mem : Mem
  settled_mem = set_segment_state g (recounted g m r) r x

  rebuilt_sizes : Sizes g (rebuilt_by g m r)
  rebuilt_sizes = sizes_bitmap g m s _ _

  counted_sizes : Sizes g (recounted g m r)
  counted_sizes = sizes_segment g _ (sizes_segment g _ rebuilt_sizes _ _) _ _

  pub settled_sizes : Sizes g settled_mem
  settled_sizes = sizes_state g (recounted g m r) counted_sizes r x

  others : OtherRegions (recounted g m r) settled_mem
  others = state_others g (recounted g m r) r x

  pub settled_stacks : settled_mem.stacks ≡ m.stacks
  unfolding set_run set_segment
  settled_stacks = others.stacks

  bitmap_left : (y : ℕ) → bitmap g settled_mem y ≡ bitmap g (rebuilt_by g m r) y
  unfolding set_segment
  bitmap_left = bitmap_by g (rebuilt_by g m r) settled_mem others.bitmaps

  counted : Counted (recounted g m r) r (marked_blocks g m r) 0
  counted = counts_there (rebuilt_by g m r) r (marked_blocks g m r) 0 (let z = rebuilt_sizes.segments in omega arith)

  pub settled_state : Settled g m settled_mem r x
  unfolding set_run set_segment
  settled_state = record {
    left = record {
      control = others.control;
      mutators = others.mutators;
      marks = others.marks;
      trace = others.trace;
      heap = others.heap;
      other = λ y d. untouched_then (untouched_then (untouched_same m (rebuilt_by g m r) y refl) (counts_other (rebuilt_by g m r) r (marked_blocks g m r) 0 y d))
          (state_other g (recounted g m r) r x y d);
      bitmaps = λ y d. bitmap_left y ∙ rebuilt_other g m s r l k y d;
    };
    there = state_there g (recounted g m r) r x (let z = counted_sizes.segments in omega arith);
    counts = counted_then counted (state_counts g (recounted g m r) r x r);
    bits = λ b h. ap (λ (z : List ℕ). bit_at z b) (bitmap_left r) ∙ rebuilt_bit g m s r l k b h;
    tree = subst (λ (z : List ℕ). Tree (above g (class m r)) (blocks_in g (class m r)) z) (sym (bitmap_left r)) (rebuilt_tree g m s r l k);
  }

-- and put on a stack
pub settled_stacked : (g : Geometry) (m m' : Mem) (r : ℕ) (x : SegmentState) (t : ℕ) → Settled g m m' r x → Settled g m (stacked g m' t r) r x
unfolding set_stack
settled_stacked g m m' r x t q =
    let o = q.left in
    record {
      left = record { control = o.control; mutators = o.mutators; marks = o.marks; trace = o.trace; heap = o.heap; other = λ y d. untouched_as refl (o.other y d); bitmaps = o.bitmaps };
      there = recorded_as m' _ r _ _ _ _ refl q.there;
      counts = counted_then q.counts (untouched_same m' _ r refl).counts;
      bits = q.bits;
      tree = q.tree;
    }
