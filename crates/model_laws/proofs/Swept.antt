-- The blocks in use of a segment after its sweep: as many as were marked, whatever the memory holds.
use mathlib.Core.Path.{◌≡◌, refl, sym, ◌∙◌, ap}
use mathlib.Core.Bool.{Bool, true, false}
use mathlib.Core.List.{List}
use Prim.Native.Nat.{ℕ, ◌<◌}
use native.Mathlib.Omega.{arith}
use lib.Dec.{eqb, ltb}
use borrow.Author.Tests.{lt-ltb, le-ltb, eqb-true}
use Rattle.basics.specs.Pick.{pick}
use Rattle.words.specs.Bits.{bit_at, ones_among}
use Rattle.words.proofs.Ones.{among_same}
use Rattle.words.proofs.Counts.{only_ones}
use Rattle.classes.specs.Class.{IsClass}
use Rattle.layout.specs.declared.Geometry.{Geometry}
use Rattle.layout.specs.Geometry.{blocks_in}
use Rattle.layout.specs.Mem.{Mem, Sizes, set_control, set_segment, set_stack}
use Rattle.model.specs.declared.SegmentState.{SegmentState}
use Rattle.model.specs.Fields.{class}
use Rattle.model.specs.Segments.{set_segment_state, free_stack, part_stack, stacked, bitmap, in_use}
use Rattle.model.specs.Collector.{marked_blocks, rebuilt_by, recounted, settled_by, swept}
use Rattle.model_laws.proofs.Words.{Recorded, tag_of, class_in, place_in, owner_in, state_there, state_others, recorded_as}
use Rattle.model_laws.proofs.Bitmaps.{bitmap_by}
use Rattle.model_laws.proofs.Rebuilding.{rebuilt_mark}
use Rattle.model_laws.proofs.Lengths.{sizes_bitmap, sizes_segment}
use Rattle.model.specs.declared.SegmentState.TheVariants as segment
use Rattle.model.specs.Tag as Tag

module _ (g : Geometry) (m : Mem) (s : Sizes g m) (r : ℕ) (l : r < g.segments) (k : IsClass (class m r)) where
  abbrev blocks : ℕ
  blocks = blocks_in g (class m r)

  abbrev bit : ℕ → ℕ
  bit = bit_at (bitmap g (rebuilt_by g m r) r)

  -- the segment's state x is set over its rebuilt bitmap and its counts, and perhaps it is put on a stack
  abbrev settled : SegmentState → Mem
  settled x = set_segment_state g (recounted g m r) r x

  counted_sizes : Sizes g (recounted g m r)
  counted_sizes = sizes_segment g _ (sizes_segment g _ (sizes_bitmap g m s _ _) _ _) _ _

  settled_there : (x : SegmentState) → Recorded (settled x) r (tag_of x) (class_in x) (place_in g x) (owner_in x)
  settled_there x = state_there g (recounted g m r) r x (let z = counted_sizes.segments in omega arith)

  bitmaps_as : (recounted g m r).bitmaps ≡ (rebuilt_by g m r).bitmaps
  unfolding set_segment
  bitmaps_as = refl

  in_use-as : (x : SegmentState) (m' : Mem) → m'.segments ≡ (settled x).segments → m'.bitmaps ≡ (settled x).bitmaps
      → in_use g m' r ≡ pick (eqb (tag_of x) Tag.free) 0 (ones_among (λ b. pick (ltb b (place_in g x)) 1 (bit b)) (blocks_in g (class_in x)))
  in_use-as x m' e f =
      let q = recorded_as (settled x) m' r (tag_of x) (class_in x) (place_in g x) (owner_in x) e (settled_there x) in
      let y : bitmap g m' r ≡ bitmap g (rebuilt_by g m r) r = bitmap_by g (rebuilt_by g m r) m' (f ∙ (state_others g (recounted g m r) r x).bitmaps ∙ bitmaps_as) r in
      rw (q.tag, q.class)
      (ap (λ p. pick (eqb (tag_of x) Tag.free) 0 (ones_among (λ b. pick (ltb b p) 1 (bit_at (bitmap g m' r) b)) (blocks_in g (class_in x)))) q.place
      ∙ ap (λ (w : List ℕ). pick (eqb (tag_of x) Tag.free) 0 (ones_among (λ b. pick (ltb b (place_in g x)) 1 (bit_at w b)) (blocks_in g (class_in x)))) y)

  abbrev freed : Mem
  freed = stacked g (settled segment.Free) free_stack r

  abbrev filled : Mem
  filled = settled (segment.Full (class m r))

  abbrev parted : Mem
  parted = stacked g (settled (segment.Part (class m r) 0)) (part_stack (class m r)) r

  freed_use : marked_blocks g m r ≡ 0 → in_use g freed r ≡ marked_blocks g m r
  unfolding set_stack
  freed_use e = in_use-as segment.Free freed refl refl ∙ sym e

  filled_use : marked_blocks g m r ≡ blocks → in_use g filled r ≡ marked_blocks g m r
  filled_use e = in_use-as (segment.Full (class m r)) filled refl refl ∙ only_ones _ blocks (λ b h. rw (lt-ltb b blocks h) refl) ∙ sym e

  parted_use : in_use g parted r ≡ marked_blocks g m r
  unfolding set_stack
  parted_use = in_use-as (segment.Part (class m r) 0) parted refl refl ∙ among_same _ _ blocks (λ b h. rw (le-ltb b 0 (omega arith)) (rebuilt_mark g m s r l k b h))

  settled_use : in_use g (settled_by g m r) r ≡ marked_blocks g m r
  unfolding settled_by
  settled_use = none? (eqb (marked_blocks g m r) 0) refl
    where
      all? : (b : Bool) → eqb (marked_blocks g m r) blocks ≡ b → in_use g (pick b filled parted) r ≡ marked_blocks g m r
      all? true e = filled_use (eqb-true _ _ e)
      all? false e = parted_use

      none? : (b : Bool) → eqb (marked_blocks g m r) 0 ≡ b → in_use g (pick b freed (pick (eqb (marked_blocks g m r) blocks) filled parted)) r ≡ marked_blocks g m r
      none? true e = freed_use (eqb-true _ _ e)
      none? false e = all? (eqb (marked_blocks g m r) blocks) refl

  -- the cursor is no matter of the segment's
  pub swept_use : in_use g (swept g m r) r ≡ marked_blocks g m r
  unfolding swept set_control
  swept_use = settled_use
