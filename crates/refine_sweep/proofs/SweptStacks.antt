-- The stacks after the sweep of a segment, which was on none: it is put on the free stack, on its class's part stack, or on none.
use mathlib.Core.Path.{◌≡◌, refl}
use mathlib.Core.Bool.{Bool}
use Prim.Native.Nat.{ℕ, ◌<◌}
use native.Mathlib.Omega.{arith}
use borrow.Author.Tests.{eq-eqb}
use Rattle.layout.specs.declared.Geometry.{Geometry}
use Rattle.layout.specs.Mem.{Mem, Sizes}
use Rattle.model.specs.declared.SegmentState.{SegmentState}
use Rattle.model.specs.Fields.{tag, class}
use Rattle.model.specs.Segments.{free_stack, part_stack, stacked}
use Rattle.classes.specs.Class.{IsClass}
use Rattle.model.specs.Consistent.{StackOk, is_free, is_part}
use Rattle.refine_view.specs.Refines.{Ordered}
use Rattle.model_laws.proofs.Stacks.{push_ok}
use Rattle.model_laws.proofs.Parted.{Stacks, parted}
use Rattle.model_laws.proofs.OtherStacks.{stack_by, push_left}
use Rattle.model_laws.proofs.Segments.{not_free, free_other, free_left, part_left}
use Rattle.refine_sweep.proofs.Settled.{Settled, settled_mem, settled_sizes, settled_stacks, settled_state, settled_stacked}
use Rattle.model.specs.declared.SegmentState.TheVariants as segment
use Rattle.model.specs.Tag as Tag

module _ (g : Geometry) (m : Mem) (s : Sizes g m) (c : Ordered g m) (r : ℕ) (l : r < g.segments) (k : IsClass (class m r)) (t : tag m r ≡ Tag.condemned) where
  -- a stack after the segment's state is set, before anything is put on
  kept_stack : (x : SegmentState) (u : ℕ) (p p' : ℕ → Bool) → StackOk g m u p → ((i : ℕ) → p' i ≡ p i) → StackOk g (settled_mem g m s r l k x) u p'
  kept_stack x u p p' o e = stack_by g m (settled_mem g m s r l k x) u p p' (settled_stacks g m s r l k x) o (λ i h. e i)

  -- full: on no stack
  abbrev full_mem : Mem
  full_mem = settled_mem g m s r l k (segment.Full (class m r))

  full_state : Settled g m full_mem r (segment.Full (class m r))
  full_state = settled_state g m s r l k (segment.Full (class m r))

  pub full_stacks : Stacks g full_mem
  full_stacks = (
    kept_stack (segment.Full (class m r)) free_stack (is_free m) (is_free full_mem) c.summed.free_segments
        (free_left m full_mem r full_state.left.other (λ e. omega arith) (λ e. let z = full_state.there.tag in omega arith)),
    λ d h. kept_stack (segment.Full (class m r)) (part_stack d) (is_part m d) (is_part full_mem d) (c.summed.part_segments d h)
        (part_left m full_mem r full_state.left.other d (λ e f. omega arith) (λ e f. let z = full_state.there.tag in omega arith)),
  )

  -- free: on the free stack
  abbrev free_mem : Mem
  free_mem = stacked g (settled_mem g m s r l k segment.Free) free_stack r

  pub free_state : Settled g m free_mem r segment.Free
  free_state = settled_stacked g m (settled_mem g m s r l k segment.Free) r segment.Free free_stack (settled_state g m s r l k segment.Free)

  abbrev unstacked : Mem
  unstacked = settled_mem g m s r l k segment.Free

  before : StackOk g unstacked free_stack (is_free m)
  before = kept_stack segment.Free free_stack (is_free m) (is_free m) c.summed.free_segments (λ i. refl)

  pub free_stacks : Stacks g free_mem
  free_stacks = (
    push_ok g unstacked (settled_sizes g m s r l k segment.Free) free_stack (omega arith) (is_free m) before (is_free free_mem) r l
        (not_free m r (λ e. omega arith)) (eq-eqb _ _ free_state.there.tag)
        (λ i h n. free_other m free_mem r free_state.left.other i n),
    λ d h. push_left g unstacked (settled_sizes g m s r l k segment.Free) free_stack (omega arith) (is_free m) before (is_free free_mem) r l
        (not_free m r (λ e. omega arith)) (eq-eqb _ _ free_state.there.tag)
        (λ i h n. free_other m free_mem r free_state.left.other i n)
        (part_stack d) (λ e. omega arith) (is_part m d) (is_part free_mem d) (kept_stack segment.Free (part_stack d) (is_part m d) (is_part m d) (c.summed.part_segments d h) (λ i. refl))
        (λ i y. part_left m free_mem r free_state.left.other d (λ e f. omega arith) (λ e f. let z = free_state.there.tag in omega arith) i),
  )

  -- part: on its class's part stack
  abbrev part_state : SegmentState
  part_state = segment.Part (class m r) 0

  abbrev part_mem : Mem
  part_mem = stacked g (settled_mem g m s r l k part_state) (part_stack (class m r)) r

  pub part_state_lem : Settled g m part_mem r part_state
  part_state_lem = settled_stacked g m (settled_mem g m s r l k part_state) r part_state (part_stack (class m r)) (settled_state g m s r l k part_state)

  pub part_stacks : Stacks g part_mem
  part_stacks = parted g m (settled_mem g m s r l k part_state) (settled_sizes g m s r l k part_state) (settled_stacks g m s r l k part_state) (class m r) r k l (omega arith)
      part_state_lem.left.other part_state_lem.there.tag part_state_lem.there.class (c.summed.free_segments, c.summed.part_segments)
