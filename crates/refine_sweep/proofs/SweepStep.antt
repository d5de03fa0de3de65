-- The sweep of one segment: what it leaves, by the number of its marks.
use mathlib.Core.Path.{◌≡◌, refl}
use mathlib.Core.Bool.{Bool, true, false}
use Prim.Native.Nat.{ℕ, ◌<◌}
use native.Mathlib.Omega.{arith}
use lib.Dec.{eqb}
use borrow.Author.Tests.{eqb-true, eqb-false}
use Rattle.basics.specs.Pick.{pick}
use Rattle.layout.specs.Geometry.{blocks_in}
use Rattle.layout.specs.declared.Geometry.{Geometry}
use Rattle.layout.specs.Mem.{Mem, Sizes}
use Rattle.model.specs.Fields.{tag, class}
use Rattle.model.specs.Segments.{free_stack, part_stack, stacked}
use Rattle.model.specs.Collector.{marked_blocks, settled_by}
use Rattle.classes.specs.Class.{IsClass}
use Rattle.refine_view.specs.Refines.{Ordered}
use Rattle.refine_sweep.proofs.Settled.{settled_mem, settled_state}
use Rattle.refine_sweep.proofs.SweptStacks.{full_stacks, free_state, free_stacks, part_state_lem, part_stacks}
use Rattle.refine_sweep.proofs.Ends.{free_end, full_end, part_end}
use Rattle.refine_sweep.proofs.Outcome.{Outcome}
use Rattle.model.specs.declared.SegmentState.TheVariants as segment
use Rattle.model.specs.Tag as Tag

module _ (g : Geometry) (m : Mem) (s : Sizes g m) (c : Ordered g m) (r : ℕ) (l : r < g.segments) (t : tag m r ≡ Tag.condemned) where
  classed : IsClass (class m r)
  classed = (c.segments r l).classes (λ z. omega arith)

  abbrev freed : Mem
  freed = stacked g (settled_mem g m s r l classed segment.Free) free_stack r

  abbrev filled : Mem
  filled = settled_mem g m s r l classed (segment.Full (class m r))

  abbrev parted : Mem
  parted = stacked g (settled_mem g m s r l classed (segment.Part (class m r) 0)) (part_stack (class m r)) r

  freed_is : marked_blocks g m r ≡ 0 → Outcome g m freed r
  freed_is e = free_end g m s r l classed freed (free_state g m s c r l classed t) e (free_stacks g m s c r l classed t)

  filled_is : marked_blocks g m r ≡ blocks_in g (class m r) → Outcome g m filled r
  filled_is e = full_end g m s r l classed filled (settled_state g m s r l classed (segment.Full (class m r))) e (full_stacks g m s c r l classed t)

  parted_is : (marked_blocks g m r ≡ 0 → ⊥) → (marked_blocks g m r ≡ blocks_in g (class m r) → ⊥) → Outcome g m parted r
  parted_is n e = part_end g m s r l classed parted (part_state_lem g m s c r l classed t) n e (part_stacks g m s c r l classed t)

  pub settled_outcome : Outcome g m (settled_by g m r) r
  unfolding settled_by
  settled_outcome = none? (eqb (marked_blocks g m r) 0) refl
    where
      all? : (marked_blocks g m r ≡ 0 → ⊥) → (b : Bool) → eqb (marked_blocks g m r) (blocks_in g (class m r)) ≡ b → Outcome g m (pick b filled parted) r
      all? n true e = filled_is (eqb-true _ _ e)
      all? n false e = parted_is n (eqb-false _ _ e)

      none? : (b : Bool) → eqb (marked_blocks g m r) 0 ≡ b → Outcome g m (pick b freed (pick (eqb (marked_blocks g m r) (blocks_in g (class m r))) filled parted)) r
      none? true e = freed_is (eqb-true _ _ e)
      none? false e = all? (eqb-false _ _ e) (eqb (marked_blocks g m r) (blocks_in g (class m r))) refl
