-- All segments that a mutator holds go to part: along the fold, each that its entry names is one of the memory's, and its stack has room. Assumes
-- nothing.
use mathlib.Core.Path.{◌≡◌, refl, sym, ◌∙◌, ap, subst}
use Prim.Native.Nat.{ℕ, zero, suc, ◌+◌, ◌-◌, ◌≤◌, ◌<◌}
use native.Mathlib.Omega.{arith}
use lib.Dec.{eqb}
use Rattle.basics.specs.Pick.{pick}
use Rattle.classes.specs.Class.{first_class, class_count}
use Rattle.layout.specs.declared.Geometry.{Geometry}
use Rattle.layout.specs.Geometry.{mutator_count}
use Rattle.layout.specs.Mem.{Mem, Sizes}
use Rattle.model.specs.declared.SegmentState.TheVariants.{Part}
use Rattle.model.specs.Fields.{holding, place}
use Rattle.model.specs.Segments.{set_segment_state, part_stack, count, stacked}
use Rattle.model.specs.Mutators.{released_one, released}
use Rattle.model.specs.Consistent.{Consistent}
use Rattle.model_laws.proofs.Releasing.{Releasable, Releasing, releasing_none, releasing_skip}
use Rattle.model_laws.proofs.ReleaseOne.{held_before, room_for, releasing_one}

module _ (g : Geometry) (m : Mem) (s : Sizes g m) (c : Releasable g m) (k : ℕ) (few : k < mutator_count) where
  one_more : (n : ℕ) → n < class_count → (m' : Mem) → Releasing g m m' k n → Releasing g m (released_one g m' k (first_class + n)) k (suc n)
  one_more n l m' h = go (holding m k (first_class + n)) refl
    where
      skipped : holding m k (first_class + n) ≡ 0 → released_one g m' k (first_class + n) ≡ m'
      skipped e =
          let z : holding m' k (first_class + n) ≡ 0 = ap (λ w. holding w k (first_class + n)) h.frame ∙ e in
          ap (λ w. pick (eqb w 0) m' (stacked g (set_segment_state g m' (w - 1) (Part (first_class + n) (place m' (w - 1)))) (part_stack (first_class + n)) (w - 1))) z

      go : (x : ℕ) → holding m k (first_class + n) ≡ x → Releasing g m (released_one g m' k (first_class + n)) k (suc n)
      go zero e = subst (λ z. Releasing g m z k (suc n)) (sym (skipped e)) (releasing_skip g m s c k n m' h e)
      go (suc r) e = releasing_one g m s c k few n l m' h r e

  pub releasing : (n : ℕ) → n ≤ class_count → Releasing g m (released g m k n) k n
  unfolding released
  releasing zero l = releasing_none g m s c k
  releasing (suc n) l = one_more n l (released g m k n) (releasing n (omega arith))

  -- ---- the release of one class more: the segment that the entry names, and the stack that it goes on once its record says part

  module _ (n : ℕ) (l : n < class_count) (r : ℕ) (e : holding (released g m k n) k (first_class + n) ≡ suc r) where
    so_far : Releasing g m (released g m k n) k n
    so_far = releasing n (omega arith)

    names : holding m k (first_class + n) ≡ suc r
    names = sym (ap (λ w. holding w k (first_class + n)) so_far.frame) ∙ e

    pub release_inside : r < g.segments
    release_inside = (held_before g m s c k few n l (released g m k n) so_far r names).0

    pub release_room : count g (set_segment_state g (released g m k n) r (Part (first_class + n) (place (released g m k n) r))) (part_stack (first_class + n)) < g.segments
    release_room = room_for g m s c k few n l (released g m k n) so_far r names

-- of a consistent memory
pub releasable : (g : Geometry) (m : Mem) → Consistent g m → Releasable g m
releasable g m c = record { segments = c.sound.segments; mutators = c.sound.mutators; stacks = (c.summed.free_segments, c.summed.part_segments) }
