-- The release of what a mutator holds, and what can hinder it, over memory of any content.
use Rattle.std.specs.Prelude.{◌≡◌, Bool, true, false, ◌⊎◌, ℕ, suc, ◌+◌, ◌≤◌, ◌<◌}
use Rattle.classes.specs.Class.{first_class, class_count}
use Rattle.layout.specs.declared.Geometry.{Geometry}
use Rattle.layout.specs.Mem.{Mem}
use Rattle.model.specs.declared.SegmentState.TheVariants.{Part}
use Rattle.model.specs.Fields.{holding, place}
use Rattle.model.specs.Segments.{set_segment_state, part_stack, count}
use Rattle.model.specs.Mutators.{released_one, released}

-- the entry of mutator k names for class c a segment that is none, or the part stack has no room for it
pub record ReleaseFails (g : Geometry) (m : Mem) (k c : ℕ) : Type 0 where
  pub segment : ℕ
  pub names : holding m k c ≡ suc segment
  pub why : (g.segments ≤ segment) ⊎ (g.segments ≤ count g (set_segment_state g m segment (Part c (place m segment))) (part_stack c))

-- what the release of class c answers: true and the memory with it, or false where it is hindered
pub record ReleasesOne (g : Geometry) (m : Mem) (k c : ℕ) (r : Bool) (after : Mem) : Type 0 where
  pub done : r ≡ true → after ≡ released_one g m k c
  pub fails : r ≡ false → ReleaseFails g m k c

-- the release of one class is hindered, after those before it
pub record ClassFails (g : Geometry) (m : Mem) (k : ℕ) : Type 0 where
  pub index : ℕ
  pub within : index < class_count
  pub why : ReleaseFails g (released g m k index) k (first_class + index)

pub record Releases (g : Geometry) (m : Mem) (k : ℕ) (r : Bool) (after : Mem) : Type 0 where
  pub done : r ≡ true → after ≡ released g m k class_count
  pub fails : r ≡ false → ClassFails g m k
