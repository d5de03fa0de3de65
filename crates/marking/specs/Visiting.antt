-- Pushes of a record's pointers, in order, the visit of the last entered record, and what can hinder them, over memory of any content.
use Rattle.std.specs.Prelude.{◌≡◌, Bool, true, false, ◌⊎◌, ℕ, ◌+◌, ◌≤◌, ◌<◌}
use Rattle.layout.specs.declared.Geometry.{Geometry}
use Rattle.layout.specs.Geometry.{len}
use Rattle.layout.specs.Mem.{Mem}
use Rattle.model.specs.declared.Step.{Step}
use Rattle.model.specs.declared.Step.TheVariants.{Traced, Refused}
use Rattle.model.specs.Records.{pointer_count, pointer}
use Rattle.model.specs.Tracing.{push_pointers, popped, traced}
use Rattle.tracing.specs.Pushing.{PushFails}
use Rattle.layout.specs.Region as Region

-- the push of one of n pointers is hindered, after those before it
pub record PointerFails (g : Geometry) (m : Mem) (at n : ℕ) : Type 0 where
  pub index : ℕ
  pub within : index < n
  pub why : PushFails g (push_pointers g m at index) (pointer m at index)

pub record PushesPointers (g : Geometry) (m : Mem) (at n : ℕ) (r : Bool) (after : Mem) : Type 0 where
  pub done : r ≡ true → after ≡ push_pointers g m at n
  pub fails : r ≡ false → PointerFails g m at n

-- Traced and the memory traced, or 13 where a pointer lies off the heap or its push is hindered
pub record Visits (g : Geometry) (m : Mem) (at : ℕ) (r : Step) (after : Mem) : Type 0 where
  pub either : ((r ≡ Traced) × (after ≡ traced g m at))
      ⊎ ((r ≡ Refused 13) × ((len g Region.heap ≤ at + pointer_count m at) ⊎ PointerFails g (popped g m at) at (pointer_count m at)))
