-- Pushes of a mutator's roots, in order, and what can hinder them, over memory of any content.
use Rattle.std.specs.Prelude.{◌≡◌, Bool, true, false, ℕ, ◌<◌}
use Rattle.layout.specs.declared.Geometry.{Geometry}
use Rattle.layout.specs.Geometry.{root_count}
use Rattle.layout.specs.Mem.{Mem}
use Rattle.model.specs.Fields.{root}
use Rattle.model.specs.Tracing.{push_roots}
use Rattle.tracing.specs.Pushing.{PushFails}

-- the push of one root is hindered, after those before it
pub record RootFails (g : Geometry) (m : Mem) (k : ℕ) : Type 0 where
  pub index : ℕ
  pub within : index < root_count
  pub why : PushFails g (push_roots g m k index) (root m k index)

pub record PushesRoots (g : Geometry) (m : Mem) (k : ℕ) (r : Bool) (after : Mem) : Type 0 where
  pub done : r ≡ true → after ≡ push_roots g m k root_count
  pub fails : r ≡ false → RootFails g m k
