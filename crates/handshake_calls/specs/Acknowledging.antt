-- An acknowledgement of mutator k, and what can hinder it, over memory of any content.
use Rattle.std.specs.Prelude.{◌≡◌, Bool, true, false, ℕ}
use Rattle.layout.specs.declared.Geometry.{Geometry}
use Rattle.layout.specs.Mem.{Mem}
use Rattle.model.specs.Mutators.{acknowledged}
use Rattle.tracing.specs.Roots.{RootFails}

-- true and the memory with it, or false where the push of a root is hindered
pub record Acknowledges (g : Geometry) (m : Mem) (k : ℕ) (r : Bool) (after : Mem) : Type 0 where
  pub done : r ≡ true → after ≡ acknowledged g m k
  pub fails : r ≡ false → RootFails g m k
