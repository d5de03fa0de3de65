-- What the test of a word answers, and what it has found on the way.
use Rattle.std.specs.Prelude.{◌≡◌, ℕ, Option, Some, None}
use Rattle.layout.specs.Geometry.{mark_bit}
use Rattle.classes.specs.Class.{IsClass}
use Rattle.layout.specs.declared.Geometry.{Geometry}
use Rattle.layout.specs.Mem.{Mem}
use Rattle.model.specs.Fields.{tag, class}
use Rattle.model.specs.Consistent.{RecordOk}
use Rattle.model.specs.Tag as Tag

-- segment s is in use and of class c
pub record Classed (m : Mem) (s c : ℕ) : Type 0 where
  pub is : c ≡ class m s
  pub class : IsClass c
  pub used : tag m s ≡ Tag.free → ⊥

-- what the test of a word answers: the bit of a record that passes, or that there is none
abbrev pub Tested : Geometry → Mem → ℕ → Option ℕ → Type 0
Tested g m at (Some k) = RecordOk g m at × (k ≡ mark_bit at)
Tested g m at None = RecordOk g m at → ⊥
