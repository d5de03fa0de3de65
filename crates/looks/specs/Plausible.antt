-- A segment's record as the look at the states tests it: a state of document 01, "free, part (class, place), held (class, place, script), full
-- (class) or condemned (class)", and a class where it has one.
use Rattle.std.specs.Prelude.{ℕ, ◌≤◌, ◌≡◌}
use Rattle.classes.specs.Class.{IsClass}
use Rattle.layout.specs.Mem.{Mem}
use Rattle.model.specs.Fields.{tag, class}
use Rattle.model.specs.Tag as Tag

pub record Plausible (m : Mem) (s : ℕ) : Type 0 where
  pub tags : tag m s ≤ Tag.condemned
  pub classes : (tag m s ≡ Tag.free → ⊥) → IsClass (class m s)
