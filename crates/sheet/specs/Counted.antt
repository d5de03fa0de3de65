-- A segment's record as the sheet tests it, and its line by the words of the record alone: in use is kept and handed out, added up.
use Rattle.std.specs.Prelude.{ℕ, ◌+◌, ◌≤◌, ◌≡◌, List}
use Rattle.layout.specs.declared.Geometry.{Geometry}
use Rattle.layout.specs.Geometry.{blocks_in}
use Rattle.layout.specs.Mem.{Mem}
use Rattle.model.specs.Fields.{tag, class, kept_count, handed_count}
use Rattle.model.specs.Sheet.{line_by}
use Rattle.looks.specs.Plausible.{Plausible}
use Rattle.model.specs.Tag as Tag

pub record Counted (g : Geometry) (m : Mem) (s : ℕ) : Type 0 where
  pub plausible : Plausible m s
  pub counts : (tag m s ≡ Tag.free → ⊥) → kept_count m s + handed_count m s ≤ blocks_in g (class m s)

abbrev pub counted_line : Geometry → Mem → ℕ → List ℕ
counted_line g m s = line_by s (tag m s) (class m s) (kept_count m s + handed_count m s) (blocks_in g (class m s))
