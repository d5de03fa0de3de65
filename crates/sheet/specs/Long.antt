-- How long the sheet of consistent memory is, and where each line of it begins. So what the look promises of its output can be: no definition cuts
-- or pads a line.
use Rattle.std.specs.Prelude.{ℕ, ◌+◌, ◌*◌, ◌/◌, ◌<◌, ◌≡◌, false, List, length, take, drop}
use Rattle.layout.specs.declared.Geometry.{Geometry}
use Rattle.layout.specs.Geometry.{wrong_size, sheet_bytes}
use Rattle.layout.specs.Mem.{mem_of}
use Rattle.model.specs.Consistent.{Consistent}
use Rattle.model.specs.Sheet.{line_of, sheet_of}

module _ (g : Geometry) (mem : List ℕ) where
  pub record SheetLong : Type 0 where
    -- document 02, No. 10: "Each segment is a line of 51 characters"
    pub line : (s : ℕ) → s < g.segments → length (line_of g (mem_of g mem) s) ≡ 51
    -- the sheet has the length that its output must have
    pub sheet : length (sheet_of g (mem_of g mem)) ≡ sheet_bytes g
    -- the line of segment s begins at byte 52 s + s / 60
    pub begins : (s : ℕ) → s < g.segments → take 51 (drop (52 * s + s / 60) (sheet_of g (mem_of g mem))) ≡ line_of g (mem_of g mem) s

-- of all memory that passes the examination
abbrev pub EverySheet : Type 0
EverySheet = (g : Geometry) (mem : List ℕ) → wrong_size g (length mem) ≡ false → Consistent g (mem_of g mem) → SheetLong g mem
