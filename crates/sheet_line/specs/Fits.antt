-- The numbers of a line fit their columns: document 02, No. 10, "the segment number (3, right-aligned), class (2, right-aligned ..), .. blocks in
-- use and blocks not in use (4 each, right-aligned)".
use Rattle.std.specs.Prelude.{ℕ, ◌≤◌, ◌<◌}

pub record Fits (s c used blocks : ℕ) : Type 0 where
  pub number : s < 1000
  pub class : c < 100
  pub within : used ≤ blocks
  pub some : 1 ≤ blocks
  pub few : blocks < 10000
