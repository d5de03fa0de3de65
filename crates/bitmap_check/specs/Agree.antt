-- One summary bit against its word. Document 01: "A bit above level 0 is 1 exactly when its word below is all ones."
use Rattle.std.specs.Prelude.{◌≡◌, List, ℕ, get_or, drop}
use Rattle.words.specs.Bits.{bit_at}
use Rattle.words.specs.Tree.{all_ones}

-- bit j of the level behind the first m words is 1 exactly when word j is all ones
pub record SummaryAgrees (ws : List ℕ) (m j : ℕ) : Type 0 where
  pub full : get_or ws j 0 ≡ all_ones → bit_at (drop m ws) j ≡ 1
  pub only : bit_at (drop m ws) j ≡ 1 → get_or ws j 0 ≡ all_ones
