-- The free stack as it is filled: n - 1 down to 0, from a word on.
use Rattle.std.specs.Prelude.{ℕ}
use Rattle.std.proofs.lemmas.List.Edits.{sets}
use Rattle.layout.specs.Mem.{Mem, with_region}
use Rattle.model.specs.Opening.{down_to0}
use Rattle.layout.specs.Region as Region

unfoldable pub stacked_down : Mem → ℕ → ℕ → Mem
stacked_down m at n = with_region m Region.stacks (sets m.stacks at (down_to0 n))
