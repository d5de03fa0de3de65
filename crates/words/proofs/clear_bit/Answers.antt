-- `words::clear_bit` meets its contract.
use mathlib.Core.Path.{ap}
use Prim.Native.Nat.{ℕ, ◌/◌}
use lib.ListN.{set}
use Rattle.words.specs.Bits.{clear_bit}
use Rattle.words.proofs.clear_bit.Goals as goal

pub returns : goal.returns
unfolding clear_bit
returns c = ap (λ (w : ℕ). set c.args.s.now (c.args.k / 32) w) c.without_bit-w.ensures
