-- `words::set_bit` meets its contract.
use mathlib.Core.Path.{ap}
use Prim.Native.Nat.{ℕ, ◌/◌}
use lib.ListN.{set}
use Rattle.words.specs.Bits.{set_bit}
use Rattle.words.proofs.set_bit.Goals as goal

pub returns : goal.returns
unfolding set_bit
returns c = ap (λ (w : ℕ). set c.args.s.now (c.args.k / 32) w) c.with_bit-w.ensures
