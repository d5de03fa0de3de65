-- `words::bit_at` meets its contract.
use Rattle.words.specs.Bits.{bit_at}
use Rattle.words.proofs.bit_at.Goals as goal

pub returns : goal.returns
unfolding bit_at
returns c = c.bit_of.ensures
