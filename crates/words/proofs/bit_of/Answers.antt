-- `words::bit_of` meets its contract.
use mathlib.Core.Path.{refl}
use Rattle.words.specs.Bits.{bit_of}
use Rattle.words.proofs.bit_of.Goals as goal

pub returns : goal.returns
unfolding bit_of
returns c = refl
