-- `words::ones_low` meets its contract.
use lib.Pow.{pow_pos}
use Rattle.words.proofs.Word.{one_shl}
use Rattle.words.proofs.Ones.{ones_low}
use Rattle.words.proofs.ones_low.Goals as goal

pub nonzero_rem-result : goal.nonzero_rem-result
nonzero_rem-result c = rw (one_shl c.args.k c.requires) (pow_pos c.args.k)

pub returns : goal.returns
returns c = rw (one_shl c.args.k c.requires) (ones_low c.args.w c.args.k)
