-- `bitmap_check::agree` meets its contract.
use Rattle.bitmap_check.proofs.Examine.{agree_decided}
use Rattle.bitmap_check.proofs.agree.Goals as goal

pub returns : goal.returns
returns c = agree_decided c.args.s.now c.args.m c.args.j c.bit_of-bit.result c.bit_of-bit.ensures
