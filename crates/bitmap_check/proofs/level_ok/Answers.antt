-- `bitmap_check::level_ok` meets its contract.
use Rattle.bitmap_check.proofs.Examine.{level_decided}
use Rattle.bitmap_check.proofs.level_ok.Goals as goal

pub returns-else-bit-eq0 : goal.returns-else-bit-eq0
returns-else-bit-eq0 c = rw c.clear_from.ensures (level_decided c.args.s.now c.args.n c.requires c.if-bit-eq0.false)
