-- `bitmap_write::half` meets its contract.
use Rattle.bitmap_write.proofs.Pressed.{press_half}
use Rattle.bitmap_write.proofs.half.Goals as goal

pub returns : goal.returns
returns c = press_half c.args.x
