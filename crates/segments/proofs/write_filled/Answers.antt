-- `segments::write_filled` meets its contract.
use Rattle.segments.proofs.write_filled.Goals as goal

pub returns : goal.returns
returns c = rw (← c.blocks_in.ensures) c.write_as.ensures
