-- `segments::write_as` meets its contract.
use Rattle.segments.proofs.write_as.Goals as goal

pub returns : goal.returns
returns c =
    rw (← c.set_segment.ensures, ← c.set_segment-2.ensures, ← c.set_segment-3.ensures) c.set_segment-4.ensures
