-- `segments::write_counts` meets its contract.
use Rattle.segments.proofs.write_counts.Goals as goal

pub returns : goal.returns
returns c =
    rw (← c.set_field.ensures) c.set_handed.ensures
