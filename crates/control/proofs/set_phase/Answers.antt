-- `control::set_phase` meets its contract.
use Rattle.control.proofs.Numbers.{phase_set}
use Rattle.control.proofs.set_phase.Goals as goal

pub returns : goal.returns
returns c =
    phase_set _ _ c.requires.1 _ c.set_control.ensures
