-- `looks::phase` meets its contract.
use Rattle.layout.proofs.Regions.{sized}
use Rattle.model_laws.proofs.Promised.{fits}
use Rattle.looks.proofs.Looking.{phase_13, phase_is}
use Rattle.looks.proofs.phase.Goals as goal

pub phase-phase-requires : goal.phase-phase-requires
phase-phase-requires c = sized _ _ (fits c.in_ok-require_size.ensures)

pub returns-then-number-gt-SWEEP : goal.returns-then-number-gt-SWEEP
returns-then-number-gt-SWEEP c = phase_13 _ _ (fits c.in_ok-require_size.ensures) _ c.phase-phase.ensures c.if-number-gt-SWEEP.true

pub returns : goal.returns
returns c = phase_is _ _ (fits c.in_ok-require_size.ensures) _ c.phase-phase.ensures c.if-number-gt-SWEEP.false
