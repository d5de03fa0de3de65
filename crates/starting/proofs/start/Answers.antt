-- `starting::start` meets its contract.
use Rattle.layout.proofs.Regions.{sized}
use Rattle.model_laws.proofs.Promised.{fits}
use Rattle.starting.proofs.Refusing.{start_11, start_ok}
use Rattle.starting.proofs.start.Goals as goal

pub phase-phase-requires : goal.phase-phase-requires
phase-phase-requires c = sized _ _ (fits c.in_ok-require_size.ensures)

pub returns-then-phase-ne-IDLE : goal.returns-then-phase-ne-IDLE
returns-then-phase-ne-IDLE c =
    start_11 _ _ (fits c.in_ok-require_size.ensures) _ c.phase-phase.ensures c.if-phase-ne-IDLE.true

pub begin-requires : goal.begin-requires
begin-requires c =
    sized _ _ (fits c.in_ok-require_size.ensures)

pub returns : goal.returns
returns c =
    start_ok _ _ (fits c.in_ok-require_size.ensures) _ c.phase-phase.ensures
    c.if-phase-ne-IDLE.false _ c.begin.ensures
