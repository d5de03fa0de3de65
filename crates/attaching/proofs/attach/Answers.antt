-- `attaching::attach` meets its contract.
use Rattle.layout.proofs.Regions.{sized}
use Rattle.model_laws.proofs.Promised.{fits}
use Rattle.attaching.proofs.Coming.{attach_2, attach_3, attaches}
use Rattle.attaching.proofs.attach.Goals as goal

pub returns-then-mutator-ge-MUTATORS : goal.returns-then-mutator-ge-MUTATORS
returns-then-mutator-ge-MUTATORS c = attach_2 _ _ _ (fits c.in_ok-require_size.ensures) c.if-mutator-ge-MUTATORS.true

pub state-state-requires : goal.state-state-requires
state-state-requires c = (sized _ _ (fits c.in_ok-require_size.ensures), c.if-mutator-ge-MUTATORS.false)

pub returns-then-state-ne-ABSENT : goal.returns-then-state-ne-ABSENT
returns-then-state-ne-ABSENT c =
    attach_3 _ _ _ (fits c.in_ok-require_size.ensures) c.if-mutator-ge-MUTATORS.false _ c.state-state.ensures c.if-state-ne-ABSENT.true

pub admit-requires : goal.admit-requires
admit-requires c =
    (sized _ _ (fits c.in_ok-require_size.ensures), c.if-mutator-ge-MUTATORS.false)

pub returns : goal.returns
returns c =
    attaches _ _ _ (fits c.in_ok-require_size.ensures) c.if-mutator-ge-MUTATORS.false
    _ c.state-state.ensures c.if-state-ne-ABSENT.false _ _ c.admit.ensures
