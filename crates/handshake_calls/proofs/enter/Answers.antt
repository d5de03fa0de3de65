-- `handshake_calls::enter` meets its contract.
use Rattle.layout.proofs.Regions.{sized}
use Rattle.model_laws.proofs.Promised.{fits}
use Rattle.handshake_calls.proofs.Entering.{enter_2, enter_4, enter_5, enter_ok}
use Rattle.handshake_calls.proofs.enter.Goals as goal

pub returns-then-mutator-ge-MUTATORS : goal.returns-then-mutator-ge-MUTATORS
returns-then-mutator-ge-MUTATORS c = enter_2 _ _ _ (fits c.in_ok-require_size.ensures) c.if-mutator-ge-MUTATORS.true

pub state-state-requires : goal.state-state-requires
state-state-requires c = (sized _ _ (fits c.in_ok-require_size.ensures), c.if-mutator-ge-MUTATORS.false)

pub returns-then-state-eq-ABSENT : goal.returns-then-state-eq-ABSENT
returns-then-state-eq-ABSENT c =
    enter_4 _ _ _ (fits c.in_ok-require_size.ensures) c.if-mutator-ge-MUTATORS.false _ c.state-state.ensures c.if-state-eq-ABSENT.true

pub returns-then-state-eq-INSIDE : goal.returns-then-state-eq-INSIDE
returns-then-state-eq-INSIDE c =
    enter_5 _ _ _ (fits c.in_ok-require_size.ensures) c.if-mutator-ge-MUTATORS.false
    _ c.state-state.ensures c.if-state-eq-ABSENT.false c.if-state-eq-INSIDE.true

pub set_state-requires : goal.set_state-requires
set_state-requires c =
    (sized _ _ (fits c.in_ok-require_size.ensures), c.if-mutator-ge-MUTATORS.false)

pub returns : goal.returns
returns c =
    enter_ok _ _ _ (fits c.in_ok-require_size.ensures) c.if-mutator-ge-MUTATORS.false
    _ c.state-state.ensures c.if-state-eq-ABSENT.false c.if-state-eq-INSIDE.false _
    c.set_state.ensures
