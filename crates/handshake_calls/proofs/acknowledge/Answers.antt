-- `handshake_calls::acknowledge` meets its contract.
use Rattle.handshake_calls.proofs.Acknowledging.{none_owed, first_given, second_given}
use Rattle.handshake_calls.proofs.acknowledge.Goals as goal

pub returns-then-number-eq-SYNC2 : goal.returns-then-number-eq-SYNC2
returns-then-number-eq-SYNC2 c =
    second_given _ _ _ _ _ _ c.phase-phase.ensures c.acks.ensures c.owes.ensures
    c.if-owes.true c.if-number-eq-SYNC2.true _ c.set_acks.ensures _ _
    c.push_roots.ensures

pub returns-else-number-eq-SYNC2 : goal.returns-else-number-eq-SYNC2
returns-else-number-eq-SYNC2 c =
    first_given _ _ _ _ _ _ c.phase-phase.ensures c.acks.ensures c.owes.ensures
    c.if-owes.true c.if-number-eq-SYNC2.false _ c.set_acks-then-owes.ensures

pub returns-else-owes : goal.returns-else-owes
returns-else-owes c = none_owed _ _ _ _ _ _ c.phase-phase.ensures c.acks.ensures c.owes.ensures c.if-owes.false
