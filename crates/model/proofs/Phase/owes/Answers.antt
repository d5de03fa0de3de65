-- `model::Phase::owes` meets its contract.
use Rattle.model.proofs.Phases.{owes_first, owes_second, owes_other}
use Rattle.model.proofs.Phase.owes.Goals as goal

pub returns-then-p-eq-SYNC1 : goal.returns-then-p-eq-SYNC1
returns-then-p-eq-SYNC1 c = rw c.if-p-eq-SYNC1.true (owes_first c.args.acks)

pub returns-then-p-eq-SYNC2 : goal.returns-then-p-eq-SYNC2
returns-then-p-eq-SYNC2 c = rw c.if-p-eq-SYNC2.true (owes_second c.args.acks)

pub returns : goal.returns
returns c = owes_other c.args.self.number c.args.acks c.if-p-eq-SYNC1.false c.if-p-eq-SYNC2.false
