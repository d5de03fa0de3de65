-- `model::Phase::in_handshake` meets its contract.
use Rattle.model.proofs.Phases.{handshake_second}
use Rattle.model.proofs.Phase.in_handshake.Goals as goal

pub returns-then-p-eq-SYNC1 : goal.returns-then-p-eq-SYNC1
returns-then-p-eq-SYNC1 c = rw c.if-p-eq-SYNC1.true

pub returns : goal.returns
returns c = handshake_second c.args.self.number c.if-p-eq-SYNC1.false
