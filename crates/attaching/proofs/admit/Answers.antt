-- `attaching::admit` meets its contract.
use Rattle.attaching.proofs.Coming.{not_admitted, admitted}
use Rattle.attaching.proofs.admit.Goals as goal

pub returns-then-in_handshake : goal.returns-then-in_handshake
returns-then-in_handshake c = not_admitted _ _ _ _ _ c.phase-phase.ensures c.in_handshake.ensures c.if-in_handshake.true

pub returns : goal.returns
returns c =
    admitted _ _ _ _ _ c.phase-phase.ensures c.in_handshake.ensures c.if-in_handshake.false
    _ c.newcomer-acks.ensures _ c.write_entry.ensures
