-- `storing::store_at` meets its contract.
use Rattle.storing.proofs.Storage.{stores_ok, stores_13}
use Rattle.storing.proofs.store_at.Goals as goal

pub returns-then-barrier : goal.returns-then-barrier
returns-then-barrier c =
    stores_ok _ _ _ _ _ _ _ _ _ _ _ c.phase-phase.ensures c.acks.ensures c.duty-duty.ensures c.field-old.ensures c.barrier.ensures
    _ c.if-barrier.true c.set_field.ensures

pub returns : goal.returns
returns c =
    stores_13 _ _ _ _ _ _ _ _ _ _ _ c.phase-phase.ensures c.acks.ensures c.duty-duty.ensures c.field-old.ensures c.barrier.ensures c.if-barrier.false
