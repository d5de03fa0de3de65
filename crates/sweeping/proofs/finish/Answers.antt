-- `sweeping::finish` meets its contract.
use Rattle.sweeping.proofs.Sweeping.{finished, no_room_lem}
use Rattle.sweeping.proofs.finish.Goals as goal

pub returns-then-settle : goal.returns-then-settle
returns-then-settle c =
    let a = c.args in
    finished _ _ a.s a.class a.used a.kept _ _ c.settle.ensures c.if-settle.true _ c.set_cursor.ensures _ c.saturating_sub.ensures

pub returns : goal.returns
returns c =
    let a = c.args in
    no_room_lem _ _ a.s a.class a.used a.kept _ _ c.settle.ensures c.if-settle.false
