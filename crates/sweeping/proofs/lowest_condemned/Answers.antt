-- `sweeping::lowest_condemned` meets its contract.
use Rattle.sweeping.proofs.Scanned.{scanned_some, scanned_none}
use Rattle.sweeping.proofs.lowest_condemned.Goals as goal

pub returns-then-s-g : goal.returns-then-s-g
returns-then-s-g c = scanned_some _ _ _ _ c.cursor.ensures c.next_condemned-s.ensures c.if-s-g.true

pub returns : goal.returns
returns c = scanned_none _ _ _ _ c.cursor.ensures c.next_condemned-s.ensures c.if-s-g.false
