-- `records::clear_few` meets its contract.
use Rattle.records.proofs.Cleared.{cleared_eight, cleared_sixteen}
use Rattle.records.proofs.clear_few.Goals as goal

pub returns-then-n-le8 : goal.returns-then-n-le8
returns-then-n-le8 c =
    cleared_eight _ _ _ c.if-n-lt4.false c.if-n-le8.true _ _ c.clear_four.ensures c.clear_four-then-n-le8.ensures

pub returns-else-n-le8 : goal.returns-else-n-le8
returns-else-n-le8 c =
    cleared_sixteen _ _ _ c.if-n-le8.false c.requires.2 _ _ _ _ c.clear_four-else-n-le8.ensures c.clear_four-else-n-le8-2.ensures c.clear_four-else-n-le8-3.ensures c.clear_four-else-n-le8-4.ensures
