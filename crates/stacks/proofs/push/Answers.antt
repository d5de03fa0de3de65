-- `stacks::push` meets its contract.
use Rattle.stacks.proofs.Stacking.{push_full, push_done}
use Rattle.stacks.proofs.push.Goals as goal

pub returns-then-g-count : goal.returns-then-g-count
returns-then-g-count c = push_full _ _ _ _ _ c.base-at.ensures c.stack-count.ensures _ c.if-g-count.true

pub returns : goal.returns
returns c =
    push_done _ _ _ _ _ c.base-at.ensures c.stack-count.ensures _ _ _ c.set_stack.ensures c.set_stack-2.ensures
