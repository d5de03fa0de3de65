-- `stacks::pop` meets its contract.
use Rattle.stacks.proofs.Stacking.{pop_none, pop_some}
use Rattle.stacks.proofs.pop.Goals as goal

pub returns-then-count-eq0 : goal.returns-then-count-eq0
returns-then-count-eq0 c = pop_none _ _ _ _ _ c.base-at.ensures c.stack-count.ensures c.if-count-eq0.true

pub returns : goal.returns
returns c =
    pop_some _ _ _ _ _ c.base-at.ensures c.stack-count.ensures _ c.set_stack.ensures
