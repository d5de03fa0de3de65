-- `stacks::empty` meets its contract.
use Rattle.stacks.proofs.Stacking.{emptied_at}
use Rattle.stacks.proofs.empty.Goals as goal

pub returns : goal.returns
returns c =
    emptied_at _ _ _ _ c.base-at.ensures _ c.set_stack.ensures
