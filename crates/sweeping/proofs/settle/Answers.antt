-- `sweeping::settle` meets its contract.
use Rattle.layout.proofs.Regions.{resized}
use Rattle.sweeping.proofs.Settling.{stack_few, settled_full, settled_on}
use Rattle.sweeping.proofs.settle.Goals as goal

pub returns-then-kept-blocks_in : goal.returns-then-kept-blocks_in
returns-then-kept-blocks_in c =
    settled_full _ _ _ _ _ _ c.state_after-state.ensures _ c.write.ensures _ c.blocks_in.ensures c.if-kept-blocks_in.true

pub push-requires : goal.push-requires
push-requires c =
    (resized _ _ _ c.requires.sized.0 c.write.auto.mem, stack_few _ _ _ c.requires.class c.stack_after.ensures, c.requires.sized.1)

pub returns : goal.returns
returns c =
    settled_on _ _ _ _ _ _ c.state_after-state.ensures _ c.write.ensures _ c.blocks_in.ensures
    c.if-kept-blocks_in.false _ c.stack_after.ensures _ _ c.push.ensures
