-- `bitmap_write::none_set` meets its contract. The loop's invariant: `any` is the or of the words passed.
use Rattle.bitmap_write.proofs.Unset.{unset_none, unset_more, unset_all}
use Rattle.bitmap_write.proofs.none_set.Goals as goal

pub loop-w-init : goal.loop-w-init
loop-w-init c = unset_none _

pub loop-w-preserved : goal.loop-w-preserved
loop-w-preserved c = unset_more _ _ _ c.loop-w.invariant

pub returns : goal.returns
returns c = unset_all _ _ _ c.loop-w.invariant c.loop-w-test.false
