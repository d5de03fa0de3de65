-- `bitmap_write::none_set` meets its contract. The loop's invariant: `any` is the or of the words passed.
use Prim.Native.Nat.{◌-◌}
use lib.ListN.{length}
use Rattle.bitmap_write.proofs.Unset.{Unset}
use Rattle.bitmap_write.proofs.none_set.Given as goal

abbrev pub invariant-loop-w : goal.invariant-loop-w
invariant-loop-w l = Unset l.s l.any l.w-index

abbrev pub decreases-loop-w : goal.decreases-loop-w
decreases-loop-w l = length l.s - l.w-index
