-- `bitmap_write::gathered_word` meets its contract. The loop's invariant: the word of the bits passed, and how many there are.
use mathlib.Core.Path.{◌≡◌}
use Prim.Native.Nat.{◌+◌, ◌-◌, ◌*◌}
use lib.ListN.{drop}
use Rattle.bitmap_write.proofs.Gathered.{sofar, IsCount}
use Rattle.bitmap_write.proofs.gathered_word.Given as goal

abbrev pub invariant-loop-i : goal.invariant-loop-i
invariant-loop-i l = (l.w ≡ sofar (drop l.from l.s) l.step (l.j * 32) (l.j * 32 + l.i)) × IsCount l.n l.j l.count

abbrev pub decreases-loop-i : goal.decreases-loop-i
decreases-loop-i l = l.count - l.i
