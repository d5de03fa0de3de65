-- `bitmap_write::counted_word` meets its contract. The loop's invariant: the word over the words passed.
use mathlib.Core.Path.{◌≡◌}
use Prim.Native.Nat.{◌+◌}
use Rattle.bitmap_write.proofs.Counted.{passed}
use Rattle.bitmap_write.proofs.counted_word.Given as goal

abbrev pub invariant-loop-i : goal.invariant-loop-i
invariant-loop-i l = l.w ≡ passed l.s l.from (l.from + l.i)
