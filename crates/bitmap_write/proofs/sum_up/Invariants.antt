-- `bitmap_write::sum_up` meets its contract.
use mathlib.Core.Path.{◌≡◌}
use lib.Seq.{paste}
use Rattle.words.specs.Levels.{words_for}
use Rattle.bitmap_write.specs.Rebuild.{packed, full_bit}
use Rattle.bitmap_write.proofs.sum_up.Given as goal

abbrev pub invariant-loop-j : goal.invariant-loop-j
invariant-loop-j l = l.s ≡ paste l.initial.s l.m (packed (full_bit l.initial.s l.m) (words_for l.m) 0) l.j
