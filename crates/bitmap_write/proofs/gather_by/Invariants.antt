-- `bitmap_write::gather_by` meets its contract. The loop's invariant: the words before word `j` are gathered.
use mathlib.Core.Path.{◌≡◌}
use lib.ListN.{drop}
use Rattle.bitmap_write.specs.Completed.{copied, gathered}
use Rattle.bitmap_write.proofs.gather_by.Given as goal

abbrev pub invariant-loop-j : goal.invariant-loop-j
invariant-loop-j l = l.s ≡ copied l.j (gathered (drop l.from l.initial.s) l.step l.n) l.initial.s
