-- `examine_marks::word_fine` meets its contract. The loop's invariant: the bits passed are fine.
use Prim.Native.Nat.{ℕ, ◌+◌, ◌*◌, ◌≤◌, ◌<◌}
use Rattle.layout.specs.Mem.{mem_of}
use Rattle.examine_marks.specs.Heads.{BitFine}
use Rattle.examine_marks.proofs.word_fine.Given as goal

abbrev pub invariant-loop-i : goal.invariant-loop-i
invariant-loop-i l = (l.i ≤ 32) × ((j : ℕ) → j < l.i → BitFine l.condemned_only l.g (mem_of l.g l.mem) (l.q * 32 + j))
