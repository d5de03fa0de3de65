-- `examine_marks::marks` meets its contract. The loop's invariant: the bits of the words passed are fine.
use Prim.Native.Nat.{ℕ, ◌+◌, ◌*◌, ◌≤◌, ◌<◌}
use Rattle.layout.specs.Mem.{mem_of}
use Rattle.examine_marks.specs.Heads.{BitFine}
use Rattle.examine_marks.proofs.marks.Given as goal

abbrev pub invariant-loop-q : goal.invariant-loop-q
invariant-loop-q l = (l.q ≤ l.words) × ((p : ℕ) → p < l.q → (i : ℕ) → i < 32 → BitFine l.condemned_only l.g (mem_of l.g l.mem) (p * 32 + i))
