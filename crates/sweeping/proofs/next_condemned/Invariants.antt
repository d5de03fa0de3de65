-- `sweeping::next_condemned` meets its contract. The loop's invariant: the segments from `from` to `s` are not condemned.
use Prim.Native.Nat.{◌-◌}
use Rattle.layout.specs.Mem.{mem_of}
use Rattle.sweeping.proofs.Scanned.{Scanned}
use Rattle.sweeping.proofs.next_condemned.Given as goal

abbrev pub invariant-loop-s : goal.invariant-loop-s
invariant-loop-s l = Scanned (mem_of l.g l.mem) l.from l.s

abbrev pub decreases-loop-s : goal.decreases-loop-s
decreases-loop-s l = l.n - l.s
