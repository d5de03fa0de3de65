-- `examine_summed::enter_all` meets its contract. The loop's invariant: the entries passed are in the table, and no other segment.
use Prim.Native.Nat.{◌≤◌}
use Rattle.layout.specs.Mem.{mem_of}
use Rattle.examine_summed.specs.Stacked.{Seen}
use Rattle.examine_summed.proofs.enter_all.Given as goal

abbrev pub invariant-loop-i : goal.invariant-loop-i
invariant-loop-i l = (l.i ≤ l.n) × Seen l.g (mem_of l.g l.mem) l.t l.i l.seen
