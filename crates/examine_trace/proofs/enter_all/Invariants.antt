-- `examine_trace::enter_all` meets its contract.
use Prim.Native.Nat.{◌≤◌}
use mathlib.Core.Path.{◌≡◌}
use lib.ListN.{length}
use Rattle.layout.specs.Mem.{mem_of}
use Rattle.examine_trace.specs.Traced.{Seen}
use Rattle.examine_trace.proofs.enter_all.Given as goal

abbrev pub invariant-loop-i : goal.invariant-loop-i
invariant-loop-i l = (l.i ≤ l.n) × (length l.scratch ≡ length l.initial.scratch) × Seen l.g (mem_of l.g l.mem) l.i l.scratch
