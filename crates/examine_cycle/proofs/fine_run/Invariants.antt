-- `examine_cycle::fine_run` meets its contract.
use Prim.Native.Nat.{◌≤◌}
use Rattle.layout.specs.Mem.{mem_of}
use Rattle.examine_search.specs.Graph.{words_of}
use Rattle.examine_cycle.specs.Judged.{FineRun}
use Rattle.examine_cycle.proofs.fine_run.Given as goal

abbrev pub invariant-loop-f : goal.invariant-loop-f
invariant-loop-f l = (l.f ≤ l.count) × FineRun l.g (mem_of l.g l.mem) l.cover (words_of l.source (mem_of l.g l.mem)) l.from l.f
