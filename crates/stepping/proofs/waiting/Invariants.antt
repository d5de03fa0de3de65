-- `stepping::waiting` meets its contract. The loop's invariant: `n` counts the mutators before `i`.
use mathlib.Core.Path.{◌≡◌}
use Rattle.layout.specs.Mem.{mem_of}
use Rattle.model.specs.Collector.{waiting}
use Rattle.stepping.proofs.waiting.Given as goal

abbrev pub invariant-loop-i : goal.invariant-loop-i
invariant-loop-i l = l.n ≡ waiting (mem_of l.g l.mem) l.i
