-- `starting::condemn` meets its contract. The loop's invariant: of the segments before `s` those that a start collects are condemned.
use mathlib.Core.Path.{◌≡◌}
use Rattle.layout.specs.Mem.{mem_of}
use Rattle.model.specs.Collector.{condemned}
use Rattle.starting.proofs.condemn.Given as goal

abbrev pub invariant-loop-s : goal.invariant-loop-s
invariant-loop-s l = mem_of l.g l.mem ≡ condemned (mem_of l.g l.initial.mem) l.s
