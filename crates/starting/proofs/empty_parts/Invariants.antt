-- `starting::empty_parts` meets its contract. The loop's invariant: the part stacks of the classes before the `n`-th are empty.
use mathlib.Core.Path.{◌≡◌}
use Rattle.layout.specs.Mem.{mem_of}
use Rattle.model.specs.Collector.{parts_emptied}
use Rattle.starting.proofs.empty_parts.Given as goal

abbrev pub invariant-loop-n : goal.invariant-loop-n
invariant-loop-n l = mem_of l.g l.mem ≡ parts_emptied l.g (mem_of l.g l.initial.mem) l.n
