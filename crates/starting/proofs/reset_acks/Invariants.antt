-- `starting::reset_acks` meets its contract. The loop's invariant: the acknowledgements of the mutators before `k` are 0.
use mathlib.Core.Path.{◌≡◌}
use Rattle.layout.specs.Mem.{mem_of}
use Rattle.model.specs.Collector.{acks_reset}
use Rattle.starting.proofs.reset_acks.Given as goal

abbrev pub invariant-loop-k : goal.invariant-loop-k
invariant-loop-k l = mem_of l.g l.mem ≡ acks_reset (mem_of l.g l.initial.mem) l.k
