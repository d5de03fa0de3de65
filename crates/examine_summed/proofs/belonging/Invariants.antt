-- `examine_summed::belonging` meets its contract. The loop's invariant: the segments passed that belong on the stack are counted.
use mathlib.Core.Path.{◌≡◌}
use Rattle.basics.specs.Pick.{one_if}
use Rattle.words.specs.Bits.{ones_among}
use Rattle.layout.specs.Mem.{mem_of}
use Rattle.examine_summed.specs.Stacked.{on_stack}
use Rattle.examine_summed.proofs.belonging.Given as goal

abbrev pub invariant-loop-s : goal.invariant-loop-s
invariant-loop-s l = l.k ≡ ones_among (λ i. one_if (on_stack (mem_of l.g l.mem) l.t i)) l.s
