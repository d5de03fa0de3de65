-- `marking::push_pointers` meets its contract. The loop's invariant: the pointers before `i` are pushed.
use mathlib.Core.Path.{◌≡◌}
use Rattle.layout.specs.Mem.{mem_of}
use Rattle.model.specs.Tracing.{push_pointers}
use Rattle.marking.proofs.push_pointers.Given as goal

abbrev pub invariant-loop-i : goal.invariant-loop-i
invariant-loop-i l = mem_of l.g l.mem ≡ push_pointers l.g (mem_of l.g l.initial.mem) l.at l.i
