-- `tracing::push_roots` meets its contract. The loop's invariant: the roots before `i` are pushed.
use mathlib.Core.Path.{◌≡◌}
use Rattle.layout.specs.Mem.{mem_of}
use Rattle.model.specs.Tracing.{push_roots}
use Rattle.tracing.proofs.push_roots.Given as goal

abbrev pub invariant-loop-i : goal.invariant-loop-i
invariant-loop-i l = mem_of l.g l.mem ≡ push_roots l.g (mem_of l.g l.initial.mem) l.k l.i
