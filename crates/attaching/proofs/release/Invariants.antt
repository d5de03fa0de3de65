-- `attaching::release` meets its contract. The loop's invariant: what the mutator held of the first `i` classes has gone to part.
use mathlib.Core.Path.{◌≡◌}
use Rattle.layout.specs.Mem.{mem_of}
use Rattle.model.specs.Mutators.{released}
use Rattle.attaching.proofs.release.Given as goal

abbrev pub invariant-loop-i : goal.invariant-loop-i
invariant-loop-i l = mem_of l.g l.mem ≡ released l.g (mem_of l.g l.initial.mem) l.mutator l.i
