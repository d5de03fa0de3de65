-- `opening::stack_down` meets its contract. The loop's invariant: what is left to do comes to the whole.
use mathlib.Core.Path.{◌≡◌}
use Prim.Native.Nat.{◌+◌, ◌-◌}
use Rattle.layout.specs.Mem.{mem_of}
use Rattle.opening.specs.Stacking.{stacked_down}
use Rattle.opening.proofs.stack_down.Given as goal

abbrev pub invariant-loop-i : goal.invariant-loop-i
invariant-loop-i l = stacked_down (mem_of l.g l.mem) (l.at + l.i) (l.n - l.i) ≡ stacked_down (mem_of l.g l.initial.mem) l.at l.n
