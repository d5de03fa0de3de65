-- `looks::copy` meets its contract. The loop's invariant: the words passed are copied.
use mathlib.Core.Path.{◌≡◌}
use Prim.Native.Nat.{ℕ, ◌<◌}
use lib.ListN.{get_or}
use Rattle.layout.specs.Mem.{mem_of}
use Rattle.looks.proofs.copy.Given as goal

abbrev pub invariant-loop-i : goal.invariant-loop-i
invariant-loop-i l = (k : ℕ) → k < l.i → get_or l.output k 0 ≡ get_or (mem_of l.g l.mem).segments k 0
