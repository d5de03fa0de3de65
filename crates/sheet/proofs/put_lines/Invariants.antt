-- `sheet::put_lines` meets its contract. The loop's invariant: the lines passed stand at the front of the output.
use Prim.Native.Nat.{◌-◌}
use Rattle.layout.specs.Mem.{mem_of}
use Rattle.sheet.specs.Counted.{counted_line}
use Rattle.sheet.proofs.Printing.{Printed}
use Rattle.sheet.proofs.put_lines.Given as goal

abbrev pub invariant-loop-s : goal.invariant-loop-s
invariant-loop-s l = Printed l.n (counted_line l.g (mem_of l.g l.mem)) l.initial.out l.out l.at l.s
