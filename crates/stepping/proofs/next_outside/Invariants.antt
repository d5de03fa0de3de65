-- `stepping::next_outside` meets its contract. The loop's invariant: no mutator from `from` to `j` is outside.
use Rattle.layout.specs.Mem.{mem_of}
use Rattle.stepping.proofs.Answering.{NoneOutside}
use Rattle.stepping.proofs.next_outside.Given as goal

abbrev pub invariant-loop-j : goal.invariant-loop-j
invariant-loop-j l = NoneOutside (mem_of l.g l.mem) l.from l.j
