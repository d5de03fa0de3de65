-- `stepping::answer_outside` meets its contract. The loop's invariant: all mutators outside before the next one have given their acknowledgements.
use mathlib.Core.Path.{◌≡◌}
use lib.ListN.{length}
use Rattle.layout.specs.Mem.{mem_of}
use Rattle.stepping.proofs.Answering.{AnsweredTo, still_to_answer}
use Rattle.stepping.proofs.answer_outside.Given as goal

abbrev pub invariant-loop-next : goal.invariant-loop-next
invariant-loop-next l = (length l.mem ≡ length l.initial.mem) × AnsweredTo l.g (mem_of l.g l.initial.mem) l.next (mem_of l.g l.mem)

abbrev pub decreases-loop-next : goal.decreases-loop-next
decreases-loop-next l = still_to_answer l.next
