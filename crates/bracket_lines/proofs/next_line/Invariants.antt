-- `bracket_lines::next_line` meets its contract. The loop's invariant: the bytes so far have told nothing, and led to the
-- present count and buffer.
use Rattle.bracket_lines.proofs.Scanning.{Scanning}
use Rattle.bracket_lines.proofs.next_line.Given as goal

abbrev pub invariant-loop-at : goal.invariant-loop-at
invariant-loop-at l = Scanning l.chunk l.from l.count l.initial.line l.at l.n l.line
