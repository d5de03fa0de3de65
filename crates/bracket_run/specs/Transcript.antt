-- What the bracket program writes for a whole input.
use Rattle.std.specs.Prelude.{List, ℕ}
use Rattle.bracket_lines.specs.Lines.{told_of}
use Rattle.bracket_steps.specs.Said.{State}
use Rattle.bracket_run.specs.Printed.{Replied}

-- nothing is open, and the lent words have any content
abbrev pub unopened : List ℕ → State
unopened words = record { segments = 0; words = words }

-- "It reads standard input, one bracket form a line .. It prints one form for each": the replies to the lines of the input, in order, the first one
-- before an opening. proofs/Transcript.antt: the loop's calls write it, however the input is cut into pieces, and there is only one
pub record Transcript (words input output : List ℕ) : Type 0 where
  pub end : State
  pub replied : Replied (unopened words) (told_of input) output end
