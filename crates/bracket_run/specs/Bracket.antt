-- What the contracts read of the program between two lines.
use Rattle.bracket_lines.specs.Split.{Splitter}
use Rattle.bracket_steps.specs.Said.{State}
use Rattle.bracket_run.specs.declared.Bracket.{Bracket}

-- the heap's state
abbrev pub state_of : Bracket → State
state_of b = record { segments = b.session.segments; words = b.words }

-- the line that is begun
abbrev pub begun_of : Bracket → Splitter
begun_of b = record { count = b.count; line = b.line }
