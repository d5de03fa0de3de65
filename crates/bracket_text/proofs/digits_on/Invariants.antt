-- `bracket_text::digits_on` meets its contract. The loop's invariant: reading on from the present place with the present value
-- gives what reading from the first place gives.
use mathlib.Core.Path.{◌≡◌}
use lib.ListN.{drop}
use Rattle.bracket_text.specs.Scan.{digits_on}
use Rattle.bracket_text.proofs.digits_on.Given as goal

abbrev pub invariant-loop-at : goal.invariant-loop-at
invariant-loop-at l = digits_on l.first (drop l.from l.line) ≡ digits_on l.value (drop l.at l.line)
