-- `sheet_line::put_aligned` meets its contract.
use native.Mathlib.Omega.{arith}
use lib.ListN.{length-replicate}
use Rattle.model.specs.Sheet.{aligned}
use Rattle.sheet_line.proofs.Writers.{behind}
use Rattle.sheet_line.proofs.put_aligned.Goals as goal

pub returns : goal.returns
unfolding aligned
returns c =
    let same = c.digit_count-digits.ensures in
    let number = c.put_number.ensures in
    let spaces = c.fill-from.ensures in
    (omega (arith, c.requires.1), (rw (← same) (behind _ _ _ _ _ _ _ _ (length-replicate _ _) (omega arith) spaces.1 spaces.0 number.1)))
