-- `sheet_line::put_column` meets its contract.
use native.Mathlib.Omega.{arith}
use Rattle.sheet_line.proofs.Columns.{aligned_long}
use Rattle.sheet_line.proofs.Writers.{behind_one}
use Rattle.sheet_line.proofs.put_column.Goals as goal

pub returns : goal.returns
returns c =
    let number = c.put_aligned-next.ensures in
    (omega arith, behind_one _ _ _ _ _ _ _ (aligned_long _ _ c.requires.1) (omega arith) c.put_aligned-next.auto.out number.1 number.0)
