-- `sheet_line::put_bar` meets its contract.
use native.Mathlib.Omega.{arith}
use lib.ListN.{length-replicate}
use Rattle.model.specs.Sheet.{bar}
use Rattle.sheet_line.proofs.Writers.{behind}
use Rattle.sheet_line.proofs.put_bar.Goals as goal

pub returns : goal.returns
unfolding bar
returns c =
    let dots = c.fill.ensures in
    let hashes = c.fill-next.ensures in
    (omega arith, behind _ _ _ _ _ _ _ _ (length-replicate _ _) (omega arith) hashes.1 hashes.0 dots.1)
