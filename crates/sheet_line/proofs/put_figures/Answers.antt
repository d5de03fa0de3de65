-- `sheet_line::put_figures` meets its contract.
use mathlib.Core.Path.{◌∙◌, ap}
use native.Mathlib.Omega.{arith}
use Rattle.decimals.specs.Placed.{placed}
use Rattle.model.specs.Sheet.{aligned, bar}
use Rattle.sheet_line.proofs.Columns.{four_fit, column_long, in_columns}
use Rattle.sheet_line.proofs.Writers.{behind_two}
use Rattle.sheet_line.proofs.put_figures.Goals as goal

pub put_column-next-requires : goal.put_column-next-requires
put_column-next-requires c = let a = c.args in (c.requires.0, four_fit a.used c.requires.0, omega arith)

pub put_column-last-requires : goal.put_column-last-requires
put_column-last-requires c =
    (c.requires.1, four_fit c.args.unused c.requires.1, omega (arith, c.put_column-next.ensures.0))

pub returns : goal.returns
returns c =
    let a = c.args in
    let x = c.put_column-next.ensures in
    let y = c.put_column-last.ensures in
    let z = c.put_bar.ensures in (
      omega arith,
      behind_two a.out.now a.at 5 5 _ _ _ _ _ _ _ _ (column_long 4 a.used (four_fit a.used c.requires.0))
          (column_long 4 a.unused (four_fit a.unused c.requires.1)) (omega arith) x.1 (omega arith) y.1 (omega arith) z.1
          ∙ ap (placed a.out.now a.at) (in_columns (aligned 4 a.used) (aligned 4 a.unused) (bar a.bars)),
    )
