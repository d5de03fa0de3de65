-- `sheet_line::put_free` meets its contract.
use mathlib.Core.Path.{refl, ◌∙◌, ap}
use native.Mathlib.Omega.{arith}
use Rattle.decimals.specs.Placed.{placed}
use Rattle.model.specs.Sheet.{no_class, aligned, letter_of, bar, ◌beside◌, free_line}
use Rattle.sheet_line.proofs.Columns.{three_fit, column_long, state_long, in_line}
use Rattle.sheet_line.proofs.Writers.{behind_two}
use Rattle.model.specs.Tag as Tag
use Rattle.sheet_line.proofs.put_free.Goals as goal

pub put_column-state-requires : goal.put_column-state-requires
put_column-state-requires c =
    (omega arith, three_fit c.args.number c.requires.0, omega arith)

pub returns : goal.returns
unfolding free_line bar
returns c =
    let a = c.args in
    let x = c.put_column-state.ensures in
    let y = c.put_free_state-figures.ensures in
    let z = c.put_figures.ensures in (
      omega arith,
      behind_two a.out.now a.at 4 5 _ _ _ _ _ _ _ _ (column_long 3 a.number (three_fit a.number c.requires.0)) (state_long no_class (letter_of Tag.free) refl)
          (omega arith) x.1 (omega arith) y.1 (omega arith) z.1
          ∙ ap (placed a.out.now a.at) (in_line (aligned 3 a.number) no_class (letter_of Tag.free) (aligned 4 0 beside aligned 4 0 beside bar 0)),
    )
