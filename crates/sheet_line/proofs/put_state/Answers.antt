-- `sheet_line::put_state` meets its contract.
use mathlib.Core.Path.{◌∙◌, ap}
use mathlib.Core.List.{[], ◌∷◌, ◌++◌, append_assoc}
use native.Mathlib.Omega.{arith}
use Rattle.decimals.specs.Placed.{placed}
use Rattle.model.specs.Sheet.{space, aligned, letter_of}
use Rattle.sheet_line.proofs.Columns.{two_fit, column_long}
use Rattle.sheet_line.proofs.Writers.{behind}
use Rattle.sheet_line.proofs.put_state.Goals as goal

pub put_column-next-requires : goal.put_column-next-requires
put_column-next-requires c =
    (omega arith, two_fit c.args.class c.requires.0, omega arith)

pub returns : goal.returns
returns c =
    let a = c.args in
    let x = c.put_column-next.ensures in
    let y = c.put_two.ensures in
    let word = aligned 2 a.class ++ (space ∷ []) in (
      omega arith,
      behind a.out.now a.at 3 word _ _ _ _ (column_long 2 a.class (two_fit a.class c.requires.0)) (omega arith) x.1 (omega arith) y.1
          ∙ ap (λ z. placed a.out.now a.at (word ++ (z ∷ space ∷ []))) c.letter.ensures
          ∙ ap (placed a.out.now a.at) (append_assoc (aligned 2 a.class) (space ∷ []) (letter_of a.tag ∷ space ∷ [])),
    )
