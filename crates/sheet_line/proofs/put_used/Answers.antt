-- `sheet_line::put_used` meets its contract.
use mathlib.Core.Path.{◌∙◌, ap}
use Prim.Native.Nat.{ℕ, ◌-◌}
use mathlib.Core.List.{List, [], ◌∷◌, ◌++◌}
use native.Mathlib.Omega.{arith}
use Rattle.decimals.specs.Placed.{placed}
use Rattle.model.specs.Sheet.{space, aligned, letter_of, bar, bar_of, ◌beside◌, used_line}
use Rattle.sheet_line.proofs.Columns.{two_fit, three_fit, aligned_long, column_long, state_long, in_line, bar_most}
use Rattle.sheet_line.proofs.Writers.{behind_two}
use Rattle.sheet_line.proofs.put_used.Goals as goal

pub put_column-state-requires : goal.put_column-state-requires
put_column-state-requires c =
    let few = c.requires.0.number in
    (omega arith, three_fit c.args.number few, omega arith)

pub put_figures-requires : goal.put_figures-requires
put_figures-requires c =
    let a = c.args in
    let within = c.requires.0.within in
    (omega arith, omega arith, omega (arith, bar_most a.used a.blocks within, c.hashes-bars.ensures), omega arith)

pub returns : goal.returns
unfolding used_line
returns c =
    let a = c.args in
    let f = c.requires.0 in
    let x = c.put_column-state.ensures in
    let y = c.put_state-figures.ensures in
    let z = c.put_figures.ensures in
    let two = aligned_long 2 a.class (two_fit a.class f.class) in
    let line_with : ℕ → List ℕ = λ n. (aligned 3 a.number ++ (space ∷ []))
    ++ ((aligned 2 a.class beside (letter_of a.tag ∷ []) beside []) ++ (aligned 4 a.used beside aligned 4 (a.blocks - a.used) beside bar n)) in
    let rest = aligned 4 a.used beside aligned 4 (a.blocks - a.used) beside bar (bar_of a.used a.blocks) in (
      omega arith,
      behind_two a.out.now a.at 4 5 _ _ _ _ _ _ _ _ (column_long 3 a.number (three_fit a.number f.number)) (state_long (aligned 2 a.class) (letter_of a.tag) two)
          (omega arith) x.1 (omega arith) y.1 (omega arith) z.1
          ∙ ap (λ n. placed a.out.now a.at (line_with n)) c.hashes-bars.ensures
          ∙ ap (placed a.out.now a.at) (in_line (aligned 3 a.number) (aligned 2 a.class) (letter_of a.tag) rest),
    )
