-- `sheet_line::put_free_state` meets its contract.
use Prim.Native.Nat.{ℕ}
use mathlib.Core.Path.{refl, ◌∙◌}
use mathlib.Core.List.{[], ◌∷◌}
use native.Mathlib.Omega.{arith}
use lib.ListN.{length-set}
use Rattle.model.specs.Sheet.{letter_of}
use Rattle.sheet_line.proofs.Writers.{behind, behind_one}
use Rattle.sheet_line.proofs.put_free_state.Goals as goal

pub shape_of-out : goal.shape_of-out
shape_of-out c =
    length-set {A = ℕ} c.put_two-last.new.out c.put_two-last.result 32 ∙ c.put_two-last.auto.out ∙ c.put_two-next.auto.out

pub returns : goal.returns
unfolding letter_of
returns c =
    let a = c.args in
    let x = c.put_two-next.ensures in
    let y = c.put_two-last.ensures in
    let four = behind a.out.now a.at 2 (45 ∷ 45 ∷ []) (32 ∷ 70 ∷ []) _ _ _ refl (omega arith) x.1 x.0 y.1 in
    let same = c.put_two-last.auto.out ∙ c.put_two-next.auto.out in
    (omega arith, behind_one a.out.now a.at 4 (45 ∷ 45 ∷ 32 ∷ 70 ∷ []) 32 _ _ refl (omega arith) same four (omega arith))
