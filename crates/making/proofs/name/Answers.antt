-- `making::name` meets its contract.
use mathlib.Core.Path.{refl, ◌∙◌}
use native.Mathlib.Numerals.{add-one}
use native.Mathlib.Omega.{arith}
use Rattle.making.proofs.Placing.{name_fits}
use Rattle.making.proofs.name.Goals as goal

pub overflow_cast-at : goal.overflow_cast-at
overflow_cast-at c =
    let l = name_fits c.args.g c.requires.0.few c.args.at c.requires.3 in
    omega arith

pub overflow_add-at : goal.overflow_add-at
overflow_add-at c =
    let l = name_fits c.args.g c.requires.0.few c.args.at c.requires.3 in
    omega arith

pub returns : goal.returns
returns c =
    c.set_root.ensures ∙ rw (c.blacken.ensures, add-one c.args.at) refl
