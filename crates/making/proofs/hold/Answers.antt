-- `making::hold` meets its contract.
use native.Mathlib.Numerals.{add-one}
use mathlib.Core.Path.{refl, ◌∙◌}
use Rattle.making.proofs.hold.Goals as goal

pub returns : goal.returns
returns c =
    c.set_holding.ensures ∙ rw (c.write.ensures, add-one c.args.s) refl
