-- `sheet_line::put_two` meets its contract.
use mathlib.Core.Path.{refl}
use mathlib.Core.List.{◌∷◌, []}
use Rattle.sheet_line.proofs.Writers.{part_placed}
use Rattle.sheet_line.proofs.put_two.Goals as goal

pub returns : goal.returns
returns c = (refl, part_placed _ c.args.at 2 (c.args.a ∷ c.args.b ∷ []) _ refl c.requires c.copy_from_slice.ensures.after)
