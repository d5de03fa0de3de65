-- `sheet_line::fill` meets its contract.
use mathlib.Core.Path.{refl}
use Rattle.sheet_line.proofs.Writers.{part_filled}
use Rattle.sheet_line.proofs.fill.Goals as goal

pub returns : goal.returns
returns c = (refl, part_filled _ c.args.at c.args.n c.args.b _ c.requires (c.fill.ensures.after (λ y e. e)))
