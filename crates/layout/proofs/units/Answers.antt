-- `layout::units` meets its contract.
use Rattle.layout.proofs.Sizes.{units_are}
use Rattle.layout.proofs.units.Goals as goal

pub returns : goal.returns
returns c = units_are c.args.g c.requires
