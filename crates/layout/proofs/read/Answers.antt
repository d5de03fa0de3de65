-- `layout::read` meets its contract.
use native.Mathlib.Omega.{arith}
use Rattle.layout.proofs.Regions.{get_at}
use Rattle.layout.proofs.read.Goals as goal

pub returns : goal.returns
returns g c = get_at c.args.g c.args.mem.now g.P.Part.region c.args.i _ (omega arith, c.requires.1)
