-- `layout::write` meets its contract.
use native.Mathlib.Omega.{arith}
use Rattle.layout.proofs.Regions.{set_at}
use Rattle.layout.proofs.write.Goals as goal

pub returns : goal.returns
returns g c = set_at c.args.g c.args.mem.now g.P.Part.region c.args.i _ c.args.v (omega arith, c.requires.1)
