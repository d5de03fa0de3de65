-- `layout::clear_run` meets its contract.
use Prim.Native.Nat.{◌+◌}
use native.Mathlib.Omega.{arith}
use Rattle.layout.specs.Geometry.{lens}
use Rattle.layout.proofs.Cut.{ends}
use Rattle.layout.proofs.Regions.{cleared_part}
use Rattle.layout.proofs.clear_run.Goals as goal

pub returns : goal.returns
returns g c =
    let G = c.args.g in
    let k = g.P.Part.region in
    let a = c.begins.result + c.args.i in
    let h = ends (lens G) k in
    cleared_part G c.args.mem.now k c.args.i c.args.n a (a + c.args.n) _ (c.fill.ensures.after (λ y e. e))
    (omega arith, omega arith, c.requires.1, g.met.P.Part.is_one, (let s = c.requires.0.is in omega arith))
