-- `layout::clear` meets its contract.
use mathlib.Core.Path.{◌∙◌, ap}
use native.Mathlib.Omega.{arith}
use Rattle.layout.specs.Geometry.{lens, from}
use Rattle.layout.proofs.Cut.{ends, next}
use Rattle.layout.proofs.Regions.{cleared_at}
use Rattle.layout.proofs.clear.Goals as goal

pub returns : goal.returns
returns g c =
    let G = c.args.g in
    let k = g.P.Part.region in
    let b = c.begins-2.ensures ∙ ap (from G) c.requires.1 ∙ next (lens G) k in
    cleared_at G c.args.mem.now k c.begins.result c.begins-2.result _ (c.fill.ensures.after (λ y e. e)) (omega arith, omega arith, g.met.P.Part.is_one)
    c.requires.0.is (ends (lens G) k)
