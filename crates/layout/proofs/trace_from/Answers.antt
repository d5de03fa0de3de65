-- `layout::trace_from` meets its contract.
use native.Mathlib.Omega.{arith}
use Rattle.layout.proofs.Sizes.{words_spread, bitmap_spread, mark_spread}
use Rattle.layout.proofs.trace_from.Goals as goal

pub returns : goal.returns
returns c =
    let e0 = words_spread c.args.g c.args.g.segments _ c.units.ensures in
    let e1 = bitmap_spread c.args.g c.args.g.segments _ c.units.ensures in
    let e2 = mark_spread c.args.g c.args.g.segments _ c.units.ensures in
    omega arith
