-- `bitmaps::blocks_of` meets its contract.
use mathlib.Core.Path.{◌≡◌, ap, ◌∙◌}
use Prim.Native.Nat.{◌%◌}
use native.Mathlib.Omega.{arith}
use Rattle.layout.specs.Geometry.{blocks_in}
use Rattle.bitmaps.proofs.blocks_of.Goals as goal

pub returns : goal.returns
returns c =
    let e : c.args.class % 32 ≡ c.args.class = omega arith in
    c.blocks_in.ensures ∙ ap (blocks_in c.args.g) e
