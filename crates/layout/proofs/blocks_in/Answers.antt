-- `layout::blocks_in` meets its contract.
use mathlib.Core.Path.{sym}
use Prim.Native.Nat.{◌^◌, ◌≤◌}
use native.Mathlib.Nat.{div-eq_of_lt, pow-le-pow_right}
use native.Mathlib.Omega.{arith}
use Rattle.layout.specs.Geometry.{segment_bytes}
use Rattle.layout.proofs.Sizes.{bytes_are}
use Rattle.layout.proofs.blocks_in.Goals as goal

pub returns-then-class-ge32 : goal.returns-then-class-ge32
returns-then-class-ge32 c =
    let g = c.args.g in
    let h : 2 ^ 32 ≤ 2 ^ c.args.class = pow-le-pow_right (omega arith) c.if-class-ge32.true in
    let z = bytes_are g in
    let e = z.1 in
    let l = z.3 in
    sym (div-eq_of_lt {n = segment_bytes g} (omega arith))
