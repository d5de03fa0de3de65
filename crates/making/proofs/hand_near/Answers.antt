-- `making::hand_near` meets its contract.
use native.Mathlib.Omega.{arith}
use Rattle.layout.specs.Mem.{mem_of}
use Rattle.layout.proofs.Sizes.{most_small}
use Rattle.making.proofs.Placing.{of_class_lem}
use Rattle.making.proofs.HandingOut.{near_at, near_out}
use Rattle.making.proofs.hand_near.Goals as goal

pub overflow_add-block : goal.overflow_add-block
overflow_add-block g c =
    let x = c.args in
    let l = (near_at x.g (mem_of x.g x.mem.now) x.s _ _ _ c.near.ensures c.in-Some.is).0 in
    let n = most_small x.g in
    omega arith

pub returns : goal.returns
returns g c =
    let x = c.args in
    near_out x.g (mem_of x.g x.mem.now) x.mutator x.to x.class x.s (of_class_lem c.args.shape _ c.requires.of_class) x.shape _ c.place-place.ensures _
    (near_at x.g (mem_of x.g x.mem.now) x.s _ _ _ c.near.ensures c.in-Some.is) _ c.handed-since.ensures _ _ _
    c.set_handed.ensures c.set_place.ensures c.fill.ensures
