-- `examine_search::follow` meets its contract.
use Prim.Native.Nat.{◌-◌}
use Rattle.layout.specs.Mem.{mem_of}
use Rattle.graph_search.proofs.Walking.{run_still}
use Rattle.examine_search.proofs.Steps.{enter_room, bit_room, enter_run}
use native.Mathlib.Omega.{arith}
use Rattle.examine_search.proofs.follow.Goals as goal

pub returns-then-w-eq0 : goal.returns-then-w-eq0
returns-then-w-eq0 c = run_still c.requires.1 (λ x q. absurd (omega (arith, c.if-w-eq0.true)))

pub test-requires : goal.test-requires
test-requires c = c.requires.0.sized

pub enter-requires : goal.enter-requires
enter-requires c =
    let m = mem_of c.args.g c.args.mem.now in
    let t = c.in_ok-k.ensures in
    let small = bit_room c.args.g m c.args.scratch.now c.args.top (c.args.w - 1) _ c.requires.1 t.0 t.1 in
    let room = enter_room c.args.g m c.args.scratch.now c.args.top (c.args.w - 1) _ c.requires.1 t.0 t.1 in
    let z = c.requires.0.sized in
    (z.few, c.requires.0.room, small, room, (z.whole, z.small, z.large))

pub returns-in_err-k : goal.returns-in_err-k
returns-in_err-k c =
    rw c.from_residual.ensures
    (record { node = c.args.w - 1; named = omega (arith, c.if-w-eq0.false); fails = c.in_err-k.ensures })

pub returns : goal.returns
returns c =
    let a = c.args in
    let m = mem_of a.g a.mem.now in
    let t = c.in_ok-k.ensures in
    enter_run a.g m a.scratch.now a.top (a.w - 1) _ c.requires.1 t.0 t.1 c.requires.0.room a.w
    (omega (arith, c.if-w-eq0.false)) c.enter.result c.enter.new.scratch c.enter.ensures
