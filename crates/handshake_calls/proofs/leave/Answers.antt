-- `handshake_calls::leave` meets its contract.
use mathlib.Core.Path.{refl}
use native.Mathlib.Omega.{arith}
use Rattle.std.proofs.lemmas.Result.{err_from_is_err_and}
use Rattle.layout.proofs.Regions.{sized, resized}
use Rattle.theory.specs.Calls.{c_leave}
use Rattle.model_laws.proofs.Promised.{fits, refused}
use Rattle.mutators.specs.Inside.{inside_then}
use Rattle.mutators.proofs.Inside.{then_known}
use Rattle.handshake_calls.proofs.Acknowledging.{left, hindered}
use Rattle.handshake_calls.proofs.leave.Goals as goal

pub require_inside-requires : goal.require_inside-requires
require_inside-requires c = sized _ _ (fits c.in_ok-require_size.ensures)

pub returns-in_err-require_inside : goal.returns-in_err-require_inside
unfolding inside_then
returns-in_err-require_inside c =
    let p = err_from_is_err_and c.from_residual-in_err-require_inside.result c.from_residual-in_err-require_inside.ensures.1 in
    rw (p.1, p.2) (refused (c_leave _) _ _ _ (fits c.in_ok-require_size.ensures) c.in_err-require_inside.ensures)

pub acknowledge-given-requires : goal.acknowledge-given-requires
acknowledge-given-requires c =
    let l = then_known _ _ 0 0 c.in_ok-require_inside.ensures refl in
    (sized _ _ (fits c.in_ok-require_size.ensures), omega arith)

pub returns-then-not-given : goal.returns-then-not-given
returns-then-not-given c =
    hindered _ _ _ (fits c.in_ok-require_size.ensures) c.in_ok-require_inside.ensures _ _ c.acknowledge-given.ensures c.if-not-given.true (c_leave _) _

pub set_state-requires : goal.set_state-requires
set_state-requires c = (
  resized _ _ _ (sized _ _ (fits c.in_ok-require_size.ensures)) c.acknowledge-given.auto.mem,
  then_known _ _ 0 0 c.in_ok-require_inside.ensures refl,
)

pub returns : goal.returns
returns c = left _ _ _ (fits c.in_ok-require_size.ensures) c.in_ok-require_inside.ensures _ _ c.acknowledge-given.ensures c.if-not-given.false _ c.set_state.ensures
