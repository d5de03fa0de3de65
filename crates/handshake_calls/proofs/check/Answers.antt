-- `handshake_calls::check` meets its contract.
use mathlib.Core.Path.{refl}
use Rattle.std.proofs.lemmas.Result.{err_from_is_err_and}
use Rattle.layout.proofs.Regions.{sized}
use Rattle.theory.specs.Calls.{c_check}
use Rattle.model_laws.proofs.Promised.{fits, refused}
use Rattle.mutators.specs.Inside.{inside_then}
use Rattle.mutators.proofs.Inside.{then_known}
use Rattle.handshake_calls.proofs.Acknowledging.{checked, hindered}
use Rattle.handshake_calls.proofs.check.Goals as goal

pub require_inside-requires : goal.require_inside-requires
require_inside-requires c = sized _ _ (fits c.in_ok-require_size.ensures)

pub returns-in_err-require_inside : goal.returns-in_err-require_inside
unfolding inside_then
returns-in_err-require_inside c =
    let p = err_from_is_err_and c.from_residual-in_err-require_inside.result c.from_residual-in_err-require_inside.ensures.1 in
    rw (p.1, p.2) (refused (c_check _) _ _ _ (fits c.in_ok-require_size.ensures) c.in_err-require_inside.ensures)

pub acknowledge-requires : goal.acknowledge-requires
acknowledge-requires c = (sized _ _ (fits c.in_ok-require_size.ensures), then_known _ _ 0 0 c.in_ok-require_inside.ensures refl)

pub returns-then-not-acknowledge : goal.returns-then-not-acknowledge
returns-then-not-acknowledge c =
    hindered _ _ _ (fits c.in_ok-require_size.ensures) c.in_ok-require_inside.ensures _ _ c.acknowledge.ensures c.if-not-acknowledge.true (c_check _) _

pub returns : goal.returns
returns c = checked _ _ _ (fits c.in_ok-require_size.ensures) c.in_ok-require_inside.ensures _ _ c.acknowledge.ensures c.if-not-acknowledge.false _ refl
