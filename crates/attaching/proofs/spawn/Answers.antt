-- `attaching::spawn` meets its contract.
use native.Mathlib.Omega.{arith}
use Rattle.std.proofs.lemmas.Result.{err_from_is_err_and}
use Rattle.layout.proofs.Regions.{sized}
use Rattle.model_laws.proofs.Promised.{fits}
use Rattle.attaching.proofs.Coming.{spawn_refused, in_range, spawns}
use Rattle.attaching.proofs.spawn.Goals as goal

pub require_spawn-requires : goal.require_spawn-requires
require_spawn-requires c = sized _ _ (fits c.in_ok-require_size.ensures)

pub returns-in_err-require_spawn : goal.returns-in_err-require_spawn
returns-in_err-require_spawn c =
    let p = err_from_is_err_and c.from_residual-in_err-require_spawn.result c.from_residual-in_err-require_spawn.ensures.1 in
    rw (p.1, p.2) (spawn_refused _ _ _ _ _ (fits c.in_ok-require_size.ensures) _ c.in_err-require_spawn.ensures)

pub root-held-requires : goal.root-held-requires
root-held-requires c =
    let e = fits c.in_ok-require_size.ensures in
    let p = in_range _ _ _ _ _ e c.in_ok-require_spawn.ensures in
    (sized _ _ e, omega arith, omega arith)

pub admit-requires : goal.admit-requires
admit-requires c =
    let e = fits c.in_ok-require_size.ensures in
    (sized _ _ e, (in_range _ _ _ _ _ e c.in_ok-require_spawn.ensures).0)

pub returns : goal.returns
returns c =
    spawns _ _ _ _ _ (fits c.in_ok-require_size.ensures) c.in_ok-require_spawn.ensures _ c.root-held.ensures _ _
    c.admit.ensures
