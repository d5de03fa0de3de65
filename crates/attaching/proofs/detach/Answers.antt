-- `attaching::detach` meets its contract.
use Rattle.std.proofs.lemmas.Result.{err_from_is_err_and}
use Rattle.layout.proofs.Regions.{sized, resized}
use Rattle.theory.specs.Calls.{c_detach}
use Rattle.model_laws.proofs.Promised.{fits, refused}
use Rattle.mutators.specs.Inside.{inside_then}
use Rattle.attaching.proofs.Going.{known, detach_11, detaches, detach_13}
use Rattle.attaching.proofs.detach.Goals as goal

pub require_inside-requires : goal.require_inside-requires
require_inside-requires c = sized _ _ (fits c.in_ok-require_size.ensures)

pub returns-in_err-require_inside : goal.returns-in_err-require_inside
unfolding inside_then
returns-in_err-require_inside c =
    let p = err_from_is_err_and c.from_residual-in_err-require_inside.result c.from_residual-in_err-require_inside.ensures.1 in
    rw (p.1, p.2) (refused (c_detach _) _ _ _ (fits c.in_ok-require_size.ensures) c.in_err-require_inside.ensures)

pub phase-now-requires : goal.phase-now-requires
phase-now-requires c =
    sized _ _ (fits c.in_ok-require_size.ensures)

pub returns-then-in_handshake : goal.returns-then-in_handshake
returns-then-in_handshake c =
    detach_11 _ _ _ c.in_ok-require_inside.ensures
    (fits c.in_ok-require_size.ensures) _ _ c.phase-now.ensures
    c.in_handshake.ensures c.if-in_handshake.true

pub release-requires : goal.release-requires
release-requires c =
    (sized _ _ (fits c.in_ok-require_size.ensures), known _ _ _ c.in_ok-require_inside.ensures)

pub returns-then-not-release : goal.returns-then-not-release
returns-then-not-release c =
    detach_13 _ _ _ c.in_ok-require_inside.ensures (fits c.in_ok-require_size.ensures) _ _ c.phase-now.ensures
    c.in_handshake.ensures c.if-in_handshake.false _ _ c.release.ensures c.if-not-release.true _

pub write_entry-requires : goal.write_entry-requires
write_entry-requires c =
    (resized _ _ _ (sized _ _ (fits c.in_ok-require_size.ensures)) c.release.auto.mem, known _ _ _ c.in_ok-require_inside.ensures)

pub returns : goal.returns
returns c =
    detaches _ _ _ c.in_ok-require_inside.ensures (fits c.in_ok-require_size.ensures) _ _ c.phase-now.ensures
    c.in_handshake.ensures c.if-in_handshake.false _ _ c.release.ensures c.if-not-release.false _ c.write_entry.ensures
