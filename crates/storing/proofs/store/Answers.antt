-- `storing::store` meets its contract.
use mathlib.Core.Path.{refl, sym, ◌∙◌}
use Rattle.std.proofs.lemmas.Result.{err_from_is_err_and}
use Rattle.layout.proofs.Regions.{sized}
use Rattle.theory.specs.Calls.{c_store}
use Rattle.model_laws.proofs.Promised.{fits}
use Rattle.mutators.proofs.Inside.{in_range}
use Rattle.records.proofs.Found.{pointer_found}
use Rattle.records.proofs.Reaching.{names, held_7, pointer_refused}
use Rattle.storing.proofs.Storage.{store_refused, store_reaches, store_by}
use Rattle.storing.proofs.store.Goals as goal

pub require_roots-requires : goal.require_roots-requires
require_roots-requires c = sized _ _ (fits c.in_ok-require_size.ensures)

pub returns-in_err-require_roots : goal.returns-in_err-require_roots
returns-in_err-require_roots c =
    let p = err_from_is_err_and c.from_residual-in_err-require_roots.result c.from_residual-in_err-require_roots.ensures.1 in
    rw (p.1, p.2) (store_refused _ _ _ _ _ _ _ (fits c.in_ok-require_size.ensures) c.in_err-require_roots.ensures _ refl)

pub root-requires : goal.root-requires
root-requires c =
    let a = c.args in
    let p = in_range _ _ _ a.root a.from _ c.in_ok-require_roots.ensures refl in
    (sized _ _ (fits c.in_ok-require_size.ensures), p.0, p.1)

pub returns-in_default : goal.returns-in_default
returns-in_default c =
    held_7 (c_store _ _ _ _) _ _ _ _ _
    (store_reaches _ _ _ _ _ _ _ (fits c.in_ok-require_size.ensures) c.in_ok-require_roots.ensures refl)
    _ c.root.ensures (sym c.in_default.is ∙ c.held_of-slot.ensures)

pub pointer_at-requires : goal.pointer_at-requires
pointer_at-requires c =
    sized _ _ (fits c.in_ok-require_size.ensures)

pub root-new-requires : goal.root-new-requires
root-new-requires c =
    let a = c.args in
    let p = in_range _ _ _ a.root a.from _ c.in_ok-require_roots.ensures refl in
    (sized _ _ (fits c.in_ok-require_size.ensures), p.0, p.2)

pub store_at-requires : goal.store_at-requires
store_at-requires c =
    let a = c.args in
    let p = in_range _ _ _ a.root a.from _ c.in_ok-require_roots.ensures refl in
    let t = pointer_found _ _ _ _ _ (c.in_ok-word.ensures) in
    (sized _ _ (fits c.in_ok-require_size.ensures), p.0, t.within)

pub returns-in_err-word : goal.returns-in_err-word
returns-in_err-word c =
    let p = err_from_is_err_and c.from_residual-in_err-word.result c.from_residual-in_err-word.ensures.1 in
    rw (p.1, p.2) (
    pointer_refused (c_store _ _ _ _) _ _ _ _ _ _
    (names _ _ _ _ _ _ c.root.ensures (sym c.in-Record.is ∙ c.held_of-slot.ensures))
    (store_reaches _ _ _ _ _ _ _ (fits c.in_ok-require_size.ensures) c.in_ok-require_roots.ensures refl)
    _ (c.in_err-word.ensures)
    )

pub returns : goal.returns
returns c =
    let a = c.args in
    let p = in_range _ _ _ a.root a.from _ c.in_ok-require_roots.ensures refl in
    store_by _ _ _ _ _ _ _
    (store_reaches _ _ _ _ _ _ _ (fits c.in_ok-require_size.ensures) c.in_ok-require_roots.ensures refl)
    (names _ _ _ _ _ _ c.root.ensures (sym c.in-Record.is ∙ c.held_of-slot.ensures))
    p.2 _ _ _ _ (c.in_ok-word.ensures) c.root-new.ensures c.store_at.ensures
