-- `field_calls::load` meets its contract.
use mathlib.Core.Path.{refl, sym, ◌∙◌}
use Rattle.std.proofs.lemmas.Result.{err_from_is_err_and}
use Rattle.layout.proofs.Regions.{sized}
use Rattle.theory.specs.Calls.{c_load}
use Rattle.model_laws.proofs.Promised.{fits}
use Rattle.mutators.proofs.Inside.{in_range}
use Rattle.records.proofs.Found.{pointer_found}
use Rattle.records.proofs.Reaching.{names, held_7, pointer_refused}
use Rattle.field_calls.proofs.Answering.{load_refused, load_reaches, load_done}
use Rattle.field_calls.proofs.load.Goals as goal

pub require_roots-requires : goal.require_roots-requires
require_roots-requires c = sized _ _ (fits c.in_ok-require_size.ensures)

pub returns-in_err-require_roots : goal.returns-in_err-require_roots
returns-in_err-require_roots c =
    let p = err_from_is_err_and c.from_residual-in_err-require_roots.result c.from_residual-in_err-require_roots.ensures.1 in
    rw (p.1, p.2) (load_refused _ _ _ _ _ _ _ (fits c.in_ok-require_size.ensures) c.in_err-require_roots.ensures _ refl)

pub root-requires : goal.root-requires
root-requires c =
    let p = in_range _ _ _ c.args.to c.args.root _ c.in_ok-require_roots.ensures refl in
    (sized _ _ (fits c.in_ok-require_size.ensures), p.0, p.2)

pub returns-in_default : goal.returns-in_default
returns-in_default c =
    held_7 (c_load _ _ _ _) _ _ _ _ _
    (load_reaches _ _ _ _ _ _ _ (fits c.in_ok-require_size.ensures) c.in_ok-require_roots.ensures refl)
    _
    c.root.ensures
    (sym c.in_default.is ∙ c.held_of-slot.ensures)

pub pointer_at-requires : goal.pointer_at-requires
pointer_at-requires c =
    sized _ _ (fits c.in_ok-require_size.ensures)

pub field-held-requires : goal.field-held-requires
field-held-requires c =
    let t = pointer_found _ _ _ _ _ (c.in_ok-word.ensures) in
    (sized _ _ (fits c.in_ok-require_size.ensures), t.within)

pub set_root-requires : goal.set_root-requires
set_root-requires c =
    let p = in_range _ _ _ c.args.to c.args.root _ c.in_ok-require_roots.ensures refl in
    (sized _ _ (fits c.in_ok-require_size.ensures), p.0, p.1)

pub returns-in_err-word : goal.returns-in_err-word
returns-in_err-word c =
    let p = err_from_is_err_and c.from_residual-in_err-word.result c.from_residual-in_err-word.ensures.1 in
    rw (p.1, p.2) (
    pointer_refused (c_load _ _ _ _) _ _ _ _ _ _
    (names _ _ _ _ _ _ c.root.ensures (sym c.in-Record.is ∙ c.held_of-slot.ensures))
    (load_reaches _ _ _ _ _ _ _ (fits c.in_ok-require_size.ensures) c.in_ok-require_roots.ensures refl)
    _
    (c.in_err-word.ensures)
    )

pub returns : goal.returns
returns c =
    load_done _ _ _ _ _ _ _ _ _ _
    (load_reaches _ _ _ _ _ _ _ (fits c.in_ok-require_size.ensures) c.in_ok-require_roots.ensures refl)
    (names _ _ _ _ _ _ c.root.ensures (sym c.in-Record.is ∙ c.held_of-slot.ensures))
    (c.in_ok-word.ensures)
    c.field-held.ensures
    c.set_root.ensures
