-- `field_calls::put` meets its contract.
use mathlib.Core.Path.{refl, sym, ◌∙◌}
use Rattle.std.proofs.lemmas.Result.{err_from_is_err_and}
use Rattle.layout.proofs.Regions.{sized}
use Rattle.theory.specs.Calls.{c_put}
use Rattle.model_laws.proofs.Promised.{fits}
use Rattle.mutators.proofs.Inside.{in_range_at}
use Rattle.records.proofs.Found.{value_found}
use Rattle.records.proofs.Reaching.{names, held_7, value_refused}
use Rattle.field_calls.proofs.Answering.{put_refused, put_reaches, put_done}
use Rattle.field_calls.proofs.put.Goals as goal

pub require_root-requires : goal.require_root-requires
require_root-requires c = sized _ _ (fits c.in_ok-require_size.ensures)

pub returns-in_err-require_root : goal.returns-in_err-require_root
returns-in_err-require_root c =
    let p = err_from_is_err_and c.from_residual-in_err-require_root.result c.from_residual-in_err-require_root.ensures.1 in
    rw (p.1, p.2) (put_refused _ _ _ _ _ (fits c.in_ok-require_size.ensures) c.in_err-require_root.ensures _ _ _ refl)

pub root-requires : goal.root-requires
root-requires c =
    let p = in_range_at _ _ _ c.args.root _ c.in_ok-require_root.ensures refl in
    (sized _ _ (fits c.in_ok-require_size.ensures), p.0, p.1)

pub returns-in_default : goal.returns-in_default
returns-in_default c =
    held_7 (c_put _ _ _ _) _ _ _ _ _
    (put_reaches _ _ _ _ _ (fits c.in_ok-require_size.ensures) c.in_ok-require_root.ensures _ _ refl)
    _
    c.root.ensures
    (sym c.in_default.is ∙ c.held_of-slot.ensures)

pub value_at-requires : goal.value_at-requires
value_at-requires c =
    sized _ _ (fits c.in_ok-require_size.ensures)

pub set_field-requires : goal.set_field-requires
set_field-requires c =
    let t = value_found _ _ _ _ _ (c.in_ok-word.ensures) in
    (sized _ _ (fits c.in_ok-require_size.ensures), t.within)

pub returns-in_err-word : goal.returns-in_err-word
returns-in_err-word c =
    let p = err_from_is_err_and c.from_residual-in_err-word.result c.from_residual-in_err-word.ensures.1 in
    rw (p.1, p.2) (
    value_refused (c_put _ _ _ _) _ _ _ _ _ _
    (names _ _ _ _ _ _ c.root.ensures (sym c.in-Record.is ∙ c.held_of-slot.ensures))
    (put_reaches _ _ _ _ _ (fits c.in_ok-require_size.ensures) c.in_ok-require_root.ensures _ _ refl)
    _
    (c.in_err-word.ensures)
    )

pub returns : goal.returns
returns c =
    put_done _ _ _ _ _ _ _ _ _
    (put_reaches _ _ _ _ _ (fits c.in_ok-require_size.ensures) c.in_ok-require_root.ensures _ _ refl)
    (names _ _ _ _ _ _ c.root.ensures (sym c.in-Record.is ∙ c.held_of-slot.ensures))
    (c.in_ok-word.ensures)
    c.set_field.ensures
