-- `root_calls::clear` meets its contract.
use mathlib.Core.Path.{refl, sym, ◌∙◌}
use Rattle.std.proofs.lemmas.Result.{err_from_is_err_and}
use Rattle.layout.proofs.Regions.{sized}
use Rattle.theory.specs.Calls.{c_clear}
use Rattle.model.specs.Calls.{act}
use Rattle.model_laws.proofs.Promised.{fits, refused, done}
use Rattle.mutators.specs.Inside.{inside_then}
use Rattle.mutators.proofs.Inside.{in_range_at}
use Rattle.root_calls.proofs.clear.Goals as goal

pub require_root-requires : goal.require_root-requires
require_root-requires c = sized _ _ (fits c.in_ok-require_size.ensures)

pub returns-in_err-require_root : goal.returns-in_err-require_root
unfolding inside_then
returns-in_err-require_root c =
    let p = err_from_is_err_and c.from_residual-in_err-require_root.result c.from_residual-in_err-require_root.ensures.1 in
    rw (p.1, p.2) (refused (c_clear _ _) _ _ _ (fits c.in_ok-require_size.ensures) c.in_err-require_root.ensures)

pub set_root-requires : goal.set_root-requires
set_root-requires c =
    let p = in_range_at _ _ _ _ _ c.in_ok-require_root.ensures refl in
    (sized _ _ (fits c.in_ok-require_size.ensures), p.0, p.1)

pub returns : goal.returns
unfolding inside_then act
returns c =
    done (c_clear _ _) _ _ (fits c.in_ok-require_size.ensures)
    (c.in_ok-require_root.ensures) refl refl refl c.set_root.ensures
