-- `root_calls::copy` meets its contract.
use mathlib.Core.Path.{refl, sym, ◌∙◌, ap}
use Rattle.std.proofs.lemmas.Result.{err_from_is_err_and}
use Rattle.theory.specs.Calls.{c_copy}
use Rattle.model.specs.Fields.{set_root}
use Rattle.model.specs.Calls.{act}
use Rattle.layout.proofs.Regions.{sized}
use Rattle.model_laws.proofs.Promised.{fits, refused, done}
use Rattle.mutators.specs.Inside.{inside_then}
use Rattle.mutators.proofs.Inside.{in_range}
use Rattle.root_calls.proofs.copy.Goals as goal

pub require_roots-requires : goal.require_roots-requires
require_roots-requires c = sized _ _ (fits c.in_ok-require_size.ensures)

pub returns-in_err-require_roots : goal.returns-in_err-require_roots
unfolding inside_then
returns-in_err-require_roots c =
    let p = err_from_is_err_and c.from_residual-in_err-require_roots.result c.from_residual-in_err-require_roots.ensures.1 in
    rw (p.1, p.2) (refused (c_copy _ _ _) _ _ _ (fits c.in_ok-require_size.ensures) c.in_err-require_roots.ensures)

pub root-held-requires : goal.root-held-requires
root-held-requires c =
    let p = in_range _ _ _ c.args.to _ _ c.in_ok-require_roots.ensures refl in
    (sized _ _ (fits c.in_ok-require_size.ensures), p.0, p.2)

pub set_root-requires : goal.set_root-requires
set_root-requires c =
    let p = in_range _ _ _ _ c.args.from _ c.in_ok-require_roots.ensures refl in
    (sized _ _ (fits c.in_ok-require_size.ensures), p.0, p.1)

pub returns : goal.returns
unfolding inside_then act
returns c =
    done (c_copy _ _ _) _ _ (fits c.in_ok-require_size.ensures) c.in_ok-require_roots.ensures refl refl refl
    (c.set_root.ensures ∙ ap (set_root _ _ _) c.root-held.ensures)
