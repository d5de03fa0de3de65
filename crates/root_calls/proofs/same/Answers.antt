-- `root_calls::same` meets its contract.
use mathlib.Core.Path.{refl, sym, ◌∙◌, ap}
use Rattle.std.proofs.lemmas.Result.{err_from_is_err_and}
use Rattle.layout.proofs.Regions.{sized}
use Rattle.theory.specs.Calls.{c_same, a_flag}
use Rattle.model.specs.Calls.{act}
use Rattle.model_laws.proofs.Promised.{fits, refused, done}
use Rattle.mutators.specs.Inside.{inside_then}
use Rattle.mutators.proofs.Inside.{in_range}
use Rattle.root_calls.proofs.References.{same_words}
use Rattle.root_calls.proofs.same.Goals as goal

pub require_roots-requires : goal.require_roots-requires
require_roots-requires c = sized _ _ (fits c.in_ok-require_size.ensures)

pub returns-in_err-require_roots : goal.returns-in_err-require_roots
unfolding inside_then
returns-in_err-require_roots c =
    let p = err_from_is_err_and c.from_residual-in_err-require_roots.result c.from_residual-in_err-require_roots.ensures.1 in
    rw (p.1, p.2) (refused (c_same _ _ _) _ _ _ (fits c.in_ok-require_size.ensures) c.in_err-require_roots.ensures)

pub root-first-requires : goal.root-first-requires
root-first-requires c =
    let p = in_range _ _ _ _ c.args.other _ c.in_ok-require_roots.ensures refl in
    (sized _ _ (fits c.in_ok-require_size.ensures), p.0, p.1)

pub root-second-requires : goal.root-second-requires
root-second-requires c =
    let p = in_range _ _ _ c.args.root _ _ c.in_ok-require_roots.ensures refl in
    (sized _ _ (fits c.in_ok-require_size.ensures), p.0, p.2)

pub returns : goal.returns
unfolding inside_then act
returns c =
    done (c_same _ _ _) _ _ (fits c.in_ok-require_size.ensures)
    (c.in_ok-require_roots.ensures) (_, refl) refl
    (ap a_flag (same_words c.root-first.ensures c.root-second.ensures))
    refl
