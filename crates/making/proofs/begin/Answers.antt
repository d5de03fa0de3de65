-- `making::begin` meets its contract.
use mathlib.Core.Path.{refl, sym, ◌∙◌}
use Rattle.std.proofs.lemmas.Result.{err_from_is_err_and}
use Rattle.layout.proofs.Regions.{sized}
use Rattle.model_laws.proofs.Promised.{fits}
use Rattle.mutators.proofs.Inside.{in_range_at}
use Rattle.making.proofs.Beginning.{begun_called}
use Rattle.making.proofs.Making.{make_refused, make_9}
use Rattle.making.proofs.begin.Goals as goal

pub require_root-requires : goal.require_root-requires
require_root-requires c = sized _ _ (fits c.in_ok-require_size.ensures)

pub returns-in_err-require_root : goal.returns-in_err-require_root
returns-in_err-require_root c =
    let p = err_from_is_err_and c.from_residual-in_err-require_root.result c.from_residual-in_err-require_root.ensures.1 in
    rw (p.1, p.2) (make_refused _ _ _ _ _ _ _ (fits c.in_ok-require_size.ensures) c.in_err-require_root.ensures _ refl)

pub begin_of-requires-clause-sized : goal.begin_of-requires-clause-sized
begin_of-requires-clause-sized c =
    let l = in_range_at _ _ _ _ _ c.in_ok-require_root.ensures refl in
    (sized _ _ (fits c.in_ok-require_size.ensures), l.0, l.1)

pub returns-in_default : goal.returns-in_default
returns-in_default c =
    make_9 _ _ _ _ _ _ _ (fits c.in_ok-require_size.ensures) c.in_ok-require_root.ensures refl (sym c.in_default.is ∙ c.class_of_record.ensures)

pub returns : goal.returns
returns c =
    let x = c.args in
    begun_called x.g x.mutator x.to x.shape x.mem.now (fits c.in_ok-require_size.ensures) _ c.in_ok-require_root.ensures refl _
    (sym c.in-Some.is ∙ c.class_of_record.ensures) c.begin_of.result c.begin_of.new.mem c.begin_of.ensures
