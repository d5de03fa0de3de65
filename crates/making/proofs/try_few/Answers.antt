-- `making::try_few` meets its contract.
use mathlib.Core.Path.{refl}
use Rattle.layout.proofs.Regions.{sized}
use Rattle.mutators.proofs.Inside.{in_range_at}
use Rattle.making.proofs.Beginning.{tried_called, ok_fits, ok_inside}
use Rattle.making.proofs.try_few.Goals as goal

pub require_root-requires : goal.require_root-requires
require_root-requires c = sized _ _ (ok_fits c.require_size.ensures c.in_ok-ok.ensures.value)

pub try_held-requires-clause-sized : goal.try_held-requires-clause-sized
try_held-requires-clause-sized c =
    let l = in_range_at _ _ _ _ _ (ok_inside _ c.require_root.ensures c.in_ok-ok-2.ensures.value) refl in
    (sized _ _ (ok_fits c.require_size.ensures c.in_ok-ok.ensures.value), l.0, l.1)

pub returns : goal.returns
returns c =
    let x = c.args in
    tried_called x.g x.mutator x.to x.shape x.mem.now (ok_fits c.require_size.ensures c.in_ok-ok.ensures.value) _
    (ok_inside _ c.require_root.ensures c.in_ok-ok-2.ensures.value) refl _ c.class_of_few-class.ensures c.try_held.result c.try_held.new.mem c.try_held.ensures
