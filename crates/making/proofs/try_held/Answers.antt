-- `making::try_held` meets its contract.
use Rattle.making.proofs.Placing.{of_class_lem}
use Rattle.making.proofs.Beginning.{tried_held}
use Rattle.making.proofs.try_held.Goals as goal

pub returns-then-held-g : goal.returns-then-held-g
returns-then-held-g c =
    let x = c.args in
    tried_held x.g x.mutator x.to x.class x.shape x.mem.now c.requires.sized.0 c.requires.sized.1 (of_class_lem x.shape _ c.requires.of_class.0) _
    c.holding-held.ensures c.if-held-ne0.true c.if-held-g.true c.hand_near.result c.hand_near.new.mem c.hand_near.ensures
