-- `model::Phase::newcomer` meets its contract.
use Rattle.model.proofs.Phases.{newcomer_other}
use Rattle.model.proofs.Phase.newcomer.Goals as goal

pub returns-then-p-eq-MARK : goal.returns-then-p-eq-MARK
returns-then-p-eq-MARK c = rw c.if-p-eq-MARK.true

pub returns : goal.returns
returns c = newcomer_other c.args.self.number c.if-p-eq-MARK.false
