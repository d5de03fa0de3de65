-- `model::Phase::black` meets its contract.
use native.Mathlib.Omega.{arith}
use Rattle.model.proofs.Phases.{black_other, black_here}
use Rattle.model.proofs.Phase.black.Goals as goal

pub returns-then-p-lt-SYNC2 : goal.returns-then-p-lt-SYNC2
returns-then-p-lt-SYNC2 c = black_other c.args.self.number c.args.acks (λ l h. omega (arith, c.if-p-lt-SYNC2.true))

pub returns-then-p-gt-MARK : goal.returns-then-p-gt-MARK
returns-then-p-gt-MARK c = black_other c.args.self.number c.args.acks (λ l h. omega (arith, c.if-p-gt-MARK.true))

pub returns : goal.returns
returns c = black_here c.args.self.number c.args.acks c.if-p-lt-SYNC2.false c.if-p-gt-MARK.false
