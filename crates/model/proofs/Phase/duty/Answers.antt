-- `model::Phase::duty` meets its contract.
use native.Mathlib.Omega.{arith}
use Rattle.model.proofs.Phases.{duty_none, duty_both}
use Rattle.model.proofs.Phase.duty.Goals as goal

pub returns-then-p-eq-MARK : goal.returns-then-p-eq-MARK
returns-then-p-eq-MARK c = rw c.if-p-eq-MARK.true

pub returns-then-p-lt-SYNC1 : goal.returns-then-p-lt-SYNC1
returns-then-p-lt-SYNC1 c = duty_none c.args.self.number c.args.acks c.if-p-eq-MARK.false (λ l h. absurd (omega (arith, c.if-p-lt-SYNC1.true)))

pub returns-then-p-gt-SYNC2 : goal.returns-then-p-gt-SYNC2
returns-then-p-gt-SYNC2 c = duty_none c.args.self.number c.args.acks c.if-p-eq-MARK.false (λ l h. absurd (omega (arith, c.if-p-gt-SYNC2.true)))

pub returns-then-acks-eq0 : goal.returns-then-acks-eq0
returns-then-acks-eq0 c = duty_none c.args.self.number c.args.acks c.if-p-eq-MARK.false (λ l h. c.if-acks-eq0.true)

pub returns : goal.returns
returns c = duty_both c.args.self.number c.args.acks c.if-p-lt-SYNC1.false c.if-p-gt-SYNC2.false c.if-acks-eq0.false
