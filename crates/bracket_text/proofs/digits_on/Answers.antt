-- `bracket_text::digits_on` meets its contract. The loop's invariant: reading on from the present place with the present value
-- gives what reading from the first place gives.
use mathlib.Core.Path.{◌∙◌}
use native.Mathlib.Omega.{arith}
use Rattle.bracket_text.proofs.Steps.{digits_end, digits_stop, digits_over, digits_more}
use Rattle.bracket_text.proofs.digits_on.Goals as goal

pub returns-in_default : goal.returns-in_default
returns-in_default c =
    let k = c.loop-at in
    (k.invariant ∙ digits_stop c.args.line.now k.at 10 c.loop-at-test.true (omega (arith, c.in_default.ensures)) k.value (omega arith), omega arith)

pub returns-in_err-checked_mul : goal.returns-in_err-checked_mul
returns-in_err-checked_mul c =
    let k = c.loop-at in
    let d = c.in-Some.ensures in
    rw c.from_residual.ensures
    (k.invariant ∙ digits_over c.args.line.now k.at c.in-Some.d c.loop-at-test.true d.0 k.value (omega arith) (omega (arith, c.in_err-checked_mul.ensures)))

pub returns-in_err-value : goal.returns-in_err-value
returns-in_err-value c =
    let k = c.loop-at in
    let d = c.in-Some.ensures in
    rw c.from_residual-in_err-value.ensures
    (k.invariant ∙ digits_over c.args.line.now k.at c.in-Some.d c.loop-at-test.true d.0 k.value (omega arith) (omega (arith, c.in_ok-checked_mul.ensures.1, c.in_err-value.ensures)))

pub loop-at-preserved : goal.loop-at-preserved
loop-at-preserved c =
    let k = c.loop-at in
    let d = c.in-Some.ensures in
    let ten = c.in_ok-checked_mul.ensures in
    let next = c.in_ok-value.ensures in
    rw (next.1, ten.1) (k.invariant ∙ digits_more c.args.line.now k.at c.in-Some.d c.loop-at-test.true d.0 k.value (omega arith) (omega arith))

pub returns : goal.returns
returns c = (c.loop-at.invariant ∙ digits_end c.args.line.now c.loop-at.at c.loop-at.value c.loop-at-test.false, omega arith)
