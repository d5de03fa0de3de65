-- `bracket_text::match_template` meets its contract. The loop's invariant: reading on by the rest of the template gives what
-- reading by the whole of it gives.
use mathlib.Core.Path.{◌∙◌}
use native.Mathlib.Omega.{arith}
use Rattle.bracket_text.proofs.Steps.{matched_more, matched_astray, matched_end, ended}
use Rattle.bracket_text.proofs.match_template.Goals as goal

pub returns-in_err-at : goal.returns-in_err-at
returns-in_err-at c =
    let k = c.loop-byte in
    rw c.from_residual.ensures
    (k.invariant.2 ∙ matched_astray c.args.template.now k.byte-index k.numbers.count k.numbers.values _ (omega arith) c.in_err-at.ensures)

pub loop-byte-preserved : goal.loop-byte-preserved
loop-byte-preserved c =
    let k = c.loop-byte in
    let m = c.in_ok-at.ensures in
    (m.1, m.2, k.invariant.2 ∙ matched_more c.args.template.now k.byte-index k.numbers.count k.numbers.values _ (omega arith) _ _ _ m.0)

pub returns : goal.returns
returns c =
    let k = c.loop-byte in
    rw c.then_some.ensures
    (ended c.args.line.now k.numbers.values k.at _ k.invariant.0
    (k.invariant.2 ∙ matched_end c.args.template.now k.byte-index k.numbers.count k.numbers.values _ c.loop-byte-test.false))
