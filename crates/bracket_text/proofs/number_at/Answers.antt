-- `bracket_text::number_at` meets its contract: each return is one way that reading a number can go.
use mathlib.Core.Path.{◌∙◌, sym, ap}
use native.Mathlib.Omega.{arith}
use Rattle.bracket_text.specs.Scan.{digit_of}
use Rattle.bracket_text.proofs.Steps.{number_end, number_none, number_zero, number_more}
use Rattle.bracket_text.proofs.number_at.Goals as goal

pub returns-in_err-get : goal.returns-in_err-get
returns-in_err-get c = rw c.from_residual.ensures (number_end c.args.line.now c.args.at (c.in_err-get.ensures.lookup.3))

pub returns-in_err-d : goal.returns-in_err-d
returns-in_err-d c =
    let l = c.in_ok-get.ensures.lookup.3 in
    rw c.from_residual-in_err-d.ensures
    (number_none c.args.line.now c.args.at 10 l.0 (sym c.in_err-d.ensures ∙ ap digit_of (l.1 0)) (omega arith))

pub returns-then-d-eq0 : goal.returns-then-d-eq0
returns-then-d-eq0 c =
    let l = c.in_ok-get.ensures.lookup.3 in
    let n = c.in_ok-d.ensures in
    (number_zero c.args.line.now c.args.at c.in_ok-d.d l.0 (n.0 ∙ ap digit_of (l.1 0)) c.if-d-eq0.true, omega (arith, l.0))

pub returns : goal.returns
returns c =
    let l = c.in_ok-get.ensures.lookup.3 in
    let n = c.in_ok-d.ensures in
    rw
    (number_more c.args.line.now c.args.at c.in_ok-d.d l.0 (n.0 ∙ ap digit_of (l.1 0)) (omega arith) c.if-d-eq0.false)
    c.digits_on.ensures
