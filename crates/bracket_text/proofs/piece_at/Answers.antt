-- `bracket_text::piece_at` meets its contract: each return is one way that reading a byte of a template can go.
use mathlib.Core.Path.{◌∙◌, sym}
use native.Mathlib.Omega.{arith}
use Rattle.bracket_text.proofs.Steps.{piece_kept, piece_full, piece_no_number, piece_literal, piece_other, piece_end}
use Rattle.bracket_text.proofs.piece_at.Goals as goal

pub returns-in_err-value : goal.returns-in_err-value
returns-in_err-value c =
    let n = c.args.numbers.now in
    rw c.from_residual.ensures (piece_no_number c.args.byte n.count n.values _ c.if-byte-eq35.true c.in_err-value.ensures)

pub returns-then-count-eq5 : goal.returns-then-count-eq5
returns-then-count-eq5 c =
    let n = c.args.numbers.now in
    piece_full c.args.byte n.count n.values _ c.if-byte-eq35.true _ _ c.in_ok-value.ensures.0 (omega (arith, c.if-count-eq5.true))

pub returns-then-byte-eq35 : goal.returns-then-byte-eq35
returns-then-byte-eq35 c =
    let n = c.args.numbers.now in
    let h = c.in_ok-value.ensures in
    (piece_kept c.args.byte n.count n.values _ c.if-byte-eq35.true _ _ h.0 (omega arith), h.1, omega arith)

pub returns-in_err-get : goal.returns-in_err-get
returns-in_err-get c =
    let n = c.args.numbers.now in
    rw c.from_residual-in_err-get.ensures
    (piece_end c.args.byte n.count n.values c.args.line.now c.args.at c.if-byte-eq35.false c.in_err-get.ensures.lookup.3)

pub returns-then-branch-byte : goal.returns-then-branch-byte
returns-then-branch-byte c =
    let n = c.args.numbers.now in
    let l = c.in_ok-get.ensures.lookup.3 in
    piece_other c.args.byte n.count n.values c.args.line.now c.args.at c.if-byte-eq35.false l.0 (λ e. c.if-branch-byte.true (l.1 0 ∙ e))

pub returns : goal.returns
returns c =
    let n = c.args.numbers.now in
    let l = c.in_ok-get.ensures.lookup.3 in
    (piece_literal c.args.byte n.count n.values c.args.line.now c.args.at c.if-byte-eq35.false l.0 (sym (l.1 0) ∙ c.if-branch-byte.false), omega (arith, l.0), omega arith)
