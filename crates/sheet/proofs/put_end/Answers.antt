-- `sheet::put_end` meets its contract.
use native.Mathlib.Omega.{arith}
use mathlib.Core.Path.{ap}
use lib.ListN.{length, length-set}
use Rattle.sheet.proofs.Lines.{one_empty, none_between, none_last}
use Rattle.sheet.proofs.Printing.{ends_line, ends_group}
use Rattle.sheet.proofs.put_end.Goals as goal
use Rattle.sheet.proofs.put_end.Goals.{then-next-ne0-via-then-next-ne0, then-next-ne0-via-else-next-ne0+then-n-next}

pub returns-then-next-ne0 : goal.returns-then-next-ne0
returns-then-next-ne0 c =
    let a = c.args in
    elim c.then-next-ne0.branch [
      | then-next-ne0-via-then-next-ne0 w ↦ ends_line a.out.now a.at a.n a.s (none_between a.n a.s w.if-next-ne0.true) (omega arith)
      | then-next-ne0-via-else-next-ne0+then-n-next w ↦ ends_line a.out.now a.at a.n a.s (none_last a.n a.s (omega (arith, w.if-n-next.true))) (omega arith)
    ]

pub bounds-out-at-2 : goal.bounds-out-at-2
bounds-out-at-2 c =
    let a = c.args in
    simp length-set (omega (arith, ap length (one_empty a.n a.s c.if-next-ne0.false (omega (arith, c.if-n-next.false)))))

pub returns : goal.returns
returns c =
    let a = c.args in
    let group = one_empty a.n a.s c.if-next-ne0.false (omega (arith, c.if-n-next.false)) in
    ends_group a.out.now a.at a.n a.s group (omega (arith, ap length group))
