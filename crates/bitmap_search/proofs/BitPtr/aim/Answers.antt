-- `bitmap_search::BitPtr::aim` meets its contract.
use native.Mathlib.Omega.{arith}
use Rattle.bitmap_search.proofs.Pointers.{aimed_high}
use Rattle.bitmap_search.proofs.BitPtr.aim.Goals as goal

pub returns-in-0 : goal.returns-in-0
returns-in-0 c = rw c.in-0.is c.to.ensures

pub returns-in-1 : goal.returns-in-1
returns-in-1 c = rw (c.in-1.is, c.of.ensures, c.of-in-1.ensures)

pub returns-in_default : goal.returns-in_default
returns-in_default c =
    rw c.of-in_default.ensures (aimed_high c.args.self c.args.level c.args.index (λ e. omega arith) (λ e. omega arith))
