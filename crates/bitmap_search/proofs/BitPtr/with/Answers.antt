-- `bitmap_search::BitPtr::with` meets its contract.
use native.Mathlib.Omega.{arith}
use Rattle.bitmap_search.proofs.Pointers.{with_high}
use Rattle.bitmap_search.proofs.BitPtr.with.Goals as goal

pub returns-in-0 : goal.returns-in-0
returns-in-0 c = rw c.in-0.is

pub returns-in-1 : goal.returns-in-1
returns-in-1 c = rw c.in-1.is

pub returns-in_default : goal.returns-in_default
returns-in_default c =
    with_high c.args.self c.args.level c.args.at (λ e. omega arith) (λ e. omega arith)
