-- `bitmap_search::BitPtr::at` meets its contract.
use native.Mathlib.Omega.{arith}
use Rattle.bitmap_search.proofs.Pointers.{pos_high}
use Rattle.bitmap_search.proofs.BitPtr.at.Goals as goal

pub returns-in_default : goal.returns-in_default
returns-in_default c = pos_high c.args.self c.args.level (λ e. omega arith) (λ e. omega arith)
