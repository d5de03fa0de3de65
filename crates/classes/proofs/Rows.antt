-- One of 32 rows, taken by its number in an arm of its own: the arm's is the row that a number lies in, and the last arm is the last row's.
use mathlib.Core.Path.{◌≡◌, sym, ap, ◌∙◌}
use Prim.Native.Nat.{ℕ, ◌<◌}
use native.Mathlib.Omega.{arith}
use Rattle.basics.proofs.Arms.{NoneOf, past_all}

-- what is read from row k, where x is k
pub from_row : (read : ℕ → ℕ) {x k r : ℕ} → x ≡ k → r ≡ read k → r ≡ read x
from_row read e q = q ∙ ap read (sym e)

pub last_row : (x : ℕ) → x < 32 → NoneOf 0 31 x → x ≡ 31
last_row x l none = let h = past_all 0 31 x none (omega arith) in omega arith
