-- The last arm of a `match` on the n numbers from a on: the number matched, if it is none below a, lies past them.
use Prim.Native.Nat.{ℕ, zero, suc, ◌+◌, ◌≤◌}
use mathlib.Core.Path.{◌≡◌}
use native.Mathlib.Omega.{arith}

-- x is none of the n numbers from a on, as the arm says it
abbrev pub NoneOf : ℕ → ℕ → ℕ → Type 0
NoneOf a zero x = Unit {0}
NoneOf a (suc n) x = NoneOf a n x × (x ≡ a + n → ⊥)

pub past_all : (a n x : ℕ) → NoneOf a n x → a ≤ x → a + n ≤ x
past_all a zero x t l = omega arith
past_all a (suc n) x t l = let h = past_all a n x t.0 l in let differs = t.1 in omega arith
