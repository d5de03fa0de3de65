-- A loop that decides a statement of every number below n, one at a turn: what is known after i turns, and what the loop answers.
use mathlib.Core.Path.{◌≡◌}
use mathlib.Core.Bool.{Bool, true, false, not}
use Prim.Native.Nat.{ℕ, ◌+◌, ◌≤◌, ◌<◌}
use native.Mathlib.Omega.{arith}
use borrow.Author.Count.{below_none, below_more}
use borrow.Author.Tests.{not-true, not-false}
use Rattle.basics.specs.Decides.{Decides}
use Rattle.basics.proofs.Deciding.{holds, fails, refuted}

-- the statement holds of the first i numbers
pub record Passed (P : ℕ → Type 0) (n i : ℕ) : Type 0 where
  pub few : i ≤ n
  pub all : (k : ℕ) → k < i → P k

module _ (P : ℕ → Type 0) (n : ℕ) where
  pub none_passed : Passed P n 0
  none_passed = record { few = omega arith; all = below_none P }

  module _ (i : ℕ) (p : Passed P n i) where
    module _ (l : i < n) (r : Bool) (d : Decides r (P i)) where
      pub one_passed : not r ≡ false → Passed P n (i + 1)
      one_passed e = record { few = omega arith; all = below_more P i p.all (d.sound (not-false r e)) }

      pub one_failed : not r ≡ true → Decides false ((k : ℕ) → k < n → P k)
      one_failed e = fails (λ q. refuted d (not-true r e) (q i l))

    pub all_passed : n ≤ i → Decides true ((k : ℕ) → k < n → P k)
    all_passed l = holds (λ k h. p.all k (omega arith))
