-- What the plain scan answers, as facts, and that nothing else meets them.
use Rattle.std.specs.Prelude.{Ok, Err, Some, None}
use mathlib.Core.Path.{◌≡◌, refl}
use mathlib.Core.Bool.{Bool, true, false}
use mathlib.Core.Logic.{◌⊎◌, inl, inr}
use Prim.Native.Nat.{ℕ, ◌-◌, ◌≤◌, ◌<◌}
use native.Mathlib.Omega.{arith}
use lib.Dec.{ltb}
use borrow.Author.Tests.{lt-ltb, le-ltb, ltb-true, ltb-false}
use Rattle.basics.specs.Pick.{pick}
use Rattle.basics.proofs.Order.{le_or_lt}
use Rattle.words.specs.Bits.{first_zero}
use Rattle.words.proofs.FirstZero.{NoZero, IsFirst, first_zero_lem, first_one}
use Rattle.bitmap_search.specs.Scan.{Found}
use Rattle.bitmap_search.specs.Scan.{next_free, block_below}

module _ (bit : ℕ → ℕ) where
  -- r is the first free block of n at or after p
  abbrev pub IsNext : ℕ → ℕ → Found → Type 0
  IsNext n p (Ok (Some k)) = (p ≤ k) × (k < n) × (bit k ≡ 0) × NoZero bit p k
  IsNext n p (Ok None) = NoZero bit p n
  IsNext n p (Err _) = ⊥

  module _ (n p : ℕ) where
    first : p ≤ n → IsFirst bit p n (first_zero bit (n - p) p)
    first l = first_zero_lem bit (n - p) p n (omega arith)

    -- a scan from past the end stays there
    past : n < p → first_zero bit (n - p) p ≡ p
    past l = let e : n - p ≡ 0 = omega arith in rw e

    -- the answer of the scan is the first free block
    pub next_is : IsNext n p (next_free bit n p)
    unfolding next_free
    next_is = go (le_or_lt p n)
      where
        go : (p ≤ n) ⊎ (n < p) → IsNext n p (block_below n (first_zero bit (n - p) p))
        go (inl l) = by (first_zero bit (n - p) p) (first l) (ltb (first_zero bit (n - p) p) n) refl
          where
            by : (k : ℕ) → IsFirst bit p n k → (t : Bool) → ltb k n ≡ t → IsNext n p (pick t (Ok (Some k)) (Ok None))
            by k f true q = let h = ltb-true k n q in (f.from, h, f.clear h, f.before)
            by k f false q = let h = ltb-false k n q in λ j a b z. f.before j a (omega (arith, f.within)) z
        go (inr l) = rw (past l, le-ltb p n (omega arith)) (λ j a b z. absurd (omega arith))

    -- no other answer is
    pub is_next : (r : Found) → IsNext n p r → r ≡ next_free bit n p
    unfolding next_free
    is_next (Ok (Some k)) x =
        let e : first_zero bit (n - p) p ≡ k =
        first_one bit p n (first_zero bit (n - p) p) k (first (omega (arith, x.0, x.1)))
        (record { from = x.0; within = omega (arith, x.1); clear = λ h. x.2; before = x.3 }) in
        rw (e, lt-ltb k n x.1)
    is_next (Ok None) x = go (le_or_lt p n)
      where
        go : (p ≤ n) ⊎ (n < p) → (Ok None) ≡ block_below n (first_zero bit (n - p) p)
        go (inl l) =
            let e : first_zero bit (n - p) p ≡ n =
            first_one bit p n (first_zero bit (n - p) p) n (first l)
            (record { from = l; within = omega arith; clear = λ h. absurd (omega arith); before = x }) in
            rw (e, le-ltb n n (omega arith))
        go (inr l) = rw (past l, le-ltb p n (omega arith))
    is_next (Err _) x = absurd x
