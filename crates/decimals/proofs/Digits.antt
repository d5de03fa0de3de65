-- What the writer of a decimal leaves in a buffer, digit by digit.
use Prim.Native.Nat.{ℕ, zero, suc, ◌+◌, ◌*◌, ◌/◌, ◌%◌, ◌^◌, ◌≤◌, ◌<◌}
use mathlib.Core.Path.{◌≡◌, sym, ◌∙◌, ap}
use mathlib.Core.Logic.{◌⊎◌, inl, inr}
use mathlib.Core.List.{List, [], ◌∷◌}
use native.Mathlib.Nat.{pow-suc}
use native.Mathlib.Omega.{arith}
use lib.ListN.{length, set, length-append}
use Rattle.basics.proofs.Order.{le_or_lt}
use Rattle.decimals.specs.Decimal.{decimal, Word}
use Rattle.decimals.specs.Placed.{placed}
use Rattle.decimals.proofs.Placed.{placed_one, placed_append, length-placed}
use Rattle.decimals.proofs.Decimal.{tenth, decimal_small, decimal_more}

pub small_length : (n : ℕ) → n < 10 → length (decimal n) ≡ 1
small_length n h = ap length (decimal_small n h)

pub more_length : (n : ℕ) → 10 ≤ n → Word n → length (decimal n) ≡ length (decimal (n / 10)) + 1
more_length n h w = ap length (decimal_more n h w) ∙ length-append (decimal (n / 10)) ((48 + n % 10) ∷ [])

-- from 10 ^ w on, and below the next power of ten, it has a digit more than w
pub counted : (w n : ℕ) → 10 ^ w ≤ n → n < 10 ^ suc w → Word n → length (decimal n) ≡ suc w
counted zero n l h w = small_length n h
counted (suc k) n l h w =
    let up : 10 ^ suc k ≡ 10 ^ k * 10 = pow-suc 10 k in
    let some : 1 ≤ 10 ^ k = pow_pos k in
    let i : length (decimal (n / 10)) ≡ suc k = counted k (n / 10) (omega arith) (tenth (suc k) n h) (omega arith) in
    more_length n (omega arith) w ∙ omega arith
  where
    pow_pos : (k : ℕ) → 1 ≤ 10 ^ k
    pow_pos zero = omega arith
    pow_pos (suc k) = let up : 10 ^ suc k ≡ 10 ^ k * 10 = pow-suc 10 k in let i = pow_pos k in omega arith

-- below a power of ten it has no more digits than that power
pub within : (w n : ℕ) → n < 10 ^ suc w → Word n → length (decimal n) ≤ suc w
within zero n h w = let e = small_length n h in omega arith
within (suc k) n h w = go (within k (n / 10) (tenth (suc k) n h) (omega arith)) (le_or_lt 10 n)
  where
    go : length (decimal (n / 10)) ≤ suc k → (10 ≤ n) ⊎ (n < 10) → length (decimal n) ≤ suc (suc k)
    go i (inl l) = let e = more_length n l w in omega arith
    go i (inr l) = let e = small_length n l in omega arith

module _ (l : List ℕ) (at n : ℕ) (fits : at + length (decimal n) ≤ length l) where
  -- a number of one digit
  pub wrote_small : n < 10 → set l at (48 + n) ≡ placed l at (decimal n)
  wrote_small h = rw (decimal_small n h) (placed_one l at (48 + n) (omega (arith, small_length n h)))

  -- the last digit after the others
  pub wrote_more : 10 ≤ n → Word n → (m : List ℕ) (next : ℕ) → next ≡ at + length (decimal (n / 10))
      → m ≡ placed l at (decimal (n / 10)) → set m next (48 + n % 10) ≡ placed l at (decimal n)
  wrote_more h w m next e f =
      let k : at + length (decimal (n / 10)) ≤ length l = omega (arith, more_length n h w) in
      let q : next < length m = omega (arith, more_length n h w, ap length f ∙ length-placed l at (decimal (n / 10)) k) in
      placed_one m next (48 + n % 10) q
      ∙ ap (λ (x : ℕ). placed m x ((48 + n % 10) ∷ [])) e
      ∙ ap (λ (x : List ℕ). placed x (at + length (decimal (n / 10))) ((48 + n % 10) ∷ [])) f
      ∙ sym (placed_append l at (decimal (n / 10)) k ((48 + n % 10) ∷ []))
      ∙ ap (placed l at) (sym (decimal_more n h w))
