-- The decimal of a number: one digit below 10, else the decimal of a tenth and a last digit; and how long it is.
use Prim.Native.Nat.{ℕ, zero, suc, ◌+◌, ◌*◌, ◌/◌, ◌%◌, ◌^◌, ◌≤◌, ◌<◌}
use mathlib.Core.Path.{◌≡◌, refl, sym, ap}
use mathlib.Core.Bool.{Bool, true, false}
use mathlib.Core.List.{List, [], ◌∷◌, ◌++◌}
use native.Mathlib.Nat.{pow-suc, div-lt_iff_lt-mul}
use native.Mathlib.Omega.{arith}
use lib.Arith.{digits_div, digits_mod}
use lib.Dec.{ltb}
use lib.ListN.{length, length-append}
use borrow.Author.Tests.{lt-ltb, le-ltb}
use Rattle.decimals.specs.Decimal.{digits_of, decimal, Word}

-- a tenth needs a digit less
pub tenth : (f n : ℕ) → n < 10 ^ suc f → n / 10 < 10 ^ f
tenth f n h = (div-lt_iff_lt-mul {k = 10} {x = n} {y = 10 ^ f} (omega arith)).1 (rw pow-suc at h)

-- room for one more digit changes nothing where the digits fit
digits_room : (f n : ℕ) → n < 10 ^ suc f → digits_of (suc (suc f)) n ≡ digits_of (suc f) n
unfolding digits_of
digits_room zero n h = rw (lt-ltb n 10 h)
digits_room (suc f) n h = go (ltb n 10) refl (digits_room f (n / 10) (tenth (suc f) n h))
  where
    go : (t : Bool) → ltb n 10 ≡ t → digits_of (suc (suc f)) (n / 10) ≡ digits_of (suc f) (n / 10)
        → digits_of (suc (suc (suc f))) n ≡ digits_of (suc (suc f)) n
    go true q i = rw q
    go false q i = rw q (ap (λ (x : List ℕ). x ++ ((48 + n % 10) ∷ [])) i)

pub decimal_small : (n : ℕ) → n < 10 → decimal n ≡ (48 + n) ∷ []
unfolding decimal digits_of
decimal_small n h = rw (lt-ltb n 10 h)

pub decimal_more : (n : ℕ) → 10 ≤ n → Word n → decimal n ≡ decimal (n / 10) ++ ((48 + n % 10) ∷ [])
unfolding decimal digits_of
decimal_more n h k =
    rw (le-ltb n 10 h)
    (ap (λ (x : List ℕ). x ++ ((48 + n % 10) ∷ [])) (sym (digits_room 8 (n / 10) (tenth 9 n (omega arith)))))

-- one more digit at the end
pub decimal_snoc : (v d : ℕ) → 1 ≤ v → d ≤ 9 → Word (v * 10 + d) → decimal (v * 10 + d) ≡ decimal v ++ ((48 + d) ∷ [])
decimal_snoc v d h k w =
    rw (
      decimal_more (v * 10 + d) (omega arith) w,
      digits_div v {m =
          10} {r = d} (omega arith),
      digits_mod v {m = 10} {r = d} (omega arith),
    )

digits_length : (f n : ℕ) → length (digits_of f n) ≤ f
unfolding digits_of
digits_length zero n = omega arith
digits_length (suc f) n = go (ltb n 10) refl (digits_length f (n / 10))
  where
    go : (t : Bool) → ltb n 10 ≡ t → length (digits_of f (n / 10)) ≤ f → length (digits_of (suc f) n) ≤ suc f
    go true q i = rw q (omega arith)
    go false q i = rw q (simp length-append (omega arith))

-- at most ten digits
pub decimal_length : (n : ℕ) → length (decimal n) ≤ 10
unfolding decimal
decimal_length n = digits_length 10 n
