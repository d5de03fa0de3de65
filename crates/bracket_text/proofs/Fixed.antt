-- The length of a template that has spaces after it, one byte from the end at a time.
use Prim.Native.Nat.{ℕ, zero, suc, ◌+◌, ◌-◌, ◌≤◌, ◌<◌}
use mathlib.Core.Path.{◌≡◌, sym}
use mathlib.Core.Bool.{Bool, true, false, cond}
use mathlib.Core.List.{List}
use native.Mathlib.Omega.{arith}
use lib.Dec.{eqb}
use lib.ListN.{length, get_or, take}
use lib.Seq.{length-take-le}
use borrow.Author.Tests.{eq-eqb, ne_eqb}
use Rattle.bracket_text.specs.Fixed.{length_from, trimmed}

module _ (l : List ℕ) where
  length_from-le : (n : ℕ) → length_from l n ≤ n
  unfolding length_from
  length_from-le zero = omega arith
  length_from-le (suc n) = go (eqb (get_or l n 0) 32) (length_from-le n)
    where
      go : (t : Bool) → length_from l n ≤ n → cond t (length_from l n) (suc n) ≤ suc n
      go true h = omega arith
      go false h = omega arith

  -- the part of so many bytes is the template
  pub part_length : (n : ℕ) → n ≡ length_from l (length l) → n ≡ length (take n l)
  part_length n e = sym (length-take-le n l (omega (arith, length_from-le (length l))))

  pub part_is : (n : ℕ) → n ≡ length_from l (length l) → take n l ≡ trimmed l
  unfolding trimmed
  part_is n e = rw e

  one_less : (n : ℕ) → suc n - 1 ≡ n
  one_less n = omega arith

  -- the last byte is a space, and is none
  pub past_space : (n : ℕ) → 0 < n → get_or l (n - 1) 0 ≡ 32 → length_from l (n - 1) ≡ length_from l n
  unfolding length_from
  past_space zero h e = absurd (omega arith)
  past_space (suc n) h e = let b : get_or l n 0 ≡ 32 = rw one_less at e in rw (one_less, eq-eqb _ _ b)

  pub at_last_byte : (n : ℕ) → 0 < n → (get_or l (n - 1) 0 ≡ 32 → ⊥) → n - 1 + 1 ≡ length_from l n
  unfolding length_from
  at_last_byte zero h e = absurd (omega arith)
  at_last_byte (suc n) h e = rw (ne_eqb (get_or l n 0) 32 (λ b. e (rw one_less b))) (omega arith)
