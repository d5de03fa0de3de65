-- How many of the first n bits are 1 where those before a place count as 1: by the place and the ones from there on.
use mathlib.Core.Path.{◌≡◌}
use mathlib.Core.Bool.{Bool, true, false}
use Prim.Native.Nat.{ℕ, ◌+◌, ◌-◌, ◌≤◌, ◌<◌}
use native.Mathlib.Omega.{arith}
use lib.Dec.{ltb}
use borrow.Author.Tests.{lt-ltb, le-ltb}
use Rattle.basics.specs.Pick.{pick}
use Rattle.words.specs.Bits.{ones_among}
use Rattle.words.proofs.Ones.{among_le, among_same, among_add}
use Rattle.words.proofs.Counts.{only_ones}
use Rattle.bitmaps.specs.Given.{used_bits}

module _ (bit : ℕ → ℕ) (p : ℕ) where
  pub used_all : (n : ℕ) → n ≤ p → ones_among (used_bits bit p) n ≡ n
  used_all n h = only_ones (used_bits bit p) n (λ i l. rw (lt-ltb i p (omega arith)))

  pub used_part : (n : ℕ) → p ≤ n → (ones_among bit p ≤ ones_among bit n) × (p + (ones_among bit n - ones_among bit p) ≡ ones_among (used_bits bit p) n)
  used_part n h =
      let e : p + (n - p) ≡ n = omega arith in
      let a : ones_among (used_bits bit p) n ≡ ones_among (used_bits bit p) p + ones_among (λ i. used_bits bit p (p + i)) (n - p) = rw e at (among_add (used_bits bit p) p (n - p)) in
      let d : ones_among bit n ≡ ones_among bit p + ones_among (λ i. bit (p + i)) (n - p) = rw e at (among_add bit p (n - p)) in
      let b : ones_among (used_bits bit p) p ≡ p = used_all p (omega arith) in
      let c : ones_among (λ i. used_bits bit p (p + i)) (n - p) ≡ ones_among (λ i. bit (p + i)) (n - p) =
      among_same (λ i. used_bits bit p (p + i)) (λ i. bit (p + i)) (n - p) (λ i l. rw (le-ltb (p + i) p (omega arith))) in
      (omega arith, omega arith)

  -- by the values that the code has in hand
  pub counted : (n all before : ℕ) → p ≤ n → all ≡ ones_among bit n → before ≡ ones_among bit p → (before ≤ all) × (p + (all - before) ≡ ones_among (used_bits bit p) n)
  counted n all before h e f = rw (e, f) (used_part n h)

  pub used_le : ((i : ℕ) → bit i < 2) → (n : ℕ) → ones_among (used_bits bit p) n ≤ n
  used_le small n = among_le (used_bits bit p) (λ i. go i (ltb i p)) n
    where
      go : (i : ℕ) (t : Bool) → pick t 1 (bit i) < 2
      go i true = omega arith
      go i false = small i
