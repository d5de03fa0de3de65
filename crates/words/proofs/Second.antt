-- A second clear bit of a word: whether one stands after a bit, and after the lowest from a bit on.
use mathlib.Core.Path.{◌≡◌, refl, sym, ap, ◌∙◌}
use mathlib.Core.Bool.{true, false, not}
use mathlib.Core.Logic.{◌⊎◌, inl, inr}
use Prim.Native.Nat.{ℕ, zero, suc, ◌+◌, ◌-◌, ◌*◌, ◌/◌, ◌%◌, ◌^◌, ◌≤◌, ◌<◌}
use native.Mathlib.Nat.{pow-suc, mod-lt, lt_of_le_of_lt, mul_assoc, suc-mul, pos_of_ne-zero}
use native.Mathlib.Numerals.{one-add}
use native.Mathlib.Omega.{arith}
use lib.Bits.{bit_and, and_step, and_self}
use lib.Count.{count_trailing_zeros, under}
use lib.Dec.{ltb, eqb}
use lib.Pow.{shr-shr, shr_le, pow_pos}
use borrow.Author.Tests.{lt-ltb, le-ltb, eq-eqb, ne_eqb, ltb-true}
use Rattle.basics.proofs.Order.{le_or_lt}
use Rattle.words.specs.Bits.{clear_from, some_clear}
use Rattle.words.proofs.Clear.{rest, none_clear, some_clear_lem, clear_lt}

-- past the word's end nothing is found
clear_past : (w i : ℕ) → 32 ≤ i → clear_from w i ≡ i
unfolding clear_from
clear_past w i h = let e : 32 - i ≡ 0 = omega arith in rw e

module _ (w : ℕ) (hw : w < 2 ^ 32) where
  rest_lt : (i : ℕ) → rest w i < 2 ^ 32
  rest_lt i = lt_of_le_of_lt (shr_le (2 ^ 32 - 1 - w) i) (omega arith)

  -- a clear bit from bit i on
  some_rest : (i : ℕ) → i < 32 → some_clear w i ≡ ltb 0 (rest w i)
  some_rest i h = go (le_or_lt 1 (rest w i))
    where
      go : (1 ≤ rest w i) ⊎ (rest w i < 1) → some_clear w i ≡ ltb 0 (rest w i)
      go (inl l) = rw (lt-ltb 0 (rest w i) l) (lt-ltb (clear_from w i) 32 (rw (← some_clear_lem w i hw h l (rest_lt i)) (clear_lt w i hw h l (rest_lt i))))
      go (inr l) = rw (le-ltb 0 (rest w i) (omega arith)) (le-ltb (clear_from w i) 32 (omega (arith, none_clear w i hw h (omega arith))))

  half : (i : ℕ) → rest w (i + 1) ≡ rest w i / 2
  half i = sym (shr-shr (2 ^ 32 - 1 - w) i 1)

  -- after bit i
  pub after_bit : (i : ℕ) → i < 32 → ltb 1 (rest w i) ≡ some_clear w (i + 1)
  after_bit i h = go (le_or_lt 32 (i + 1)) (le_or_lt 2 (rest w i))
    where
      go : (32 ≤ i + 1) ⊎ (i + 1 < 32) → (2 ≤ rest w i) ⊎ (rest w i < 2) → ltb 1 (rest w i) ≡ some_clear w (i + 1)
      go (inl a) u =
          let e : i ≡ 31 = omega arith in
          let l : rest w i ≤ 1 = rw e (omega arith) in
          rw (le-ltb 1 (rest w i) l) (sym (le-ltb (clear_from w (i + 1)) 32 (omega (arith, clear_past w (i + 1) a))))
      go (inr a) (inl l) = rw (lt-ltb 1 (rest w i) l) (sym (some_rest (i + 1) a ∙ lt-ltb 0 (rest w (i + 1)) (omega (arith, half i))))
      go (inr a) (inr l) = rw (le-ltb 1 (rest w i) (omega arith)) (sym (some_rest (i + 1) a ∙ le-ltb 0 (rest w (i + 1)) (omega (arith, half i))))

-- ---- after the lowest

-- a number without its lowest one
lowest_off : (k n : ℕ) → n < 2 ^ k → 0 < n → bit_and n (n - 1) ≡ (n / 2 ^ count_trailing_zeros k n - 1) * 2 ^ count_trailing_zeros k n
unfolding count_trailing_zeros
lowest_off zero n h p = absurd (omega arith)
lowest_off (suc k) n h p = go (n % 2) refl (mod-lt n (omega arith)) (λ q. lowest_off k (n / 2) (omega (arith, pow-suc 2 k)) q)
  where
    go : (d : ℕ) → n % 2 ≡ d → d < 2 → (0 < n / 2 → bit_and (n / 2) (n / 2 - 1) ≡ (n / 2 / 2 ^ count_trailing_zeros k (n / 2) - 1) * 2 ^ count_trailing_zeros k (n / 2))
        → bit_and n (n - 1) ≡ (n / 2 ^ under d (count_trailing_zeros k (n / 2)) - 1) * 2 ^ under d (count_trailing_zeros k (n / 2))
    go zero e m ih =
        let t = count_trailing_zeros k (n / 2) in
        let f : (n - 1) / 2 ≡ n / 2 - 1 = omega arith in
        let q : n / 2 / 2 ^ t ≡ n / 2 ^ suc t = shr-shr n 1 t ∙ ap (λ (x : ℕ). n / 2 ^ x) (one-add t) in
        rw (and_step n (n - 1), f, ih (omega arith), q, e, pow-suc 2 t, ← mul_assoc (n / (2 ^ t * 2) - 1) (2 ^ t) 2) (omega arith)
    go (suc zero) e m ih =
        let f : (n - 1) / 2 ≡ n / 2 = omega arith in
        rw (and_step n (n - 1), f, and_self (n / 2)) (omega arith)
    go (suc (suc d)) e m ih = absurd (omega arith)

-- so it is 0 exactly when the number has no other
other_one : (n : ℕ) → n < 2 ^ 32 → 0 < n → not (eqb (bit_and n (n - 1)) 0) ≡ ltb 1 (n / 2 ^ count_trailing_zeros 32 n)
other_one n h p = rw (lowest_off 32 n h p) (go (n / 2 ^ count_trailing_zeros 32 n) (2 ^ count_trailing_zeros 32 n) (pow_pos (count_trailing_zeros 32 n)))
  where
    go : (q x : ℕ) → 0 < x → not (eqb ((q - 1) * x) 0) ≡ ltb 1 q
    go zero x l = rw (eq-eqb ((0 - 1) * x) 0 (omega arith)) (sym (le-ltb 1 0 (omega arith)))
    go (suc zero) x l = rw (eq-eqb ((1 - 1) * x) 0 (omega arith)) (sym (le-ltb 1 1 (omega arith)))
    go (suc (suc q)) x l =
        let e : suc (suc q) - 1 ≡ suc q = omega arith in
        rw (e, ne_eqb (suc q * x) 0 (λ z. omega (arith, suc-mul q x))) (sym (lt-ltb 1 (suc (suc q)) (omega arith)))

module _ (w i : ℕ) (hw : w < 2 ^ 32) (hi : i < 32) where
  pub none_twice : rest w i ≡ 0 → false ≡ some_clear w (clear_from w i + 1)
  none_twice z = rw (← none_clear w i hw hi z) (sym (le-ltb (clear_from w 33) 32 (omega (arith, clear_past w 33 (omega arith)))))

  pub twice : (rest w i ≡ 0 → ⊥) → not (eqb (bit_and (rest w i) (rest w i - 1)) 0) ≡ some_clear w (clear_from w i + 1)
  twice f =
      let p = pos_of_ne-zero f in
      let l = rest_lt w hw i in
      other_one (rest w i) l p
      ∙ ap (ltb 1) (shr-shr (2 ^ 32 - 1 - w) i (count_trailing_zeros 32 (rest w i)))
      ∙ after_bit w hw (i + count_trailing_zeros 32 (rest w i)) (clear_lt w i hw hi p l)
      ∙ ap (λ (x : ℕ). some_clear w (x + 1)) (some_clear_lem w i hw hi p l)

-- a clear bit is looked for in the word's own bits
pub some_below : (w i : ℕ) → some_clear w i ≡ true → i < 32
some_below w i e = go (le_or_lt 32 i)
  where
    go : (32 ≤ i) ⊎ (i < 32) → i < 32
    go (inl l) = absurd (omega (arith, ltb-true (clear_from w i) 32 e, clear_past w i l))
    go (inr l) = l
