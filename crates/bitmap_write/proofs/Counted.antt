-- A word of the level above, from all ones, over the words that there are: one more word passed keeps the bit or clears it.
use mathlib.Core.Path.{◌≡◌, sym, ap, ◌∙◌}
use mathlib.Core.Logic.{◌⊎◌, inl, inr}
use mathlib.Core.List.{List}
use Prim.Native.Nat.{ℕ, ◌+◌, ◌-◌, ◌^◌, ◌≤◌, ◌<◌}
use native.Mathlib.Omega.{arith}
use Rattle.basics.proofs.Order.{le_or_lt, same_or_not}
use Rattle.words.proofs.Word.{one_of-not_zero}
use Rattle.bitmap_write.specs.Rebuild.{word_from, full_bit}
use Rattle.bitmap_write.proofs.Packed.{full_both, full_past, full_lt, word_alike, word_same, word_ones, word_less}

module _ (ws : List ℕ) (b : ℕ) where
  -- the word of the bits from bit b on, with k words passed
  abbrev pub passed : ℕ → ℕ
  passed k = word_from (full_bit ws k) 32 b

  -- no word passed yet: all ones
  pub passed_none : 2 ^ 32 - 1 ≡ passed b
  passed_none = sym (word_ones (full_bit ws b) 32 b (λ i l. full_past ws b i l))

  module _ (m k : ℕ) (h : k < m) where
    -- the bits but for bit k are as they were
    elsewhere : (i : ℕ) → (i ≡ k → ⊥) → full_bit ws k i ≡ full_bit ws (k + 1) i
    elsewhere i f = go (le_or_lt (k + 1) i) (le_or_lt k i)
      where
        go : (k + 1 ≤ i) ⊎ (i < k + 1) → (k ≤ i) ⊎ (i < k) → full_bit ws k i ≡ full_bit ws (k + 1) i
        go (inl l) q = full_past ws k i (omega arith) ∙ sym (full_past ws (k + 1) i l)
        go (inr l) (inl q) = absurd (f (omega arith))
        go (inr l) (inr q) = full_both ws k (k + 1) i q l

    here : full_bit ws (k + 1) k ≡ full_bit ws m k
    here = full_both ws (k + 1) m k (omega arith) h

    -- word k is full: its bit is kept
    passed_full : full_bit ws m k ≡ 1 → passed k ≡ passed (k + 1)
    passed_full e = word_same (full_bit ws k) (full_bit ws (k + 1)) same 32 b
      where
        same : (i : ℕ) → full_bit ws k i ≡ full_bit ws (k + 1) i
        same i = go (same_or_not i k)
          where
            go : (i ≡ k) ⊎ (i ≡ k → ⊥) → full_bit ws k i ≡ full_bit ws (k + 1) i
            go (inl q) = rw q (full_past ws k k (omega arith) ∙ sym (here ∙ e))
            go (inr f) = elsewhere i f

    -- word k is not full: its bit is cleared
    passed_less : full_bit ws m k ≡ 0 → b ≤ k → k < b + 32 → passed k ≡ passed (k + 1) + 2 ^ (k - b)
    passed_less e l q = word_less (full_bit ws k) (full_bit ws (k + 1)) k 32 b (full_past ws k k (omega arith)) (here ∙ e) elsewhere l q

  -- one more word
  module _ (m i w : ℕ) (h : b + i < m) (at : w ≡ passed (b + i)) where
    pub turn_full : (full_bit ws m (b + i) ≡ 0 → ⊥) → w ≡ passed (b + (i + 1))
    turn_full f = at ∙ passed_full m (b + i) h (one_of-not_zero (full_bit ws m (b + i)) (full_lt ws m (b + i)) f) ∙ ap passed (omega arith)

    pub turn_less : full_bit ws m (b + i) ≡ 0 → i < 32 → w ≡ passed (b + (i + 1)) + 2 ^ i
    turn_less e l =
        let q : b + i + 1 ≡ b + (i + 1) = omega arith in
        let d : b + i - b ≡ i = omega arith in
        at ∙ passed_less m (b + i) h e (omega arith) (omega arith) ∙ rw (q, d)

  -- all words that there are passed, or all that this word has bits of
  pub passed_all : (m k : ℕ) → b ≤ k → k ≤ m → (k ≡ m) ⊎ (b + 32 ≤ k) → passed k ≡ passed m
  passed_all m k l h (inl e) = ap passed e
  passed_all m k l h (inr q) = word_alike (full_bit ws k) (full_bit ws m) 32 b (λ i a c. full_both ws k m i (omega arith) (omega arith))
