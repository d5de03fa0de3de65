-- The steps of the search as facts on one level of n bits, whatever n is.
use Rattle.std.specs.Prelude.{Ok, Some, None}
use mathlib.Core.Path.{◌≡◌, ◌∙◌}
use mathlib.Core.List.{List}
use Prim.Native.Nat.{ℕ, ◌+◌, ◌*◌, ◌^◌, ◌≤◌, ◌<◌}
use native.Mathlib.Nat.{lt_of_not-le}
use native.Mathlib.Omega.{arith}
use lib.ListN.{get_or}
use Rattle.words.specs.Bits.{bit_at, clear_from}
use Rattle.words.specs.Levels.{words_for}
use Rattle.words.specs.Tree.{all_ones, Level, Sums}
use Rattle.words.proofs.FirstZero.{NoZero, none_join}
use Rattle.words.proofs.Clear.{FirstClear, clear_first, none_clear_ones}
use Rattle.words.proofs.Word.{one_of-not_zero}
use Rattle.words.proofs.Lists.{bit_in, at_lt, none_in_word, none_in_words}
use Rattle.bitmap_search.proofs.Scan.{IsNext}

module _ (ws : List ℕ) (n : ℕ) (lv : Level n ws) where
  -- a free bit of the level's words is one of its n
  pub within : (k : ℕ) → k < words_for n * 32 → bit_at ws k ≡ 0 → k < n
  within k h z = lt_of_not-le (λ l. let e = lv.past k l h in omega arith)

  -- the pointer stands past the level's words
  pub past_words : (word bit : ℕ) → words_for n ≤ word → IsNext (bit_at ws) n (word * 32 + bit) (Ok None)
  past_words word bit l j p h z = omega arith

  module _ (word bit : ℕ) (small : bit < 32) where
    first : FirstClear (get_or ws word 0) bit (clear_from (get_or ws word 0) bit)
    first = clear_first (get_or ws word 0) bit (omega arith)

    -- a clear bit in the pointer's word
    pub in_word_lem : word < words_for n → clear_from (get_or ws word 0) bit < 32
        → IsNext (bit_at ws) n (word * 32 + bit) (Ok (Some (word * 32 + clear_from (get_or ws word 0) bit)))
    in_word_lem h l =
        let z : bit_at ws (word * 32 + clear_from (get_or ws word 0) bit) ≡ 0 = bit_in ws word (clear_from (get_or ws word 0) bit) l ∙ first.clear l in (
          omega (arith, first.from),
          within (word * 32 + clear_from (get_or ws word 0) bit) (omega arith) z,
          z,
          none_in_word ws word bit (clear_from (get_or ws word 0) bit) first,
        )

    -- no clear bit in the pointer's word, from its bit on
    module _ (full : 32 ≤ clear_from (get_or ws word 0) bit) where
      rest_full : NoZero (bit_at ws) (word * 32 + bit) (word * 32 + 32)
      rest_full k l h z = none_in_word ws word bit (clear_from (get_or ws word 0) bit) first k l (omega arith) z

      -- a level of one word has no other
      pub one_word : n ≤ 32 → IsNext (bit_at ws) n (word * 32 + bit) (Ok None)
      one_word h k l m z = rest_full k l (omega arith) z

      module _ (us : List ℕ) (sums : Sums (words_for n) ws us) where
        -- a summary bit that is not 0 stands for a word of ones
        ones : (j : ℕ) → j < words_for n → (bit_at us j ≡ 0 → ⊥) → get_or ws j 0 ≡ all_ones
        ones j h f = sums.only j h (one_of-not_zero (bit_at us j) (at_lt us j) f)

        -- where no summary bit of a later word is 0, nothing is free
        pub none_above : IsNext (bit_at us) (words_for n) (word + 1) (Ok None) → IsNext (bit_at ws) n (word * 32 + bit) (Ok None)
        none_above up j l h z =
            none_join (bit_at ws) (word * 32 + bit) (word * 32 + 32) (words_for n * 32)
            rest_full
            (λ k p q. none_in_words ws (word + 1) (words_for n) (λ i a b. ones i b (up i a b)) k (omega arith) q)
            j l (omega arith) z

        module _ (fits : (i : ℕ) → get_or ws i 0 < 2 ^ 32) (k : ℕ) (up : IsNext (bit_at us) (words_for n) (word + 1) (Ok (Some k))) where
          -- the word of the next summary bit that is 0 has a clear bit
          pub below_lt : clear_from (get_or ws k 0) 0 < 32
          below_lt = lt_of_not-le (λ l. let e = sums.full k up.1 (none_clear_ones (get_or ws k 0) (fits k) l) in omega (arith, up.2))

          -- that clear bit is the next free one
          pub found_above : IsNext (bit_at ws) n (word * 32 + bit) (Ok (Some (k * 32 + clear_from (get_or ws k 0) 0)))
          found_above =
              let g = clear_first (get_or ws k 0) 0 (omega arith) in
              let z : bit_at ws (k * 32 + clear_from (get_or ws k 0) 0) ≡ 0 = bit_in ws k (clear_from (get_or ws k 0) 0) below_lt ∙ g.clear below_lt in (
                omega (arith, up.0),
                within (k * 32 + clear_from (get_or ws k 0) 0) (omega (arith, up.1, below_lt)) z,
                z,
                none_join (bit_at ws) (word * 32 + bit) (word * 32 + 32) (k * 32 + clear_from (get_or ws k 0) 0)
                    rest_full
                    (none_join (bit_at ws) (word * 32 + 32) (k * 32) (k * 32 + clear_from (get_or ws k 0) 0)
                    (λ j p q. none_in_words ws (word + 1) k (λ i a c. ones i (omega (arith, up.1)) (up.3 i a c)) j (omega arith) q)
                    (λ j p q. none_in_word ws k 0 (clear_from (get_or ws k 0) 0) g j (omega arith) q)),
              )
