-- What is written depends on the tree's own words, and leaves what stands behind them as it was: writing a tree at the head of xs ++ ys
-- is writing it at the head of xs.
use mathlib.Core.Path.{◌≡◌, refl, sym, ap, ◌∙◌}
use mathlib.Core.Logic.{◌⊎◌, inl, inr}
use mathlib.Core.List.{List, ◌++◌, append_assoc}
use Prim.Native.Nat.{ℕ, zero, suc, ◌+◌, ◌-◌, ◌/◌, ◌%◌, ◌^◌, ◌≤◌, ◌<◌}
use native.Mathlib.Omega.{arith}
use lib.Bits.{bit_or}
use lib.ListN.{length, get_or, set, take, drop, replicate, get_or-append}
use lib.Seq.{take-append-le, drop-append-le, set-append_left}
use Rattle.basics.proofs.Order.{same_or_not}
use Rattle.words.specs.Levels.{words_for, tree_words}
use Rattle.words.proofs.Trees.{words_in, part_word}
use Rattle.bitmap_write.specs.Rebuild.{packed, full_bit, summed, rebuilt}
use Rattle.bitmap_write.specs.Completed.{padded, completed, cleared, copied, fresh, adopted}
use Rattle.bitmap_write.proofs.Packed.{full_same, packed_same}
use Rattle.bitmap_write.proofs.Summed.{length-summed}
use Rattle.bitmap_write.proofs.Rebuilt.{length-behind}
use Rattle.bitmap_write.proofs.Completed.{padded_whole, padded_part, length-padded}
use Rattle.bitmap_write.proofs.Copied.{length-cleared, length-copied}

module _ (ys : List ℕ) where
  summed_append : (m : ℕ) (xs : List ℕ) → m + words_for m ≤ length xs → summed (xs ++ ys) m ≡ summed xs m ++ ys
  unfolding summed
  summed_append m xs h =
      let u : packed (full_bit (xs ++ ys) m) (words_for m) 0 ≡ packed (full_bit xs m) (words_for m) 0 =
      packed_same (full_bit (xs ++ ys) m) (full_bit xs m) (λ k. full_same (xs ++ ys) xs m k (λ i l. get_or-append xs ys 0 i (omega arith))) (words_for m) 0 in
      rw (u, take-append-le m xs ys (omega arith), drop-append-le (m + words_for m) xs ys h)
      (sym (append_assoc (take m xs ++ take (words_for m) (packed (full_bit xs m) (words_for m) 0)) (drop (m + words_for m) xs) ys))

  pub rebuilt_append : (a n : ℕ) (xs : List ℕ) → tree_words a n ≤ length xs → rebuilt a n (xs ++ ys) ≡ rebuilt a n xs ++ ys
  unfolding rebuilt
  rebuilt_append zero n xs h = refl
  rebuilt_append (suc a) n xs h =
      let inside : words_for n + words_for (words_for n) ≤ length xs = omega (arith, words_in a (words_for n)) in
      let l = length-behind (words_for n) xs inside in
      let s = length-summed xs (words_for n) inside in
      rw (
        take-append-le (words_for n) xs ys (omega arith),
        summed_append (words_for n) xs inside,
        drop-append-le (words_for n) (summed xs (words_for n)) ys (omega arith),
        rebuilt_append a (words_for n) (drop (words_for n) (summed xs (words_for n))) (omega arith),
      )
      (sym (append_assoc (take (words_for n) xs) (rebuilt a (words_for n) (drop (words_for n) (summed xs (words_for n)))) ys))

  pub padded_append : (n : ℕ) (xs : List ℕ) → words_for n ≤ length xs → padded n (xs ++ ys) ≡ padded n xs ++ ys
  padded_append n xs h = go (same_or_not (n % 32) 0)
    where
      go : (n % 32 ≡ 0) ⊎ (n % 32 ≡ 0 → ⊥) → padded n (xs ++ ys) ≡ padded n xs ++ ys
      go (inl e) = padded_whole n (xs ++ ys) e ∙ ap (λ (l : List ℕ). l ++ ys) (sym (padded_whole n xs e))
      go (inr f) =
          let l : n / 32 < length xs = omega (arith, part_word n f) in
          sym (padded_part n (xs ++ ys) f)
          ∙ ap (λ (w : ℕ). set (xs ++ ys) (n / 32) (bit_or w (2 ^ 32 - 2 ^ (n % 32)))) (get_or-append xs ys 0 (n / 32) l)
          ∙ set-append_left xs ys (n / 32) (bit_or (get_or xs (n / 32) 0) (2 ^ 32 - 2 ^ (n % 32))) l
          ∙ ap (λ (l : List ℕ). l ++ ys) (padded_part n xs f)

  pub completed_append : (a n : ℕ) (xs : List ℕ) → tree_words a n ≤ length xs → completed a n (xs ++ ys) ≡ completed a n xs ++ ys
  unfolding completed
  completed_append a n xs h =
      ap (rebuilt a n) (padded_append n xs (omega (arith, words_in a n))) ∙ rebuilt_append a n (padded n xs) (omega (arith, length-padded n xs))

  pub fresh_append : (a n : ℕ) (xs : List ℕ) → tree_words a n ≤ length xs → fresh a n (xs ++ ys) ≡ fresh a n xs ++ ys
  unfolding fresh cleared
  fresh_append a n xs h =
      let w : words_for n ≤ length xs = omega (arith, words_in a n) in
      ap (completed a n) (rw (drop-append-le (words_for n) xs ys w) (sym (append_assoc (replicate (words_for n) 0) (drop (words_for n) xs) ys)))
      ∙ completed_append a n (cleared (words_for n) xs) (omega (arith, length-cleared (words_for n) xs w))

  pub adopted_append : (a n : ℕ) (marks xs : List ℕ) → words_for n ≤ length marks → tree_words a n ≤ length xs → adopted a n marks (xs ++ ys) ≡ adopted a n marks xs ++ ys
  unfolding adopted copied
  adopted_append a n marks xs there h =
      let w : words_for n ≤ length xs = omega (arith, words_in a n) in
      ap (completed a n) (rw (drop-append-le (words_for n) xs ys w) (sym (append_assoc (take (words_for n) marks) (drop (words_for n) xs) ys)))
      ∙ completed_append a n (copied (words_for n) marks xs) (omega (arith, length-copied (words_for n) marks xs there w))
