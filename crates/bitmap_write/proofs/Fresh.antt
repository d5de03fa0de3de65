-- A fresh tree level by level: words of zeros, their bits past the end set, sum up to words of zeros likewise.
use mathlib.Core.Path.{◌≡◌, refl, sym, ap, ap₂, ◌∙◌}
use mathlib.Core.Logic.{◌⊎◌, inl, inr}
use mathlib.Core.List.{List, ◌∷◌, ◌++◌}
use Prim.Native.Nat.{ℕ, zero, suc, ◌+◌, ◌-◌, ◌*◌, ◌/◌, ◌%◌, ◌^◌, ◌≤◌, ◌<◌}
use native.Mathlib.Nat.{not-suc-le-zero}
use native.Mathlib.Omega.{arith}
use lib.Bits.{bit_or, or_zero_l}
use lib.ListN.{length, get_or, set, take, drop, replicate, length-replicate, get_or-replicate}
use lib.Seq.{ext_get_or, get_or-set_same, set_split, drop_at, drop-drop}
use borrow.Author.Tests.{ne_eqb}
use Rattle.basics.proofs.Order.{le_or_lt, same_or_not}
use Rattle.basics.proofs.Parts.{tail_part, put_tail}
use Rattle.words.specs.Bits.{bit_of, bit_at}
use Rattle.words.specs.Levels.{words_for, tree_words}
use Rattle.words.specs.Tree.{all_ones}
use Rattle.words.proofs.Word.{ones_set}
use Rattle.words.proofs.Lists.{bit_in}
use Rattle.words.proofs.Trees.{words_in, part_word}
use Rattle.bitmap_write.specs.Rebuild.{word_from, packed, full_bit, summed, rebuilt}
use Rattle.bitmap_write.specs.Completed.{padded, completed, cleared, fresh}
use Rattle.bitmap_write.proofs.Packed.{full_not, full_past, word_zeros, word_tail, length-packed, packed_at}
use Rattle.bitmap_write.proofs.Summed.{drop-summed}
use Rattle.bitmap_write.proofs.Completed.{padded_whole, padded_part, padded_bit, other_word, length-padded}
use Rattle.bitmap_write.proofs.Copied.{length-cleared, cleared_bit}
use Rattle.bitmap_write.proofs.Local.{padded_append}

-- ---- m bits that are 0, and 1 past the end, packed

module _ (m : ℕ) (bit : ℕ → ℕ) (below : (i : ℕ) → i < m → bit i ≡ 0) (from : (i : ℕ) → m ≤ i → bit i ≡ 1) where
  zeros_word : (j : ℕ) → j < words_for m → word_from bit 32 ((0 + j) * 32) ≡ get_or (padded m (replicate (words_for m) 0)) j 0
  zeros_word j h = go (same_or_not (m % 32) 0) (le_or_lt (m / 32) j)
    where
      zero_word : (j + 1) * 32 ≤ m → word_from bit 32 ((0 + j) * 32) ≡ 0
      zero_word l = word_zeros bit 32 ((0 + j) * 32) (λ i k. below i (omega arith))

      at : get_or {A = ℕ} (replicate (words_for m) 0) j 0 ≡ 0
      at = get_or-replicate (words_for m) j 0 0 h

      go : (m % 32 ≡ 0) ⊎ (m % 32 ≡ 0 → ⊥) → (m / 32 ≤ j) ⊎ (j < m / 32) → word_from bit 32 ((0 + j) * 32) ≡ get_or (padded m (replicate (words_for m) 0)) j 0
      go (inl e) q = rw (padded_whole m (replicate (words_for m) 0) e) (zero_word (omega arith) ∙ sym at)
      go (inr f) (inr l) = zero_word (omega arith) ∙ sym (other_word m (replicate (words_for m) 0) j (λ e. omega arith) ∙ at)
      go (inr f) (inl q) =
          let e : j ≡ m / 32 = omega arith in
          let l : m / 32 < length {A = ℕ} (replicate (words_for m) 0) = omega (arith, part_word m f, length-replicate {A = ℕ} (words_for m) 0) in
          let d : m - (0 + j) * 32 ≡ m % 32 = omega arith in
          word_tail bit 32 ((0 + j) * 32) m (omega arith) (omega arith) below from
          ∙ rw d (sym (ap (λ (x : ℕ). get_or (padded m (replicate (words_for m) 0)) x 0) e
          ∙ ap (λ (x : List ℕ). get_or x (m / 32) 0) (sym (padded_part m (replicate (words_for m) 0) f))
          ∙ get_or-set_same (replicate (words_for m) 0) (m / 32) (bit_or (get_or (replicate (words_for m) 0) (m / 32) 0) (2 ^ 32 - 2 ^ (m % 32))) 0 l
          ∙ ap (λ (x : ℕ). bit_or x (2 ^ 32 - 2 ^ (m % 32))) (get_or-replicate (words_for m) (m / 32) 0 0 (part_word m f))))

  zeros_packed : packed bit (words_for m) 0 ≡ padded m (replicate (words_for m) 0)
  zeros_packed =
      ext_get_or 0 (packed bit (words_for m) 0) (padded m (replicate (words_for m) 0))
      (length-packed bit (words_for m) 0 ∙ sym (length-padded m (replicate (words_for m) 0) ∙ length-replicate (words_for m) 0))
      (λ j h. let l : j < words_for m = omega (arith, length-packed bit (words_for m) 0) in packed_at bit (words_for m) 0 j l ∙ zeros_word j l)

-- ---- a level of n zeros, and the one above it

-- what stands behind it is as it was
behind_level : (n : ℕ) (ws : List ℕ) → drop (words_for n) (padded n (cleared (words_for n) ws)) ≡ drop (words_for n) ws
unfolding cleared
behind_level n ws =
    ap (drop (words_for n)) (padded_append (drop (words_for n) ws) n (replicate (words_for n) 0) (omega (arith, length-replicate {A = ℕ} (words_for n) 0)))
    ∙ drop_at (padded n (replicate (words_for n) 0)) (drop (words_for n) ws) (words_for n) (length-padded n (replicate (words_for n) 0) ∙ length-replicate (words_for n) 0)

module _ (n : ℕ) (ws : List ℕ) (inside : words_for n + words_for (words_for n) ≤ length ws) where
  abbrev pub level : List ℕ
  level = padded n (cleared (words_for n) ws)

  -- no word of the level is all ones: its first bit is 0
  not_full : (i : ℕ) → i < words_for n → get_or level i 0 ≡ all_ones → ⊥
  not_full i h e =
      let a : bit_at level (i * 32 + 0) ≡ 1 = bit_in level i 0 (omega arith) ∙ ap (λ (x : ℕ). bit_of x 0) e ∙ ones_set 0 (omega arith) in
      let l = length-cleared (words_for n) ws (omega arith) in
      let z = padded_bit n (cleared (words_for n) ws) (omega arith) (i * 32 + 0) (omega arith) ∙ cleared_bit (words_for n) ws (i * 32 + 0) (omega arith) in
      omega arith

  -- the level above, written behind it
  pub above_level : drop (words_for n) (summed level (words_for n)) ≡ padded (words_for n) (cleared (words_for (words_for n)) (drop (words_for n) ws))
  unfolding cleared
  above_level =
      let m = words_for n in
      let l : length level ≡ length ws = length-padded n (cleared (words_for n) ws) ∙ length-cleared (words_for n) ws (omega arith) in
      drop-summed level (words_for n) (omega arith)
      ∙ ap (λ (x : List ℕ). x ++ drop (words_for n + words_for (words_for n)) level)
      (zeros_packed (words_for n) (full_bit level (words_for n)) (λ i h. full_not level (words_for n) i h (ne_eqb (get_or level i 0) all_ones (not_full i h))) (λ i h. full_past level (words_for n) i h))
      ∙ ap (λ (x : List ℕ). padded (words_for n) (replicate (words_for (words_for n)) 0) ++ x) rest
      ∙ sym (padded_append (drop (words_for (words_for n)) (drop (words_for n) ws)) (words_for n) (replicate (words_for (words_for n)) 0) (omega (arith, length-replicate {A = ℕ} (words_for (words_for n)) 0)))
    where
      rest : drop (words_for n + words_for (words_for n)) level ≡ drop (words_for (words_for n)) (drop (words_for n) ws)
      rest = sym (drop-drop (words_for (words_for n)) (words_for n) level) ∙ ap (drop (words_for (words_for n))) (behind_level n ws)

-- ---- the tree

pub fresh_none : (a n : ℕ) (ws : List ℕ) → a ≡ 0 → padded n (cleared (words_for n) ws) ≡ fresh a n ws
unfolding fresh completed rebuilt
fresh_none zero n ws e = refl
fresh_none (suc a) n ws e = absurd (omega arith)

pub fresh_more : (a n : ℕ) (ws : List ℕ) → 0 < a → tree_words a n ≤ length ws
    → take (words_for n) (padded n (cleared (words_for n) ws)) ++ fresh (a - 1) (words_for n) (drop (words_for n) ws) ≡ fresh a n ws
unfolding fresh completed rebuilt
fresh_more zero n ws h room = absurd (not-suc-le-zero h)
fresh_more (suc a) n ws h room =
    let e : suc a - 1 ≡ a = omega arith in
    rw e (ap (λ (x : List ℕ). take (words_for n) (padded n (cleared (words_for n) ws)) ++ rebuilt a (words_for n) x) (sym (above_level n ws (omega (arith, words_in a (words_for n))))))

-- what the code leaves, from the words it counted and what its calls left
pub fresh_put : (a n words : ℕ) (ws xs ys : List ℕ) → 0 < a → words ≡ words_for n → tree_words a n ≤ length ws → xs ≡ padded n (cleared words ws)
    → ys ≡ fresh (a - 1) words (take (length xs - words) (drop words xs)) → take words xs ++ (ys ++ drop (length xs - words) (drop words xs)) ≡ fresh a n ws
fresh_put a n words ws xs ys h w room e f =
    put_tail words xs ys
    ∙ ap (λ (l : List ℕ). take words xs ++ l) (f ∙ ap (λ (l : List ℕ). fresh (a - 1) words l) (tail_part words xs))
    ∙ ap (λ (l : List ℕ). take words l ++ fresh (a - 1) words (drop words l)) e
    ∙ ap (λ (m : ℕ). take m (padded n (cleared m ws)) ++ fresh (a - 1) m (drop m (padded n (cleared m ws)))) w
    ∙ ap (λ (l : List ℕ). take (words_for n) (padded n (cleared (words_for n) ws)) ++ fresh (a - 1) (words_for n) l) (behind_level n ws)
    ∙ fresh_more a n ws h room

-- ---- a level of one word

one_word : (m : ℕ) → 1 ≤ m → m ≤ 32 → words_for m ≡ 1
one_word m l h = go (same_or_not (m % 32) 0)
  where
    go : (m % 32 ≡ 0) ⊎ (m % 32 ≡ 0 → ⊥) → words_for m ≡ 1
    go (inl e) = omega arith
    go (inr f) = omega (arith, part_word m f)

module _ (m : ℕ) (ws : List ℕ) (l : 1 ≤ m) (h : m ≤ 32) (room : words_for m ≤ length ws) where
  pub one_inside : 0 < length ws
  one_inside = omega (arith, one_word m l h)

  -- its word is 0, with its bits past the end set
  pub one_level : set ws 0 (2 ^ 32 - 2 ^ m) ≡ padded m (cleared (words_for m) ws)
  unfolding cleared
  one_level = set_split ws 0 (2 ^ 32 - 2 ^ m) one_inside ∙ sym (ap (λ (k : ℕ). padded m (cleared k ws)) (one_word m l h) ∙ go (same_or_not (m % 32) 0))
    where
      go : (m % 32 ≡ 0) ⊎ (m % 32 ≡ 0 → ⊥) → padded m (0 ∷ drop 1 ws) ≡ (2 ^ 32 - 2 ^ m) ∷ drop 1 ws
      go (inl e) =
          let q : m ≡ 32 = omega arith in
          padded_whole m (0 ∷ drop 1 ws) e ∙ ap (λ (k : ℕ). (2 ^ 32 - 2 ^ k) ∷ drop 1 ws) (sym q)
      go (inr f) =
          let q : m / 32 ≡ 0 = omega arith in
          let r : m % 32 ≡ m = omega arith in
          sym (padded_part m (0 ∷ drop 1 ws) f)
          ∙ ap₂ (λ (i k : ℕ). set (0 ∷ drop 1 ws) i (bit_or (get_or (0 ∷ drop 1 ws) i 0) (2 ^ 32 - 2 ^ k))) q r
          ∙ ap (λ (w : ℕ). w ∷ drop 1 ws) (or_zero_l (2 ^ 32 - 2 ^ m))

-- the level above the last but one: what the code leaves, as `fresh-put`
pub fresh_last : (a n words : ℕ) (ws xs ys : List ℕ) → a ≡ 1 → words ≡ words_for n → tree_words a n ≤ length ws → xs ≡ padded n (cleared words ws)
    → ys ≡ padded words (cleared (words_for words) (take (length xs - words) (drop words xs))) → take words xs ++ (ys ++ drop (length xs - words) (drop words xs)) ≡ fresh a n ws
fresh_last a n words ws xs ys o w room e f = fresh_put a n words ws xs ys (omega arith) w room e (f ∙ fresh_none (a - 1) words (take (length xs - words) (drop words xs)) (omega arith))
