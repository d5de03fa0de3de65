-- Level 0 cleared, or copied from elsewhere, and the tree over it: its bits, that it is one, and its length.
use mathlib.Core.Path.{◌≡◌, refl, sym, ap, ap₂, ◌∙◌}
use mathlib.Core.List.{List, ◌∷◌, ◌++◌}
use Prim.Native.Nat.{ℕ, zero, suc, ◌*◌, ◌/◌, ◌%◌, ◌≤◌, ◌<◌}
use native.Mathlib.Omega.{arith}
use lib.ListN.{length, get_or, take, drop, replicate, length-append, length-drop, length-replicate, get_or-replicate, get_or-append}
use lib.Seq.{take_all, get_or-take, length-take-le}
use Rattle.words.specs.Bits.{bit_of, bit_at}
use Rattle.words.specs.Levels.{words_for, tree_words, Height}
use Rattle.words.specs.Tree.{Tree}
use Rattle.words.proofs.Word.{bit_zero}
use Rattle.words.proofs.Lists.{bit_split, bits_same}
use Rattle.words.proofs.Trees.{words_in}
use Rattle.bitmap_write.specs.Rebuild.{packed}
use Rattle.bitmap_write.specs.Completed.{completed, cleared, copied, fresh, adopted}
use Rattle.bitmap_write.proofs.Packed.{word_zeros}
use Rattle.bitmap_write.proofs.Completed.{completed_tree, completed_bit, length-completed}

-- ---- cleared

pub length-cleared : (m : ℕ) (ws : List ℕ) → m ≤ length ws → length (cleared m ws) ≡ length ws
unfolding cleared
length-cleared m ws h = length-append (replicate m 0) (drop m ws) ∙ omega (arith, length-replicate {A = ℕ} m 0, length-drop m ws)

cleared_word : (m : ℕ) (ws : List ℕ) (i : ℕ) → i < m → get_or (cleared m ws) i 0 ≡ 0
unfolding cleared
cleared_word m ws i h = get_or-append (replicate m 0) (drop m ws) 0 i (omega (arith, length-replicate {A = ℕ} m 0)) ∙ get_or-replicate m i 0 0 h

pub cleared_bit : (m : ℕ) (ws : List ℕ) (k : ℕ) → k / 32 < m → bit_at (cleared m ws) k ≡ 0
cleared_bit m ws k h = bit_split (cleared m ws) k ∙ ap (λ (x : ℕ). bit_of x (k % 32)) (cleared_word m ws (k / 32) h) ∙ bit_zero (k % 32)

module _ (a n : ℕ) (ws : List ℕ) (room : tree_words a n ≤ length ws) where
  clear_room : tree_words a n ≤ length (cleared (words_for n) ws)
  clear_room = omega (arith, length-cleared (words_for n) ws (omega (arith, words_in a n)))

  pub fresh_tree : Height a n → Tree a n (fresh a n ws)
  unfolding fresh
  fresh_tree h = completed_tree a n (cleared (words_for n) ws) clear_room h

  -- every block is free
  pub fresh_bit : (k : ℕ) → k < n → bit_at (fresh a n ws) k ≡ 0
  unfolding fresh
  fresh_bit k h =
      completed_bit a n (cleared (words_for n) ws) clear_room k h ∙ cleared_bit (words_for n) ws k (omega arith)

  pub length-fresh : length (fresh a n ws) ≡ length ws
  unfolding fresh
  length-fresh = length-completed a n (cleared (words_for n) ws) clear_room ∙ length-cleared (words_for n) ws (omega (arith, words_in a n))

-- ---- copied

module _ (m : ℕ) (vs ws : List ℕ) (there : m ≤ length vs) (here : m ≤ length ws) where
  pub length-copied : length (copied m vs ws) ≡ length ws
  unfolding copied
  length-copied = length-append (take m vs) (drop m ws) ∙ omega (arith, length-take-le m vs there, length-drop m ws)

  copied_word : (i : ℕ) → i < m → get_or (copied m vs ws) i 0 ≡ get_or vs i 0
  unfolding copied
  copied_word i h = get_or-append (take m vs) (drop m ws) 0 i (omega (arith, length-take-le m vs there)) ∙ get_or-take m vs i 0 h

module _ (a n : ℕ) (marks ws : List ℕ) (there : words_for n ≤ length marks) (room : tree_words a n ≤ length ws) where
  copy_room : tree_words a n ≤ length (copied (words_for n) marks ws)
  copy_room = omega (arith, length-copied (words_for n) marks ws there (omega (arith, words_in a n)))

  pub adopted_tree : Height a n → Tree a n (adopted a n marks ws)
  unfolding adopted
  adopted_tree h = completed_tree a n (copied (words_for n) marks ws) copy_room h

  -- a block's bit is its mark
  pub adopted_bit : (k : ℕ) → k < n → bit_at (adopted a n marks ws) k ≡ bit_at marks k
  unfolding adopted
  adopted_bit k h =
      completed_bit a n (copied (words_for n) marks ws) copy_room k h
      ∙ bits_same (copied (words_for n) marks ws) marks k (copied_word (words_for n) marks ws there (omega (arith, words_in a n)) (k / 32) (omega arith))

  pub length-adopted : length (adopted a n marks ws) ≡ length ws
  unfolding adopted
  length-adopted = length-completed a n (copied (words_for n) marks ws) copy_room ∙ length-copied (words_for n) marks ws there (omega (arith, words_in a n))

-- ---- marks of which none is set: the tree is a fresh one

packed_zeros : (bit : ℕ → ℕ) → ((k : ℕ) → bit k ≡ 0) → (c j : ℕ) → packed bit c j ≡ replicate c 0
unfolding packed
packed_zeros bit f zero j = refl
packed_zeros bit f (suc c) j = ap₂ (λ (w : ℕ) (l : List ℕ). w ∷ l) (word_zeros bit 32 (j * 32) (λ i h. f i)) (packed_zeros bit f c (suc j))

pub adopted_none : (bit : ℕ → ℕ) → ((k : ℕ) → bit k ≡ 0) → (a n : ℕ) (ws : List ℕ) → fresh a n ws ≡ adopted a n (packed bit (words_for n) 0) ws
unfolding fresh adopted cleared copied
adopted_none bit f a n ws =
    let e = length-replicate {A = ℕ} (words_for n) 0 in
    ap (λ (l : List ℕ). completed a n (l ++ drop (words_for n) ws)) (sym (ap (take (words_for n)) (packed_zeros bit f (words_for n) 0) ∙ take_all (words_for n) (replicate (words_for n) 0) (omega arith)))
