-- A level made a tree: what its bits are, and that it is one.
use mathlib.Core.Path.{◌≡◌, sym, ap, ◌∙◌}
use mathlib.Core.Logic.{◌⊎◌, inl, inr}
use mathlib.Core.List.{List}
use Prim.Native.Nat.{ℕ, ◌-◌, ◌*◌, ◌/◌, ◌%◌, ◌^◌, ◌≤◌, ◌<◌, max}
use native.Mathlib.Omega.{arith}
use lib.Bits.{bit_or}
use lib.ListN.{length, get_or, set, length-set}
use lib.Seq.{get_or-set_same, get_or-set_other}
use borrow.Author.Tests.{eq-eqb, ne_eqb}
use Rattle.basics.proofs.Order.{same_or_not}
use Rattle.words.specs.Bits.{bit_of, bit_at}
use Rattle.words.specs.Levels.{words_for, tree_words, Height}
use Rattle.words.specs.Tree.{Level, Tree}
use Rattle.words.proofs.Word.{bit_lt, ones_at, ones_below, or_bit}
use Rattle.words.proofs.Lists.{bit_split, bits_same}
use Rattle.words.proofs.Trees.{words_in, part_word}
use Rattle.bitmap_write.specs.Completed.{padded, completed}
use Rattle.bitmap_write.proofs.Rebuilt.{level_kept, length-rebuilt, rebuilt_tree}

-- ---- padding

pub padded_whole : (n : ℕ) (ws : List ℕ) → n % 32 ≡ 0 → padded n ws ≡ ws
unfolding padded
padded_whole n ws e = rw (eq-eqb (n % 32) 0 e)

pub padded_part : (n : ℕ) (ws : List ℕ) → (n % 32 ≡ 0 → ⊥) → set ws (n / 32) (bit_or (get_or ws (n / 32) 0) (2 ^ 32 - 2 ^ (n % 32))) ≡ padded n ws
unfolding padded
padded_part n ws f = rw (ne_eqb (n % 32) 0 f)

pub length-padded : (n : ℕ) (ws : List ℕ) → length (padded n ws) ≡ length ws
length-padded n ws = go (same_or_not (n % 32) 0)
  where
    go : (n % 32 ≡ 0) ⊎ (n % 32 ≡ 0 → ⊥) → length (padded n ws) ≡ length ws
    go (inl e) = ap length (padded_whole n ws e)
    go (inr f) = ap length (sym (padded_part n ws f)) ∙ length-set ws (n / 32) (bit_or (get_or ws (n / 32) 0) (2 ^ 32 - 2 ^ (n % 32)))

-- a word that is not the last is as it was
pub other_word : (n : ℕ) (ws : List ℕ) (j : ℕ) → (j ≡ n / 32 → ⊥) → get_or (padded n ws) j 0 ≡ get_or ws j 0
other_word n ws j g = go (same_or_not (n % 32) 0)
  where
    go : (n % 32 ≡ 0) ⊎ (n % 32 ≡ 0 → ⊥) → get_or (padded n ws) j 0 ≡ get_or ws j 0
    go (inl e) = ap (λ (l : List ℕ). get_or l j 0) (padded_whole n ws e)
    go (inr f) =
        ap (λ (l : List ℕ). get_or l j 0) (sym (padded_part n ws f))
        ∙ get_or-set_other ws (n / 32) j (bit_or (get_or ws (n / 32) 0) (2 ^ 32 - 2 ^ (n % 32))) 0 g

module _ (n : ℕ) (ws : List ℕ) (room : words_for n ≤ length ws) where
  last_word : (n % 32 ≡ 0 → ⊥) → (k : ℕ) → k / 32 ≡ n / 32 → bit_at (padded n ws) k ≡ max (bit_of (get_or ws (n / 32) 0) (k % 32)) (bit_of (2 ^ 32 - 2 ^ (n % 32)) (k % 32))
  last_word f k e =
      bit_split (padded n ws) k
      ∙ ap (λ (x : ℕ). bit_of (get_or (padded n ws) x 0) (k % 32)) e
      ∙ ap (λ (l : List ℕ). bit_of (get_or l (n / 32) 0) (k % 32)) (sym (padded_part n ws f))
      ∙ ap (λ (x : ℕ). bit_of x (k % 32)) (get_or-set_same ws (n / 32) (bit_or (get_or ws (n / 32) 0) (2 ^ 32 - 2 ^ (n % 32))) 0 (omega (arith, part_word n f)))
      ∙ or_bit (get_or ws (n / 32) 0) (2 ^ 32 - 2 ^ (n % 32)) (k % 32)

  -- a bit of the level is as it was
  pub padded_bit : (k : ℕ) → k < n → bit_at (padded n ws) k ≡ bit_at ws k
  padded_bit k h = go (same_or_not (n % 32) 0) (same_or_not (k / 32) (n / 32))
    where
      go : (n % 32 ≡ 0) ⊎ (n % 32 ≡ 0 → ⊥) → (k / 32 ≡ n / 32) ⊎ (k / 32 ≡ n / 32 → ⊥) → bit_at (padded n ws) k ≡ bit_at ws k
      go (inl e) q = ap (λ (l : List ℕ). bit_at l k) (padded_whole n ws e)
      go (inr f) (inl q) =
          let z : bit_of (2 ^ 32 - 2 ^ (n % 32)) (k % 32) ≡ 0 = ones_below (n % 32) (k % 32) (omega arith) (omega arith) in
          last_word f k q ∙ omega arith ∙ ap (λ (x : ℕ). bit_of (get_or ws x 0) (k % 32)) (sym q) ∙ sym (bit_split ws k)
      go (inr f) (inr g) = bits_same (padded n ws) ws k (other_word n ws (k / 32) g)

  pub padded_level : Level n (padded n ws)
  padded_level = record { room = omega (arith, length-padded n ws); past = λ k l h. go k l h (same_or_not (n % 32) 0) }
    where
      same : (k : ℕ) → n ≤ k → k < words_for n * 32 → n / 32 < words_for n → k / 32 ≡ n / 32
      same k l h w = omega arith

      go : (k : ℕ) → n ≤ k → k < words_for n * 32 → (n % 32 ≡ 0) ⊎ (n % 32 ≡ 0 → ⊥) → bit_at (padded n ws) k ≡ 1
      go k l h (inl e) = absurd (omega arith)
      go k l h (inr f) =
          let q : k / 32 ≡ n / 32 = same k l h (part_word n f) in
          let o : bit_of (2 ^ 32 - 2 ^ (n % 32)) (k % 32) ≡ 1 = ones_at (n % 32) (k % 32) (omega arith) (omega arith) (omega arith) in
          last_word f k q ∙ omega (arith, bit_lt (get_or ws (n / 32) 0) (k % 32))

-- ---- a tree over level 0

module _ (a n : ℕ) (ws : List ℕ) (room : tree_words a n ≤ length ws) where
  ready : tree_words a n ≤ length (padded n ws)
  ready = omega (arith, length-padded n ws)

  pub completed_tree : Height a n → Tree a n (completed a n ws)
  unfolding completed
  completed_tree h = rebuilt_tree a n (padded n ws) h (padded_level n ws (omega (arith, words_in a n))) ready

  -- a block's bit is as it was
  pub completed_bit : (k : ℕ) → k < n → bit_at (completed a n ws) k ≡ bit_at ws k
  unfolding completed
  completed_bit k h =
      bits_same (completed a n ws) (padded n ws) k (level_kept a n (padded n ws) ready (k / 32) (omega arith))
      ∙ padded_bit n ws (omega (arith, words_in a n)) k h

  pub length-completed : length (completed a n ws) ≡ length ws
  unfolding completed
  length-completed = length-rebuilt a n (padded n ws) ready ∙ length-padded n ws
