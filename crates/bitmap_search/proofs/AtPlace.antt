-- A clear bit at or after a place in its own word, and another after it there or in the next word: the plain scan's answer.
use Rattle.std.specs.Prelude.{Ok, Err, Some, None}
use mathlib.Core.Path.{◌≡◌, refl, sym, ◌∙◌}
use mathlib.Core.Bool.{true}
use mathlib.Core.List.{List}
use Prim.Native.Nat.{ℕ, ◌+◌, ◌*◌, ◌/◌, ◌%◌, ◌^◌, ◌≤◌, ◌<◌}
use native.Mathlib.Nat.{lt_of_not-le}
use native.Mathlib.Omega.{arith}
use lib.ListN.{get_or}
use borrow.Author.Tests.{ltb-true}
use Rattle.words.specs.Bits.{bit_at, clear_from, some_clear}
use Rattle.words.specs.Levels.{words_for}
use Rattle.words.specs.Tree.{all_ones, Level}
use Rattle.words.proofs.Clear.{clear_first, none_clear_ones}
use Rattle.words.proofs.Lists.{bit_in}
use Rattle.words.proofs.Second.{some_below}
use Rattle.words.proofs.Trees.{tree_level}
use Rattle.bitmap_search.specs.Scan.{Found}
use Rattle.bitmap_search.specs.Scan.{next_free}
use Rattle.bitmap_search.specs.Twice.{remains, next_two, NearPromise, TwoPromise}
use Rattle.bitmap_search.proofs.Scan.{IsNext, next_is, is_next}
use Rattle.bitmap_search.proofs.Steps.{within, in_word_lem}
use Rattle.bitmap_search.specs.declared.Two.TheVariants as two

-- where a block k of n after block b is free, the scan from just after b finds one
remains_more : (bit : ℕ → ℕ) (n b k : ℕ) → b + 1 ≤ k → k < n → bit k ≡ 0 → two.More b ≡ remains b (next_free bit n (b + 1))
remains_more bit n b k l h z = go (next_free bit n (b + 1)) (next_is bit n (b + 1))
  where
    go : (r : Found) → IsNext bit n (b + 1) r → two.More b ≡ remains b r
    go (Ok (Some j)) x = refl
    go (Ok None) x = absurd (x k l h z)
    go (Err _) x = absurd x

module _ (ws : List ℕ) (n p : ℕ) (here : p / 32 < words_for n) where
  -- the lowest clear bit at or after the place in its own word
  abbrev lowest : ℕ
  lowest = clear_from (get_or ws (p / 32) 0) (p % 32)

  -- block b is it, and a later bit of the level's words is clear
  two_clear : (b k : ℕ) → b ≡ p / 32 * 32 + lowest → lowest < 32 → b + 1 ≤ k → k < words_for n * 32 → bit_at ws k ≡ 0
      → Level n ws → two.More b ≡ next_two (bit_at ws) n p
  two_clear b k e l m h z level =
      let i : p / 32 * 32 + p % 32 ≡ p = omega arith in
      let f : Ok (Some b) ≡ next_free (bit_at ws) n p =
      is_next (bit_at ws) n p (Ok (Some b)) (rw e (rw i at (in_word_lem ws n level (p / 32) (p % 32) (omega arith) here l))) in
      rw (← f) (remains_more (bit_at ws) n b k m (within ws n level k h z) z)

  -- the lowest clear bit at or after bit i of word j
  clear_in : (j i : ℕ) → i ≤ 32 → clear_from (get_or ws j 0) i < 32 → bit_at ws (j * 32 + clear_from (get_or ws j 0) i) ≡ 0
  clear_in j i m l = bit_in ws j (clear_from (get_or ws j 0) i) l ∙ (clear_first (get_or ws j 0) i m).clear l

  -- in the place's own word
  pub in_own_word : (b : ℕ) → b ≡ p / 32 * 32 + lowest → true ≡ some_clear (get_or ws (p / 32) 0) (lowest + 1) → Level n ws → two.More b ≡ next_two (bit_at ws) n p
  in_own_word b e t =
      let w = get_or ws (p / 32) 0 in
      let l : lowest + 1 < 32 = some_below w (lowest + 1) (sym t) in
      let q : clear_from w (lowest + 1) < 32 = ltb-true (clear_from w (lowest + 1)) 32 (sym t) in
      let f = (clear_first w (lowest + 1) (omega arith)).from in
      two_clear b (p / 32 * 32 + clear_from w (lowest + 1)) e (omega arith) (omega arith) (omega arith) (clear_in (p / 32) (lowest + 1) (omega arith) q)

  -- in the next word, which is not all ones
  pub in_next_word : (b : ℕ) → b ≡ p / 32 * 32 + lowest → lowest < 32 → p / 32 + 1 < words_for n → get_or ws (p / 32 + 1) 0 < 2 ^ 32
      → (get_or ws (p / 32 + 1) 0 ≡ all_ones → ⊥) → Level n ws → two.More b ≡ next_two (bit_at ws) n p
  in_next_word b e l h fits ones =
      let w = get_or ws (p / 32 + 1) 0 in
      let q : clear_from w 0 < 32 = lt_of_not-le (λ full. ones (none_clear_ones w fits full)) in
      two_clear b ((p / 32 + 1) * 32 + clear_from w 0) e l (omega arith) (omega arith) (clear_in (p / 32 + 1) 0 (omega arith) q)

-- what they tell is promised of a tree
pub near_two : (a : ℕ) {ws : List ℕ} {n p b : ℕ} → NearPromise ws n p (Some b) → TwoPromise a ws n p (two.More b)
near_two a {ws} {n} q = record { within = q.0; scan = λ tree. q.1 (tree_level a n ws tree) }
