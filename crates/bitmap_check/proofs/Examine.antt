-- What the tests of the check show.
use mathlib.Core.Path.{◌≡◌, refl, sym, ap, ◌∙◌, subst}
use mathlib.Core.Bool.{Bool, true, false, beq}
use mathlib.Core.List.{List}
use Prim.Native.Nat.{ℕ, zero, suc, ◌+◌, ◌-◌, ◌*◌, ◌/◌, ◌%◌, ◌≤◌, ◌<◌}
use native.Mathlib.Omega.{arith}
use lib.Dec.{eqb, leb}
use lib.ListN.{length, get_or, take, drop}
use lib.Seq.{get_or-drop}
use borrow.Author.Tests.{leb-true, leb-false, eqb-true, eqb-false}
use Rattle.basics.specs.Decides.{Decides}
use Rattle.basics.proofs.Deciding.{holds, fails, via}
use Rattle.basics.proofs.Parts.{tail_part}
use Rattle.words.specs.Bits.{bit_of, bit_at, clear_from}
use Rattle.words.specs.Levels.{words_for}
use Rattle.words.specs.Tree.{all_ones, Level, Sums, Tree}
use Rattle.words.proofs.Clear.{clear_first}
use Rattle.words.proofs.Lists.{bit_split, bit_in, at_lt}
use Rattle.words.proofs.Trees.{part_word, tree_top, tree_one, tree_sums, tree_rest, tree_more}
use Rattle.bitmap_check.specs.Agree.{SummaryAgrees}

module _ (ws : List ℕ) (n : ℕ) (room : words_for n ≤ length ws) (part : n % 32 ≡ 0 → ⊥) where
  pub padded : 32 ≤ clear_from (get_or ws (n / 32) 0) (n % 32) → Level n ws
  padded full = record { room = room; past = λ k l h. one k l h (bit_at ws k) refl (at_lt ws k) }
    where
      one : (k : ℕ) → n ≤ k → k < words_for n * 32 → (b : ℕ) → bit_at ws k ≡ b → b < 2 → bit_at ws k ≡ 1
      one k l h zero e s =
          let q : k / 32 ≡ n / 32 = omega (arith, part_word n part) in
          let z : bit_of (get_or ws (n / 32) 0) (k % 32) ≡ 0 = ap (λ (x : ℕ). bit_of (get_or ws x 0) (k % 32)) (sym q) ∙ sym (bit_split ws k) ∙ e in
          absurd ((clear_first (get_or ws (n / 32) 0) (n % 32) (omega arith)).before (k % 32) (omega arith) (omega arith) z)
      one k l h (suc b) e s = omega arith

  pub not_padded : clear_from (get_or ws (n / 32) 0) (n % 32) < 32 → Level n ws → ⊥
  not_padded l lv =
      let f = clear_first (get_or ws (n / 32) 0) (n % 32) (omega arith) in
      let z : bit_at ws (n / 32 * 32 + clear_from (get_or ws (n / 32) 0) (n % 32)) ≡ 0 = bit_in ws (n / 32) (clear_from (get_or ws (n / 32) 0) (n % 32)) l ∙ f.clear l in
      let o = lv.past (n / 32 * 32 + clear_from (get_or ws (n / 32) 0) (n % 32)) (omega (arith, f.from)) (omega (arith, part_word n part)) in
      omega arith

  -- as the code tests it
  pub level_decided : Decides (leb 32 (clear_from (get_or ws (n / 32) 0) (n % 32))) (Level n ws)
  level_decided = go (leb 32 (clear_from (get_or ws (n / 32) 0) (n % 32))) refl
    where
      go : (t : Bool) → leb 32 (clear_from (get_or ws (n / 32) 0) (n % 32)) ≡ t → Decides t (Level n ws)
      go true e = holds (padded (leb-true _ _ e))
      go false e = fails (not_padded (leb-false _ _ e))

-- the summary bit, as the code reads it
pub agree_bit : (ws : List ℕ) (m j b : ℕ) → b ≡ bit_of (get_or ws (m + j / 32) 0) (j % 32) → bit_at (drop m ws) j ≡ b
agree_bit ws m j b e = bit_split (drop m ws) j ∙ ap (λ (x : ℕ). bit_of x (j % 32)) (get_or-drop m ws (j / 32) 0) ∙ sym e

-- as the code tests it: both, or neither
pub agree_decided : (ws : List ℕ) (m j b : ℕ) → b ≡ bit_of (get_or ws (m + j / 32) 0) (j % 32)
    → Decides (beq (eqb (get_or ws j 0) all_ones) (eqb b 1)) (SummaryAgrees ws m j)
agree_decided ws m j b at = go (eqb (get_or ws j 0) all_ones) refl (eqb b 1) refl
  where
    e : bit_at (drop m ws) j ≡ b
    e = agree_bit ws m j b at

    go : (x : Bool) → eqb (get_or ws j 0) all_ones ≡ x → (y : Bool) → eqb b 1 ≡ y → Decides (beq x y) (SummaryAgrees ws m j)
    go true p true q = holds (record { full = λ _. e ∙ eqb-true b 1 q; only = λ _. eqb-true _ _ p })
    go true p false q = fails (λ g. eqb-false b 1 q (sym e ∙ g.full (eqb-true _ _ p)))
    go false p true q = fails (λ g. eqb-false _ _ p (g.only (e ∙ eqb-true b 1 q)))
    go false p false q = holds (record { full = λ w. absurd (eqb-false _ _ p w); only = λ w. absurd (eqb-false b 1 q (sym e ∙ w)) })

-- the tree of one level
pub top_decided : (a n : ℕ) (ws : List ℕ) → a ≡ 0 → Level n ws → Decides (leb n 32) (Tree a n ws)
top_decided a n ws z lv = go (leb n 32) refl
  where
    go : (t : Bool) → leb n 32 ≡ t → Decides t (Tree a n ws)
    go true e = holds (tree_one a n ws z lv (leb-true _ _ e))
    go false e = fails (λ q. let h = tree_top a n ws q z in let l = leb-false n 32 e in omega arith)

-- the tree, where its first level and the level above agree, from the words counted and the rest as it is lent
module _ (a n words : ℕ) (ws : List ℕ) (some : a ≡ 0 → ⊥) (count : words ≡ words_for n) where
  behind : take (length ws - words) (drop words ws) ≡ drop (words_for n) ws
  behind = tail_part words ws ∙ ap (λ (m : ℕ). drop m ws) count

  sums : Sums words ws (drop words ws) → Sums (words_for n) ws (drop (words_for n) ws)
  sums = subst (λ (m : ℕ). Sums m ws (drop m ws)) count

  pub not_summed : (Sums words ws (drop words ws) → ⊥) → Tree a n ws → ⊥
  not_summed f t = f (subst (λ (m : ℕ). Sums m ws (drop m ws)) (sym count) (tree_sums a n ws t some))

  pub by_rest : {r : Bool} → Level n ws → Sums words ws (drop words ws) → Decides r (Tree (a - 1) words (take (length ws - words) (drop words ws))) → Decides r (Tree a n ws)
  by_rest lv s d =
      via (λ t. tree_more a n ws some lv (sums s) (rw (count, behind_at) at t)) (λ t. rw (behind, count) (tree_rest a n ws t some)) d
    where
      behind_at : take (length ws - words_for n) (drop (words_for n) ws) ≡ drop (words_for n) ws
      behind_at = tail_part (words_for n) ws
