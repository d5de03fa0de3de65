-- The search: where it can end over any words, and that in a consistent tree it ends at what the plain scan finds.
use Rattle.bitmap_search.specs.Search.{torn}
use Rattle.std.specs.Prelude.{Result, Ok, Err, Some, None}
use mathlib.Core.Path.{◌≡◌, refl, ap, ◌∙◌}
use mathlib.Core.Bool.{Bool, true, false}
use mathlib.Core.List.{List}
use Prim.Native.Nat.{ℕ, zero, suc, ◌+◌, ◌-◌, ◌*◌, ◌^◌, ◌≤◌, ◌<◌}
use native.Mathlib.Numerals.{sub-one}
use native.Mathlib.Omega.{arith}
use lib.Dec.{ltb}
use lib.ListN.{get_or, drop}
use lib.Seq.{get_or-drop}
use borrow.Author.Tests.{ltb-true, ltb-false, lt-ltb}
use Rattle.basics.specs.Pick.{pick}
use Rattle.words.specs.Bits.{bit_at, clear_from}
use Rattle.words.specs.Levels.{words_for}
use Rattle.words.specs.Tree.{Level, Sums, Tree}
use Rattle.words.proofs.Trees.{tree_level, tree_top, tree_sums, tree_rest}
use Rattle.bitmap_search.specs.declared.BitPtr.{BitPtr}
use Rattle.bitmap_search.specs.Search.{Next}
use Rattle.bitmap_search.specs.Scan.{next_free}
use Rattle.bitmap_search.specs.declared.Torn.{Torn}
use Rattle.bitmap_search.specs.Pointer.{pos_at, with_pos, index_of, pos_of, ptr_to}
use Rattle.bitmap_search.specs.Search.{in_word, climbed, lowered, lowered_from, some_next, forwarded, found_at, block_at, searched, BlockBelow}
use Rattle.bitmap_search.proofs.Scan.{IsNext, is_next}
use Rattle.bitmap_search.proofs.Pointers.{pos_with, pos_aimed}
use Rattle.bitmap_search.proofs.Steps.{past_words, in_word_lem, one_word, none_above, found_above, below_lt}

-- the moves, with the number of levels above as the code has it
module _ (ws : List ℕ) (n : ℕ) (p : BitPtr) (l : ℕ) where
  -- where the pointer's word has no clear bit
  pub beyond : ℕ → Next
  beyond zero = (Ok None)
  beyond (suc a) = lowered_from ws (words_for n) l (forwarded a (drop (words_for n) ws) (words_for n) (climbed p l) (l + 1))

  pub forwarded_by : (a : ℕ)
      → forwarded a ws n p l ≡ pick (ltb (pos_at p l).word (words_for n)) (in_word ws p l (pos_at p l).word (pos_at p l).bit (beyond a)) (Ok None)
  unfolding forwarded beyond
  forwarded_by zero = refl
  forwarded_by (suc a) = refl

  pub beyond_none : (a : ℕ) → a ≡ 0 → beyond a ≡ (Ok None)
  unfolding beyond
  beyond_none zero e = refl
  beyond_none (suc a) e = absurd (omega arith)

  pub beyond_more : (a : ℕ) → (a ≡ 0 → ⊥)
      → beyond a ≡ lowered_from ws (words_for n) l (forwarded (a - 1) (drop (words_for n) ws) (words_for n) (climbed p l) (l + 1))
  unfolding beyond
  beyond_more zero f = absurd (f refl)
  beyond_more (suc a) f = let e : suc a - 1 ≡ a = omega arith in rw e

-- a bit that was found at a level is below e
abbrev pub Bounded : ℕ → ℕ → Next → Type 0
Bounded l e (Ok (Some q)) = index_of (pos_at q l) < e
Bounded l e (Ok None) = Unit
Bounded l e (Err _) = Unit

-- the way down, as what the search's moves give
some_pick : (t : Bool) (x y : Result BitPtr Torn) → some_next (pick t x y) ≡ pick t (some_next x) (some_next y)
some_pick true x y = refl
some_pick false x y = refl

pub lowered_is : (ws : List ℕ) (m : ℕ) (q : BitPtr) (l : ℕ)
    → some_next (lowered ws m q l) ≡ pick (ltb (index_of (pos_at q (l + 1))) m) (in_word ws q l (index_of (pos_at q (l + 1))) 0 torn) torn
unfolding lowered
lowered_is ws m q l = some_pick _ _ _ ∙ ap (λ x. pick (ltb (index_of (pos_at q (l + 1))) m) x torn) (some_pick _ _ _)

-- ---- over words of any content, a bit that is found stands in the level's words

in_word-bounded : (ws : List ℕ) (m : ℕ) (p : BitPtr) (l j i : ℕ) (other : Next) → j < m → Bounded l (m * 32) other → Bounded l (m * 32) (in_word ws p l j i other)
in_word-bounded ws m p l j i other h o = go (clear_from (get_or ws j 0) i) (ltb (clear_from (get_or ws j 0) i) 32) refl
  where
    go : (b : ℕ) (t : Bool) → ltb b 32 ≡ t → Bounded l (m * 32) (pick t (Ok (Some (with_pos p l (record { word = j; bit = b })))) other)
    go b true q = rw (pos_with p l (record { word = j; bit = b })) (omega (arith, ltb-true b 32 q))
    go b false q = o

lowered_bounded : (ws : List ℕ) (m l : ℕ) (r : Next) → Bounded l (m * 32) (lowered_from ws m l r)
lowered_bounded ws m l (Ok (Some q)) = rw (lowered_is ws m q l) (go (ltb (index_of (pos_at q (l + 1))) m) refl)
  where
    go : (t : Bool) → ltb (index_of (pos_at q (l + 1))) m ≡ t → Bounded l (m * 32) (pick t (in_word ws q l (index_of (pos_at q (l + 1))) 0 torn) torn)
    go true e = in_word-bounded ws m q l (index_of (pos_at q (l + 1))) 0 torn (ltb-true _ _ e) tt
    go false e = tt
lowered_bounded ws m l (Ok None) = tt
lowered_bounded ws m l (Err _) = tt

beyond_bounded : (ws : List ℕ) (n : ℕ) (p : BitPtr) (l a : ℕ) → Bounded l (words_for n * 32) (beyond ws n p l a)
unfolding beyond
beyond_bounded ws n p l zero = tt
beyond_bounded ws n p l (suc a) = lowered_bounded ws (words_for n) l (forwarded a (drop (words_for n) ws) (words_for n) (climbed p l) (l + 1))

pub bounded : (a : ℕ) (ws : List ℕ) (n : ℕ) (p : BitPtr) (l : ℕ) → Bounded l (words_for n * 32) (forwarded a ws n p l)
bounded a ws n p l = rw (forwarded_by ws n p l a) (go (ltb (pos_at p l).word (words_for n)) refl)
  where
    go : (t : Bool) → ltb (pos_at p l).word (words_for n) ≡ t
        → Bounded l (words_for n * 32) (pick t (in_word ws p l (pos_at p l).word (pos_at p l).bit (beyond ws n p l a)) (Ok None))
    go true e = in_word-bounded ws (words_for n) p l (pos_at p l).word (pos_at p l).bit (beyond ws n p l a) (ltb-true _ _ e) (beyond_bounded ws n p l a)
    go false e = tt

-- ---- in a consistent tree, the search finds what the plain scan finds

-- a clear bit in word j, as it is found
at_word : (ws : List ℕ) (p : BitPtr) (l j i : ℕ) (other : Next) → clear_from (get_or ws j 0) i < 32
    → found_at l (in_word ws p l j i other) ≡ Ok (Some (j * 32 + clear_from (get_or ws j 0) i))
at_word ws p l j i other h =
    rw (lt-ltb (clear_from (get_or ws j 0) i) 32 h, pos_with p l (record { word = j; bit = clear_from (get_or ws j 0) i }))

lowered_at : (ws : List ℕ) (m : ℕ) (q : BitPtr) (l : ℕ) → index_of (pos_at q (l + 1)) < m → clear_from (get_or ws (index_of (pos_at q (l + 1))) 0) 0 < 32
    → found_at l (some_next (lowered ws m q l)) ≡ Ok (Some (index_of (pos_at q (l + 1)) * 32 + clear_from (get_or ws (index_of (pos_at q (l + 1))) 0) 0))
lowered_at ws m q l h b = rw (lowered_is ws m q l, lt-ltb _ _ h) (at_word ws q l (index_of (pos_at q (l + 1))) 0 torn b)

abbrev Fits : List ℕ → Type 0
Fits ws = (i : ℕ) → get_or ws i 0 < 2 ^ 32

module _ (ws : List ℕ) (n : ℕ) (fits : Fits ws) (p : BitPtr) (l : ℕ) (small : (pos_at p l).bit < 32) where
  abbrev Right : Next → Type 0
  Right r = IsNext (bit_at ws) n (index_of (pos_at p l)) (found_at l r)

  -- from what the levels above found
  from_above : (a : ℕ) → Tree (suc a) n ws → 32 ≤ clear_from (get_or ws (pos_at p l).word 0) (pos_at p l).bit
      → (r : Next) → IsNext (bit_at (drop (words_for n) ws)) (words_for n) ((pos_at p l).word + 1) (found_at (l + 1) r) → Right (lowered_from ws (words_for n) l r)
  from_above a tree full r up = go r up
    where
      level : Level n ws
      level = tree_level (suc a) n ws tree

      sums : Sums (words_for n) ws (drop (words_for n) ws)
      sums = tree_sums (suc a) n ws tree (λ e. omega arith)

      go : (r : Next) → IsNext (bit_at (drop (words_for n) ws)) (words_for n) ((pos_at p l).word + 1) (found_at (l + 1) r) → Right (lowered_from ws (words_for n) l r)
      go (Ok (Some q)) u =
          rw (lowered_at ws (words_for n) q l u.1 (below_lt ws n level (pos_at p l).word (pos_at p l).bit small full (drop (words_for n) ws) sums fits (index_of (pos_at q (l + 1))) u))
          (found_above ws n level (pos_at p l).word (pos_at p l).bit small full (drop (words_for n) ws) sums fits (index_of (pos_at q (l + 1))) u)
      go (Ok None) u = none_above ws n level (pos_at p l).word (pos_at p l).bit small full (drop (words_for n) ws) sums u
      go (Err _) u = absurd u

  -- in the pointer's word, or beyond it
  from_word : (a : ℕ) → Tree a n ws → (32 ≤ clear_from (get_or ws (pos_at p l).word 0) (pos_at p l).bit → Right (beyond ws n p l a)) → Right (forwarded a ws n p l)
  from_word a tree rest = rw (forwarded_by ws n p l a) (go (ltb (pos_at p l).word (words_for n)) refl)
    where
      found : (b : ℕ) → clear_from (get_or ws (pos_at p l).word 0) (pos_at p l).bit ≡ b → (pos_at p l).word < words_for n → (t : Bool) → ltb b 32 ≡ t
          → Right (pick t (Ok (Some (with_pos p l (record { word = (pos_at p l).word; bit = b })))) (beyond ws n p l a))
      found b e h true q =
          let s : clear_from (get_or ws (pos_at p l).word 0) (pos_at p l).bit < 32 = omega (arith, ltb-true b 32 q) in
          rw (pos_with p l (record { word = (pos_at p l).word; bit = b }), ← e)
          (in_word_lem ws n (tree_level a n ws tree) (pos_at p l).word (pos_at p l).bit small h s)
      found b e h false q = rest (omega (arith, ltb-false b 32 q))

      go : (t : Bool) → ltb (pos_at p l).word (words_for n) ≡ t
          → Right (pick t (in_word ws p l (pos_at p l).word (pos_at p l).bit (beyond ws n p l a)) (Ok None))
      go true e = found (clear_from (get_or ws (pos_at p l).word 0) (pos_at p l).bit) refl (ltb-true _ _ e) (ltb (clear_from (get_or ws (pos_at p l).word 0) (pos_at p l).bit) 32) refl
      go false e = past_words ws n (tree_level a n ws tree) (pos_at p l).word (pos_at p l).bit (ltb-false _ _ e)

-- the bit that a climb leads to
pub climbed_at : (p : BitPtr) (l : ℕ) → pos_at (climbed p l) (l + 1) ≡ pos_of ((pos_at p l).word + 1)
unfolding climbed
climbed_at p l = pos_aimed p (l + 1) ((pos_at p l).word + 1)

pub climbed_small : (p : BitPtr) (l : ℕ) → (pos_at (climbed p l) (l + 1)).bit < 32
climbed_small p l = rw (climbed_at p l) (omega arith)

climbed_index : (p : BitPtr) (l : ℕ) → index_of (pos_at (climbed p l) (l + 1)) ≡ (pos_at p l).word + 1
climbed_index p l = rw (climbed_at p l) (omega arith)

pub right : (a : ℕ) (ws : List ℕ) (n : ℕ) → Fits ws → (p : BitPtr) (l : ℕ) → (pos_at p l).bit < 32 → Tree a n ws
    → IsNext (bit_at ws) n (index_of (pos_at p l)) (found_at l (forwarded a ws n p l))
unfolding beyond
right zero ws n fits p l small tree =
    from_word ws n fits p l small 0 tree (λ full.
    one_word ws n (tree_level 0 n ws tree) (pos_at p l).word (pos_at p l).bit small full (tree_top 0 n ws tree refl))
right (suc a) ws n fits p l small tree =
    let us = drop (words_for n) ws in
    let up = right a (drop (words_for n) ws) (words_for n) (λ i. rw (get_or-drop (words_for n) ws i 0) (fits (words_for n + i))) (climbed p l) (l + 1) (climbed_small p l)
    (rw (sub-one (suc a)) at (tree_rest (suc a) n ws tree (λ e. omega arith))) in
    from_word ws n fits p l small (suc a) tree (λ full.
    from_above ws n fits p l small a tree full (forwarded a (drop (words_for n) ws) (words_for n) (climbed p l) (l + 1)) (rw (climbed_index p l) at up))

-- ---- the whole search

pub searched_within : (a : ℕ) (ws : List ℕ) (n place : ℕ) → BlockBelow n (searched a ws n place)
unfolding searched
searched_within a ws n place = go (forwarded a ws n (ptr_to place) 0)
  where
    block : (k : ℕ) (t : Bool) → ltb k n ≡ t → BlockBelow n (pick t (Ok (Some k)) torn)
    block k true e = ltb-true k n e
    block k false e = tt

    go : (r : Next) → BlockBelow n (block_at n r)
    go (Ok (Some q)) = block (index_of q.low) (ltb (index_of q.low) n) refl
    go (Ok None) = tt
    go (Err _) = tt

pub searched_scan : (a : ℕ) (ws : List ℕ) (n place : ℕ) → Fits ws → Tree a n ws → searched a ws n place ≡ next_free (bit_at ws) n place
unfolding searched
searched_scan a ws n place fits tree =
    let i : index_of (pos_of place) ≡ place = omega arith in
    is_next (bit_at ws) n place (block_at n (forwarded a ws n (ptr_to place) 0))
    (go (forwarded a ws n (ptr_to place) 0) (rw i at (right a ws n fits (ptr_to place) 0 (omega arith) tree)))
  where
    go : (r : Next) → IsNext (bit_at ws) n place (found_at 0 r) → IsNext (bit_at ws) n place (block_at n r)
    go (Ok (Some q)) x = rw (lt-ltb _ _ x.1) x
    go (Ok None) x = x
    go (Err _) x = x
