-- The next free block and whether another remains after it: where one word answers, what the answer is in a consistent tree, and what it says of the
-- two scans.
use Rattle.bitmap_search.specs.Search.{torn}
use Rattle.std.specs.Prelude.{Ok, Err, Some, None}
use mathlib.Core.Path.{◌≡◌, refl, sym, ap, ◌∙◌, subst}
use mathlib.Core.Bool.{true}
use mathlib.Core.Logic.{◌⊎◌, inl, inr, ⊎_elim}
use mathlib.Core.List.{List}
use Prim.Native.Nat.{ℕ, ◌+◌, ◌/◌, ◌%◌, ◌^◌, ◌≤◌, ◌<◌}
use native.Mathlib.Omega.{arith}
use lib.ListN.{get_or}
use borrow.Author.Tests.{lt-ltb, le-ltb, ltb-true}
use Rattle.words.specs.Tree.{Tree}
use Rattle.words.specs.Levels.{words_for}
use Rattle.words.proofs.Second.{some_below}
use Rattle.words.specs.Bits.{bit_at, clear_from, some_clear}
use Rattle.bitmap_search.specs.Pointer.{with_pos, index_of, pos_of, ptr_to}
use Rattle.bitmap_search.specs.Search.{Next}
use Rattle.bitmap_search.proofs.Forward.{right, searched_within, searched_scan}
use Rattle.bitmap_search.specs.Scan.{Found}
use Rattle.bitmap_search.specs.declared.Two.{Two}
use Rattle.bitmap_search.specs.declared.BitPtr.{BitPtr}
use Rattle.bitmap_search.specs.Scan.{next_free}
use Rattle.bitmap_search.proofs.Moves.{ahead_past, ahead_at}
use Rattle.bitmap_search.specs.Twice.{remains, and_after, next_two, reached, TwoBelow, TwoPromise}
use Rattle.bitmap_search.proofs.Scan.{IsNext, next_is, is_next}
use Rattle.bitmap_search.specs.Search.{forwarded, found_at, block_at, searched, BlockBelow}
use Rattle.bitmap_search.specs.declared.Two.TheVariants as two

-- ---- one word answers

module _ (a : ℕ) (ws : List ℕ) (n : ℕ) where
  -- a clear bit at or after the place in its own word
  in_own : (p : ℕ) → p / 32 < words_for n → clear_from (get_or ws (p / 32) 0) (p % 32) < 32
      → Ok (Some (with_pos (ptr_to p) 0 (record { word = p / 32; bit = clear_from (get_or ws (p / 32) 0) (p % 32) }))) ≡ forwarded a ws n (ptr_to p) 0
  in_own p h l = ahead_at a ws n (ptr_to p) 0 (pos_of p) refl h (clear_from (get_or ws (p / 32) 0) (p % 32)) refl l

  -- another clear bit after block b in its word
  pub more_own : (b : ℕ) → b < n → true ≡ some_clear (get_or ws (b / 32) 0) (b % 32 + 1) → two.More b ≡ remains b (reached a ws n (b + 1))
  more_own b h e =
      let l : b % 32 + 1 < 32 = some_below (get_or ws (b / 32) 0) (b % 32 + 1) (sym e) in
      let d : (b + 1) / 32 ≡ b / 32 = omega arith in
      let m : (b + 1) % 32 ≡ b % 32 + 1 = omega arith in
      let c : clear_from (get_or ws ((b + 1) / 32) 0) ((b + 1) % 32) < 32 = rw (d, m) (ltb-true (clear_from (get_or ws (b / 32) 0) (b % 32 + 1)) 32 (sym e)) in
      rw (← in_own (b + 1) (omega arith) c)

  -- none after the last block of whole words
  pub last_whole : (b : ℕ) → b + 1 ≡ n → n % 32 ≡ 0 → two.Last b ≡ remains b (reached a ws n (b + 1))
  last_whole b e z = rw (← ahead_past a ws n (ptr_to (b + 1)) 0 (pos_of (b + 1)) refl (omega arith))

-- ---- by the values that the code has in hand

module _ (a : ℕ) (ws : List ℕ) (n b : ℕ) where
  -- the pointer's block
  module _ (q : BitPtr) (at : b ≡ index_of q.low) where
    pub past_end : n ≤ b → two.Torn ≡ and_after (reached a ws n) (block_at n (Ok (Some q)))
    past_end h = rw (← at, le-ltb b n h)

    pub at_block : b < n → (r : Two) → r ≡ remains b (reached a ws n (b + 1)) → r ≡ and_after (reached a ws n) (block_at n (Ok (Some q)))
    at_block h r e = rw (← at, lt-ltb b n h) e

  -- where the pointer to just after it led
  pub from_after : (p : BitPtr) (x y : Next) → p ≡ ptr_to (b + 1) → x ≡ forwarded a ws n p 0 → x ≡ y → remains b (found_at 0 y) ≡ remains b (reached a ws n (b + 1))
  from_after p x y e f g = rw (← e, ← f, g)

-- where the pointer to the place led
pub searched_two : (a : ℕ) (ws : List ℕ) (n p : ℕ) (q : BitPtr) → q ≡ ptr_to p
    → and_after (reached a ws n) (block_at n (forwarded a ws n q 0)) ≡ and_after (reached a ws n) (searched a ws n p)
unfolding searched
searched_two a ws n p q e = rw e

pub from_place : (a : ℕ) (ws : List ℕ) (n : ℕ) (p : BitPtr) (x y : Next) → x ≡ forwarded a ws n p 0 → x ≡ y
    → and_after (reached a ws n) (block_at n y) ≡ and_after (reached a ws n) (block_at n (forwarded a ws n p 0))
from_place a ws n p x y f g = rw (← f, g)

-- ---- what is promised

-- two searches that find the same
after_same : (f h : ℕ → Found) → ((p : ℕ) → f p ≡ h p) → (r : Found) → and_after f r ≡ and_after h r
after_same f h e (Ok (Some b)) = ap (remains b) (e (b + 1))
after_same f h e (Ok None) = refl
after_same f h e (Err _) = refl

after_below : (f : ℕ → Found) (n : ℕ) (r : Found) → BlockBelow n r → TwoBelow n (and_after f r)
after_below f n (Ok (Some b)) h = go (f (b + 1))
  where
    go : (q : Found) → TwoBelow n (remains b q)
    go (Ok (Some k)) = h
    go (Ok None) = h
    go (Err _) = tt
after_below f n (Ok None) h = tt
after_below f n (Err _) h = tt

reached_scan : (a : ℕ) (ws : List ℕ) (n p : ℕ) → ((i : ℕ) → get_or ws i 0 < 2 ^ 32) → Tree a n ws → reached a ws n p ≡ next_free (bit_at ws) n p
reached_scan a ws n p fits tree =
    let i : index_of (pos_of p) ≡ p = omega arith in
    is_next (bit_at ws) n p (reached a ws n p) (rw i at (right a ws n fits (ptr_to p) 0 (omega arith) tree))

pub promised_two : (a : ℕ) (ws : List ℕ) (n p : ℕ) (r : Two) → ((i : ℕ) → get_or ws i 0 < 2 ^ 32) → r ≡ and_after (reached a ws n) (searched a ws n p) → TwoPromise a ws n p r
promised_two a ws n p r fits e = record {
  within = rw e (after_below (reached a ws n) n (searched a ws n p) (searched_within a ws n p));
  scan = λ tree.
      e
      ∙ after_same (reached a ws n) (next_free (bit_at ws) n) (λ q. reached_scan a ws n q fits tree) (searched a ws n p)
      ∙ ap (and_after (next_free (bit_at ws) n)) (searched_scan a ws n p fits tree);
}

-- ---- what an answer says of the two searches

module _ (f h : ℕ → Found) (p : ℕ) where
  abbrev pub Says : Two → Type 0
  Says (two.More b) = (f p ≡ Ok (Some b)) × ((k : ℕ) × (h (b + 1) ≡ Ok (Some k)))
  Says (two.Last b) = (f p ≡ Ok (Some b)) × (h (b + 1) ≡ (Ok None))
  Says two.Nothing = f p ≡ (Ok None)
  Says two.Torn = (f p ≡ torn) ⊎ ((b : ℕ) × (f p ≡ Ok (Some b)) × (h (b + 1) ≡ torn))

  pub two_says : (r : Two) → r ≡ and_after h (f p) → Says r
  two_says r e = subst Says (sym e) (go (f p) refl)
    where
      then : (b : ℕ) → f p ≡ Ok (Some b) → (q : Found) → h (b + 1) ≡ q → Says (remains b q)
      then b u (Ok (Some k)) v = (u, (k, v))
      then b u (Ok None) v = (u, v)
      then b u (Err _) v = inr (b, u, v)

      go : (q : Found) → f p ≡ q → Says (and_after h q)
      go (Ok (Some b)) u = then b u (h (b + 1)) refl
      go (Ok None) u = u
      go (Err _) u = inl u

-- the plain scan never meets torn words
scan_whole : (bit : ℕ → ℕ) (n p : ℕ) → next_free bit n p ≡ torn → ⊥
scan_whole bit n p e = subst (IsNext bit n p) e (next_is bit n p)

pub never_torn_lem : (bit : ℕ → ℕ) (n p : ℕ) → two.Torn ≡ next_two bit n p → ⊥
never_torn_lem bit n p e = ⊎_elim (λ u. scan_whole bit n p u) (λ u. scan_whole bit n (u.0 + 1) u.2) (two_says (next_free bit n) (next_free bit n) p two.Torn e)
