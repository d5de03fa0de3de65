-- The moves, by the tests that the code makes and with the values that it has in hand.
use Rattle.bitmap_search.specs.Search.{torn}
use Rattle.std.specs.Prelude.{Result, Ok, Err, Some, None, IsErr}
use mathlib.Core.Path.{◌≡◌, refl, sym, ap, ◌∙◌, subst}
use mathlib.Core.Bool.{false≢true}
use mathlib.Core.List.{List}
use Prim.Native.Nat.{ℕ, ◌+◌, ◌-◌, ◌*◌, ◌^◌, ◌≤◌, ◌<◌}
use lib.ListN.{length, get_or, take, drop}
use borrow.Author.Tests.{lt-ltb, le-ltb}
use Rattle.basics.proofs.Parts.{tail_part}
use Rattle.words.specs.Bits.{clear_from}
use Rattle.words.specs.Levels.{words_for}
use Rattle.bitmap_search.specs.declared.BitPos.{BitPos}
use Rattle.bitmap_search.specs.declared.BitPtr.{BitPtr}
use Rattle.bitmap_search.specs.declared.Torn.{Torn}
use Rattle.bitmap_search.specs.Search.{Next}
use Rattle.bitmap_search.specs.Pointer.{pos_at, with_pos, index_of, ptr_to}
use Rattle.bitmap_search.specs.Search.{climbed, lowered, lowered_from, forwarded, block_at, searched, SearchPromise}
use Rattle.bitmap_search.proofs.Forward.{forwarded_by, beyond, beyond_none, beyond_more, Bounded, bounded, searched_within, searched_scan}
use Rattle.bitmap_search.specs.Scan.{Found}

-- an error of the search says that the words are torn
pub err_torn : {A : Type 0} (r : Result A Torn) → IsErr r → r ≡ torn
err_torn (Ok x) h = absurd (false≢true h)
err_torn (Err _) h = refl

-- down to word k
module _ (ws : List ℕ) (m : ℕ) (p : BitPtr) (l k : ℕ) (at : k ≡ index_of (pos_at p (l + 1))) where
  pub down_past : m ≤ k → torn ≡ lowered ws m p l
  unfolding lowered
  down_past h = rw (← at, le-ltb k m h)

  module _ (here : k < m) (b : ℕ) (bit : b ≡ clear_from (get_or ws k 0) 0) where
    pub down_at : b < 32 → Ok (with_pos p l (record { word = k; bit = b })) ≡ lowered ws m p l
    unfolding lowered
    down_at h = rw (← at, lt-ltb k m here, ← bit, lt-ltb b 32 h)

    pub down_full : 32 ≤ b → torn ≡ lowered ws m p l
    unfolding lowered
    down_full h = rw (← at, lt-ltb k m here, ← bit, le-ltb b 32 h)

-- forward from the position x
module _ (a : ℕ) (ws : List ℕ) (n : ℕ) (p : BitPtr) (l : ℕ) (x : BitPos) (at : x ≡ pos_at p l) where
  pub ahead_past : words_for n ≤ x.word → (Ok None) ≡ forwarded a ws n p l
  ahead_past h = rw (forwarded_by ws n p l a, ← at, le-ltb x.word (words_for n) h)

  module _ (here : x.word < words_for n) (b : ℕ) (bit : b ≡ clear_from (get_or ws x.word 0) x.bit) where
    pub ahead_at : b < 32 → Ok (Some (with_pos p l (record { word = x.word; bit = b }))) ≡ forwarded a ws n p l
    ahead_at h = rw (forwarded_by ws n p l a, ← at, lt-ltb x.word (words_for n) here, ← bit, lt-ltb b 32 h)

    beyond_is : 32 ≤ b → beyond ws n p l a ≡ forwarded a ws n p l
    beyond_is h = rw (forwarded_by ws n p l a, ← at, lt-ltb x.word (words_for n) here, ← bit, le-ltb b 32 h)

    -- no level above
    pub ahead_none : 32 ≤ b → a ≡ 0 → (Ok None) ≡ forwarded a ws n p l
    ahead_none h z = sym (beyond_none ws n p l a z) ∙ beyond_is h

    -- what the levels above found, and the way down from there
    pub ahead_down : 32 ≤ b → (a ≡ 0 → ⊥) → (r : Next) → r ≡ forwarded (a - 1) (drop (words_for n) ws) (words_for n) (climbed p l) (l + 1)
        → lowered_from ws (words_for n) l r ≡ forwarded a ws n p l
    ahead_down h f r e = ap (lowered_from ws (words_for n) l) e ∙ sym (beyond_more ws n p l a f) ∙ beyond_is h

-- what the levels above found, from what the code handed on: a part of the slice, the words counted, and the pointer climbed
pub handed_on : (a : ℕ) (ws : List ℕ) (m l words : ℕ) (p q : BitPtr) (r : Next) → words ≡ m → q ≡ climbed p l
    → r ≡ forwarded a (take (length ws - words) (drop words ws)) words q (l + 1) → r ≡ forwarded a (drop m ws) m (climbed p l) (l + 1)
handed_on a ws m l words p q r e f g = g ∙ rw (tail_part words ws, e, f)

-- so the bit that they found has a number that fits
pub handed_bound : (a : ℕ) (ws : List ℕ) (m : ℕ) (q x : BitPtr) (l : ℕ) → Ok (Some x) ≡ forwarded a ws m q l → index_of (pos_at x l) < words_for m * 32
handed_bound a ws m q x l e = subst (λ (r : Next). Bounded l (words_for m * 32) r) (sym e) (bounded a ws m q l)

-- the way down from what the levels above found: forward from the position x, past its word, by what the code handed on
module _ (a : ℕ) (ws : List ℕ) (n : ℕ) (p : BitPtr) (l : ℕ) (x : BitPos) (at : x ≡ pos_at p l)
    (words : ℕ) (counted : words ≡ words_for n) (here : x.word < words)
    (b : ℕ) (bit : b ≡ clear_from (get_or ws x.word 0) x.bit) (full : 32 ≤ b) (some_above : a ≡ 0 → ⊥)
    (q : BitPtr) (climb : q ≡ climbed p l) where
  pub way_down : (r : Next) → r ≡ forwarded (a - 1) (take (length ws - words) (drop words ws)) words q (l + 1)
      → lowered_from ws words l r ≡ forwarded a ws n p l
  way_down r e =
      rw counted (ahead_down a ws n p l x at (rw counted at here) b bit full some_above r (handed_on (a - 1) ws (words_for n) l words p q r counted climb e))

-- the answer, from where the pointer to the place led
pub answered : (a : ℕ) (ws : List ℕ) (n place : ℕ) (p : BitPtr) (x r : Next) → p ≡ ptr_to place → x ≡ forwarded a ws n p 0 → x ≡ r → block_at n r ≡ searched a ws n place
unfolding searched
answered a ws n place p x r e f g = rw (← e, ← f, g)

pub promised : (a : ℕ) (ws : List ℕ) (n place : ℕ) (r : Found) → ((i : ℕ) → get_or ws i 0 < 2 ^ 32) → r ≡ searched a ws n place → SearchPromise a ws n place r
promised a ws n place r fits e = record {
  moves = e;
  within = rw e (searched_within a ws n place);
  scan = λ tree. e ∙ searched_scan a ws n place fits tree;
}
