-- The next free block and whether another remains after it, at once. Document 01, of make: it "takes the next free block ..; the place moves just
-- past it. .. When no free block remains at or after the new place, the segment becomes full in the same call".
use Rattle.std.specs.Prelude.{◌≡◌, List, Option, Ok, Err, Some, None, ℕ, ◌+◌, ◌*◌, ◌/◌, ◌<◌}
use Rattle.words.specs.Bits.{bit_at}
use Rattle.words.specs.Tree.{Level, Tree}
use Rattle.bitmap_search.specs.Scan.{next_free}
use Rattle.bitmap_search.specs.Pointer.{ptr_to}
use Rattle.bitmap_search.specs.Search.{forwarded, found_at}
use Rattle.bitmap_search.specs.Scan.{Found}
use Rattle.bitmap_search.specs.declared.Two.{Two}
use Rattle.bitmap_search.specs.declared.Two.TheVariants as two

-- block b was found, and from just after it another, none, or torn words
abbrev pub remains : ℕ → Found → Two
remains b (Ok (Some k)) = two.More b
remains b (Ok None) = two.Last b
remains b (Err _) = two.Torn

-- what was found, and what a search finds from just after it
abbrev pub and_after : (ℕ → Found) → Found → Two
and_after find (Ok (Some b)) = remains b (find (b + 1))
and_after find (Ok None) = two.Nothing
and_after find (Err _) = two.Torn

-- by the plain scan
abbrev pub next_two : (ℕ → ℕ) → ℕ → ℕ → Two
next_two bit n place = and_after (next_free bit n) (next_free bit n place)

-- the bit that a pointer to a place leads to; over torn words it may be one past n
abbrev pub reached : ℕ → List ℕ → ℕ → ℕ → Found
reached above ws n place = found_at 0 (forwarded above ws n (ptr_to place) 0)

-- a block that was found is one of n
abbrev pub TwoBelow : ℕ → Two → Type 0
TwoBelow n (two.More b) = b < n
TwoBelow n (two.Last b) = b < n
TwoBelow n two.Nothing = Unit
TwoBelow n two.Torn = Unit

-- what is promised of the answer, over any words and in a consistent tree
pub record TwoPromise (above : ℕ) (ws : List ℕ) (n place : ℕ) (r : Two) : Type 0 where
  pub within : TwoBelow n r
  pub scan : Tree above n ws → r ≡ next_two (bit_at ws) n place

-- what is promised where only the place's own word was asked: the block is one of that word, over any words; it is the scan's, and another remains, in a
-- level of any n bits that the place is below
abbrev pub OwnPromise : List ℕ → ℕ → Option ℕ → Type 0
OwnPromise ws place (Some b) = (b < (place / 32 + 1) * 32) × ((n : ℕ) → place < n → Level n ws → two.More b ≡ next_two (bit_at ws) n place)
OwnPromise ws place None = Unit

-- what is promised where only words at the place were asked: a block is one of n, over any words; it is the scan's, and another remains, in a level
-- of n bits
abbrev pub NearPromise : List ℕ → ℕ → ℕ → Option ℕ → Type 0
NearPromise ws n place (Some b) = (b < n) × (Level n ws → two.More b ≡ next_two (bit_at ws) n place)
NearPromise ws n place None = Unit
