-- The search in a bitmap tree, move by move, over words of any content. Document 01: "The search for a free block starts at
-- the place and climbs one level where the rest of a word is full." Torn: a summary bit that is 0 led to a word with no clear bit
-- or past the level, or to a block past n. A summary bit that is 1 over a word with a clear bit goes unnoticed: the word is skipped.
use Rattle.std.specs.Prelude.{◌≡◌, List, Option, Result, Ok, Err, Some, None, ℕ, zero, suc, ◌+◌, ◌<◌, ltb, get_or, drop}
use Rattle.basics.specs.Pick.{pick}
use Rattle.words.specs.Bits.{bit_at, clear_from}
use Rattle.words.specs.Levels.{words_for}
use Rattle.words.specs.Tree.{Tree}
use Rattle.bitmap_search.specs.Scan.{Found, next_free}
use Rattle.bitmap_search.specs.Pointer.{pos_at, with_pos, index_of, ptr_to, aimed}
use Rattle.bitmap_search.specs.declared.BitPtr.{BitPtr}
use Rattle.bitmap_search.specs.declared.Torn.{Torn}
use Rattle.bitmap_search.specs.declared.Next.{Next as Moved}
use Rattle.bitmap_search.specs.declared.Next.TheVariants as moved

-- what a move of a bit pointer comes to: the next pointer, no free bit, or words that are no bitmap tree
abbrev pub Next : Type 0
Next = Result (Option BitPtr) Torn

abbrev pub torn : {A : Type 0} → Result A Torn
torn = Err (record {})

-- the code's answer of a move, as one of these
abbrev pub next_of : Moved → Next
next_of (moved.At q) = Ok (Some q)
next_of moved.Nothing = Ok None
next_of moved.Torn = torn

-- in word j of a level: the pointer at the word's lowest clear bit at or after bit i, and something else where there is none
abbrev pub in_word : List ℕ → BitPtr → ℕ → ℕ → ℕ → Next → Next
in_word ws p level j i other =
    pick (ltb (clear_from (get_or ws j 0) i) 32) (Ok (Some (with_pos p level (record { word = j; bit = clear_from (get_or ws j 0) i })))) other

-- in word j of a level: the pointer at the word's lowest clear bit; torn where there is none
abbrev pub lowest : List ℕ → BitPtr → ℕ → ℕ → Result BitPtr Torn
lowest ws p level j = pick (ltb (clear_from (get_or ws j 0) 0) 32) (Ok (with_pos p level (record { word = j; bit = clear_from (get_or ws j 0) 0 }))) torn

-- one level up, to the bit of the next word
unfoldable pub climbed : BitPtr → ℕ → BitPtr
climbed p level = aimed p (level + 1) ((pos_at p level).word + 1)

-- one level down, to the lowest clear bit of the word that the bit stands for, one of m
unfoldable pub lowered : List ℕ → ℕ → BitPtr → ℕ → Result BitPtr Torn
lowered ws m p level =
    pick (ltb (index_of (pos_at p (level + 1))) m) (lowest ws p level (index_of (pos_at p (level + 1)))) torn

abbrev pub some_next : Result BitPtr Torn → Next
some_next (Ok q) = Ok (Some q)
some_next (Err _) = torn

abbrev pub lowered_from : List ℕ → ℕ → ℕ → Next → Next
lowered_from ws m level (Ok (Some q)) = some_next (lowered ws m q level)
lowered_from ws m level (Ok None) = Ok None
lowered_from ws m level (Err _) = torn

-- from the pointer's bit on in its word, one of a level of n bits; where that word has no clear bit, what the levels above gave
abbrev pub ahead : List ℕ → ℕ → BitPtr → ℕ → Next → Next
ahead ws n p level other =
    pick (ltb (pos_at p level).word (words_for n)) (in_word ws p level (pos_at p level).word (pos_at p level).bit other) (Ok None)

-- the next free bit of a level of n bits at or after the pointer's bit there: in its word, else by way of the levels above
unfoldable pub forwarded : ℕ → List ℕ → ℕ → BitPtr → ℕ → Next
forwarded zero ws n p level = ahead ws n p level (Ok None)
forwarded (suc above) ws n p level =
    ahead ws n p level (lowered_from ws (words_for n) level (forwarded above (drop (words_for n) ws) (words_for n) (climbed p level) (level + 1)))

-- what was found at a level, as the number of a bit
abbrev pub found_at : ℕ → Next → Found
found_at level (Ok (Some q)) = Ok (Some (index_of (pos_at q level)))
found_at level (Ok None) = (Ok None)
found_at level (Err _) = torn

-- the block that the pointer found, if it is one of n
abbrev pub block_at : ℕ → Next → Found
block_at n (Ok (Some q)) = pick (ltb (index_of (pos_at q 0)) n) (Ok (Some (index_of (pos_at q 0)))) torn
block_at n (Ok None) = (Ok None)
block_at n (Err _) = torn

-- the search, over words of any content
unfoldable pub searched : ℕ → List ℕ → ℕ → ℕ → Found
searched above ws n place = block_at n (forwarded above ws n (ptr_to place) 0)

-- a block that was found is one of n
abbrev pub BlockBelow : ℕ → Found → Type 0
BlockBelow n (Ok (Some k)) = k < n
BlockBelow n (Ok None) = Unit
BlockBelow n (Err _) = Unit

-- what the search promises of its answer, over any words and in a consistent tree
pub record SearchPromise (above : ℕ) (ws : List ℕ) (n place : ℕ) (r : Found) : Type 0 where
  pub moves : r ≡ searched above ws n place
  pub within : BlockBelow n r
  pub scan : Tree above n ws → r ≡ next_free (bit_at ws) n place
