-- The plain scan for a free block. Document 01: "The search for a free block starts at the place .. It finds what a plain scan
-- finds." A block is free when its bit is 0.
use Rattle.std.specs.Prelude.{Option, Result, Ok, Some, None, ℕ, ◌-◌, ltb}
use Rattle.basics.specs.Pick.{pick}
use Rattle.words.specs.Bits.{first_zero}
use Rattle.bitmap_search.specs.declared.Torn.{Torn}

-- what a search for a free block finds: the block, none, or words that are no bitmap tree
abbrev pub Found : Type 0
Found = Result (Option ℕ) Torn

-- block k, if it is one of n
abbrev pub block_below : ℕ → ℕ → Found
block_below n k = pick (ltb k n) (Ok (Some k)) (Ok None)

-- the first of n blocks at or after a place whose bit is 0
unfoldable pub next_free : (ℕ → ℕ) → ℕ → ℕ → Found
next_free bit n place = block_below n (first_zero bit (n - place) place)
