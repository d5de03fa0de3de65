-- The lines of a stream of bytes, and what a splitter tells of each.
use Rattle.std.specs.Prelude.{ℕ, Bool, cond, List, [], ◌∷◌, map, leb, eqb, length}

-- a line feed
abbrev pub is_feed : ℕ → Bool
is_feed b = eqb b 10

-- a byte in front of the first line
abbrev pub begun : ℕ → List (List ℕ) → List (List ℕ)
begun b [] = (b ∷ []) ∷ []
begun b (l ∷ ls) = (b ∷ l) ∷ ls

-- "The line feed is not counted, and the last line may lack it": what stands before each line feed, and what follows the last
-- one unless that is nothing
unfoldable pub lines_of : List ℕ → List (List ℕ)
lines_of [] = []
lines_of (b ∷ s) = cond (is_feed b) ([] ∷ lines_of s) (begun b (lines_of s))

-- a line of "at most 80 bytes" whole, or that there was a longer one
pub data Telling : Type 0 where
  whole : List ℕ → Telling
  too_long : Telling

unfoldable pub told : List ℕ → Telling
told l = cond (leb (length l) 80) (whole l) too_long

-- what is told of a stream: one thing for each line, in order
abbrev pub told_of : List ℕ → List Telling
told_of s = map told (lines_of s)
