-- The text of a bracket form: its template, with the decimal of a number in the place of each `#`.
use Rattle.std.specs.Prelude.{ℕ, ◌≤◌, Bool, true, false, List, [], ◌∷◌, ◌++◌, ◌≡◌, eqb, length, get_or, take, drop}
use Prim.Native.String.{String}
use Rattle.decimals.specs.Ascii.{bytes}
use Rattle.decimals.specs.Decimal.{decimal, Word}

-- each number of a list has 32 bits
abbrev pub Words : List ℕ → Type 0
Words ns = (i : ℕ) → Word (get_or ns i 0)

-- the byte `#` of a template stands for a number
abbrev pub is_hole : ℕ → Bool
is_hole b = eqb b 35

-- a byte of a template as text: the next number's decimal for `#`, the byte itself otherwise
abbrev pub piece_text : Bool → ℕ → List ℕ → List ℕ
piece_text true b ns = decimal (get_or ns 0 0)
piece_text false b ns = b ∷ []

-- the numbers that are left after it
abbrev pub numbers_left : Bool → List ℕ → List ℕ
numbers_left true ns = drop 1 ns
numbers_left false ns = ns

-- how many numbers it takes
abbrev pub numbers_taken : Bool → ℕ
numbers_taken true = 1
numbers_taken false = 0

-- the text of a template with the numbers ns for its `#`s, in order
unfoldable pub fill : List ℕ → List ℕ → List ℕ
fill [] ns = []
fill (b ∷ t) ns = piece_text (is_hole b) b ns ++ fill t (numbers_left (is_hole b) ns)

-- a template and its numbers, written `"(rack #)" with 2 ∷ []`
pub record Spelling : Type 0 where
  pub template : List ℕ
  pub numbers : List ℕ

infix 5 ◌with◌
abbrev pub ◌with◌ : String → List ℕ → Spelling
s with ns = record { template = bytes s; numbers = ns }

-- its text
unfoldable pub text : Spelling → List ℕ
text s = fill s.template s.numbers

-- the answer of a writer of text: the text's length, with the text at the front of the buffer and the rest of it unchanged.
-- The last two follow from that: with them `&buf[..n]` needs no proof
pub record Written (text before : List ℕ) (r : ℕ) (after : List ℕ) : Type 0 where
  pub says : r ≡ length text
  pub front : after ≡ text ++ drop (length text) before
  pub inside : r ≤ length after
  pub counted : r ≡ length (take r after)
