-- Reading a line from left to right, as the functions of this crate do. proofs/Numbers.antt and proofs/Templates.antt tie it
-- to the texts of templates.
use Rattle.std.specs.Prelude.{ℕ, ◌+◌, ◌-◌, ◌*◌, ◌<◌, ◌≤◌, ◌≡◌, cond, List, [], ◌∷◌, ltb, eqb, length, drop, set, Some, None}
use Rattle.std.specs.Prelude.{Option as Maybe}
use Rattle.std.proofs.Math.Option.{Option, none, some}
use Rattle.bracket_text.specs.Text.{is_hole}
use Rattle.bracket_text.specs.declared.NumbersRead.{NumbersRead}

-- the value of a digit, and 10 for any other byte
abbrev pub digit_of : ℕ → ℕ
digit_of b = cond (ltb b 48) 10 (cond (ltb b 58) (b - 48) 10)

-- the answer of `digit`
abbrev pub IsDigit : ℕ → Maybe ℕ → Type 0
IsDigit b (Some d) = (d ≡ digit_of b) × (d < 10)
IsDigit b None = digit_of b ≡ 10

-- a number that was read, and the rest of the line
pub record NumberRead : Type 0 where
  pub value : ℕ
  pub rest : List ℕ

abbrev pub numbered : ℕ → List ℕ → Option NumberRead
numbered v l = some (record { value = v; rest = l })

-- going on after digits that make v: the digits that follow, each of which must keep the value below 2 ^ 32
unfoldable pub digits_on : ℕ → List ℕ → Option NumberRead
digits_on v [] = numbered v []
digits_on v (b ∷ l) =
    cond (ltb (digit_of b) 10)
    (cond (ltb (v * 10 + digit_of b) 4294967296) (digits_on (v * 10 + digit_of b) l) none)
    (numbered v (b ∷ l))

-- a number at the start of a line: a `0` stands alone
unfoldable pub number_of : List ℕ → Option NumberRead
number_of [] = none
number_of (b ∷ l) =
    cond (ltb (digit_of b) 10) (cond (eqb (digit_of b) 0) (numbered 0 l) (digits_on (digit_of b) l)) none

-- the answer of `number_at` over a line, from what stands at its place
abbrev pub Reads : List ℕ → Option NumberRead → Maybe (ℕ × ℕ) → Type 0
Reads line o (Some r) = (o ≡ numbered r.0 (drop r.1 line)) × (r.1 ≤ length line)
Reads line o None = o ≡ none

-- how far the reading of a template has come: the numbers read, their count, and the rest of the line
pub record Progress : Type 0 where
  pub count : ℕ
  pub numbers : List ℕ
  pub rest : List ℕ

abbrev pub reading : ℕ → List ℕ → List ℕ → Option Progress
reading n ns l = some (record { count = n; numbers = ns; rest = l })

-- a number goes to the next of five places
abbrev pub keep_number : ℕ → List ℕ → Option NumberRead → Option Progress
keep_number n ns none = none
keep_number n ns (some r) = cond (ltb n 5) (reading (n + 1) (set ns n r.value) r.rest) none

-- any other byte of a template must stand in the line
abbrev pub literal : ℕ → ℕ → List ℕ → List ℕ → Option Progress
literal b n ns [] = none
literal b n ns (x ∷ l) = cond (eqb x b) (reading n ns l) none

-- one byte of a template
unfoldable pub piece : ℕ → ℕ → List ℕ → List ℕ → Option Progress
piece b n ns l = cond (is_hole b) (keep_number n ns (number_of l)) (literal b n ns l)

-- the answer of `piece_at` over a line, and the numbers after it
abbrev pub PieceRead : List ℕ → Option Progress → Maybe ℕ → NumbersRead → Type 0
PieceRead line o (Some next) ns = (o ≡ reading ns.count ns.values (drop next line)) × (next ≤ length line) × (ns.count ≤ 5)
PieceRead line o None ns = o ≡ none

-- the line is whole
abbrev pub at_end : List ℕ → List ℕ → Option (List ℕ)
at_end ns [] = some ns
at_end ns (x ∷ l) = none

abbrev pub then_read : Option Progress → (Progress → Option (List ℕ)) → Option (List ℕ)
then_read none f = none
then_read (some r) f = f r

-- reading the rest of a line by the rest of a template: the numbers, if the line is the template's text
unfoldable pub matched : List ℕ → ℕ → List ℕ → List ℕ → Option (List ℕ)
matched [] n ns l = at_end ns l
matched (b ∷ t) n ns l = then_read (piece b n ns l) (λ r. matched t r.count r.numbers r.rest)

-- no number read yet
abbrev pub zeros : List ℕ
zeros = 0 ∷ 0 ∷ 0 ∷ 0 ∷ 0 ∷ []

-- the answer of `match_template`
abbrev pub Matches : Option (List ℕ) → Maybe (List ℕ) → Type 0
Matches o (Some ns) = o ≡ some ns
Matches o None = o ≡ none
