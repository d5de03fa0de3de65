-- The decimal of a number, in ASCII.
use Rattle.std.specs.Prelude.{ℕ, zero, suc, ◌+◌, ◌/◌, ◌%◌, ◌<◌, cond, List, [], ◌∷◌, ◌++◌, ltb}

-- the decimal digits of n, the last f of them: those of n / 10, then the last one; `0` is byte 48
unfoldable pub digits_of : ℕ → ℕ → List ℕ
digits_of zero n = []
digits_of (suc f) n = cond (ltb n 10) ((48 + n) ∷ []) (digits_of f (n / 10) ++ ((48 + n % 10) ∷ []))

-- document 01: "decimals without leading zeros up to 4,294,967,295": ten digits are enough for every number of 32 bits
unfoldable pub decimal : ℕ → List ℕ
decimal n = digits_of 10 n

-- a number of 32 bits (in no statement: contracts and proofs use it)
abbrev pub Word : ℕ → Type 0
Word n = n < 4294967296
