-- A list of words cut into parts of given lengths, one after the other, and joined again.
use Rattle.std.specs.Prelude.{ℕ, zero, suc, ◌+◌, List, [], ◌∷◌, ◌++◌, length, take, drop}

abbrev pub parts : List ℕ → List ℕ → List (List ℕ)
parts [] l = []
parts (k ∷ ks) l = take k l ∷ parts ks (drop k l)

abbrev pub joined : List (List ℕ) → List ℕ
joined [] = []
joined (x ∷ xs) = x ++ joined xs

-- where part k begins
abbrev pub start : List ℕ → ℕ → ℕ
start [] k = 0
start (x ∷ ks) zero = 0
start (x ∷ ks) (suc k) = x + start ks k

-- how long the parts are (in no statement: proofs use it)
abbrev pub lengths : List (List ℕ) → List ℕ
lengths [] = []
lengths (x ∷ xs) = length x ∷ lengths xs
