-- A template in a fixed byte string, which may have spaces (32) after it.
use Rattle.std.specs.Prelude.{ℕ, zero, suc, cond, List, eqb, length, get_or, take}

-- the template's length among the first n bytes
unfoldable pub length_from : List ℕ → ℕ → ℕ
length_from l zero = 0
length_from l (suc n) = cond (eqb (get_or l n 0) 32) (length_from l n) (suc n)

-- the template
unfoldable pub trimmed : List ℕ → List ℕ
trimmed l = take (length_from l (length l)) l
