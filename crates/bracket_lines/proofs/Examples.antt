-- The lines of small streams, as rows of a table: `a` is 97, `b` 98, and a line feed 10.
use Prim.Native.Nat.{ℕ}
use mathlib.Core.Path.{◌≡◌, refl}
use mathlib.Core.List.{List, [], ◌∷◌}
use lib.ListN.{replicate}
use Rattle.bracket_lines.specs.Lines.{lines_of, whole, too_long, told}

-- a stream, and its lines: no line in no byte, none after a final line feed, and an empty one between two
abbrev pub rows : List (List ℕ × List (List ℕ))
rows =
    ([], [])
    ∷ (10 ∷ [], [] ∷ [])
    ∷ (97 ∷ [], (97 ∷ []) ∷ [])
    ∷ (97 ∷ 10 ∷ [], (97 ∷ []) ∷ [])
    ∷ (97 ∷ 10 ∷ 98 ∷ [], (97 ∷ []) ∷ (98 ∷ []) ∷ [])
    ∷ (97 ∷ 10 ∷ 10 ∷ 98 ∷ 10 ∷ [], (97 ∷ []) ∷ [] ∷ (98 ∷ []) ∷ [])
    ∷ []

abbrev Hold : List (List ℕ × List (List ℕ)) → Type 0
Hold [] = Unit {0}
Hold (x ∷ xs) = (lines_of x.0 ≡ x.1) × Hold xs

pub rows_hold : Hold rows
unfolding lines_of
rows_hold = (refl, (refl, (refl, (refl, (refl, (refl, tt))))))

-- 80 bytes are a line, 81 are too many
pub eighty : told (replicate 80 97) ≡ whole (replicate 80 97)
unfolding told
eighty = refl

pub eighty_one : told (replicate 81 97) ≡ too_long
unfolding told
eighty_one = refl
