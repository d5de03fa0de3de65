-- The levels above level 0, made from it. Document 01: "A bit above level 0 is 1 exactly when its word below is all ones. Bits
-- past a level's end are 1."
use Rattle.std.specs.Prelude.{List, [], ◌∷◌, ◌++◌, ℕ, zero, suc, ◌+◌, ◌*◌, ltb, eqb, get_or, take, drop}
use Rattle.std.proofs.Math.Seq.{paste}
use Rattle.basics.specs.Pick.{pick}
use Rattle.words.specs.Levels.{words_for}
use Rattle.words.specs.Tree.{all_ones}

-- the word of the c bits from bit k on, lowest first
unfoldable pub word_from : (ℕ → ℕ) → ℕ → ℕ → ℕ
word_from bit zero k = 0
word_from bit (suc c) k = word_from bit c (suc k) * 2 + bit k

-- the c words of 32 bits from word j on
unfoldable pub packed : (ℕ → ℕ) → ℕ → ℕ → List ℕ
packed bit zero j = []
packed bit (suc c) j = word_from bit 32 (j * 32) ∷ packed bit c (suc j)

-- bit k of the level above the first m words: 1 where word k is all ones, and past the level's end
unfoldable pub full_bit : List ℕ → ℕ → ℕ → ℕ
full_bit ws m k = pick (ltb k m) (pick (eqb (get_or ws k 0) all_ones) 1 0) 1

-- the level above the first m words, written behind them
unfoldable pub summed : List ℕ → ℕ → List ℕ
summed ws m = paste ws m (packed (full_bit ws m) (words_for m) 0) (words_for m)

-- all levels above n bits, written anew
unfoldable pub rebuilt : ℕ → ℕ → List ℕ → List ℕ
rebuilt zero n ws = ws
rebuilt (suc above) n ws = take (words_for n) ws ++ rebuilt above (words_for n) (drop (words_for n) (summed ws (words_for n)))
