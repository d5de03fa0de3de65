-- Document 01, "1, size": "segment count not 1 to 256, or a slice not of its length"; document 02, No. 6: "Each call names 16 or 32 KiB for the
-- whole heap beside the segment count, and slice lengths follow from both", "1 now covers a segment size other than these two"; and where the
-- regions of the lent slice begin.
use Rattle.std.specs.Prelude.{◌≡◌, Bool, true, false, List, [], ◌∷◌, ℕ, suc}
use Rattle.layout.specs.declared.Geometry.{Geometry}
use Rattle.layout.specs.Geometry.{wrong_size, from}

-- so many segments of so many KiB
abbrev pub heap : ℕ → ℕ → Geometry
heap n k = record { segments = n; kib = k }

-- a segment count, a size in KiB, a slice's length, and whether they are refused
pub record Row : Type 0 where
  pub segments : ℕ
  pub kib : ℕ
  pub length : ℕ
  pub refused : Bool

abbrev row : ℕ → ℕ → ℕ → Bool → Row
row n k x b = record { segments = n; kib = k; length = x; refused = b }

-- at 32 KiB, and either size with the lengths of the other
abbrev pub large_rows : List Row
large_rows =
    row 0 32 1053 true ∷ row 1 32 13621 false ∷ row 1 32 13620 true ∷ row 1 32 13622 true ∷ row 2 32 13621 true ∷ row 2 32 26189 false
    ∷ row 256 32 3218461 false ∷ row 257 32 3231029 true
    ∷ row 1 32 7347 true ∷ row 2 32 13641 true ∷ row 1 16 13621 true ∷ row 2 16 26189 true ∷ row 2 16 13621 true ∷ []

abbrev pub rows : List Row
rows =
    row 0 16 1053 true ∷ row 1 16 7347 false ∷ row 1 16 7346 true ∷ row 1 16 7348 true ∷ row 2 16 7347 true ∷ row 2 16 13641 false
    ∷ row 256 16 1612317 false ∷ row 257 16 1618611 true
    -- the lengths of the layout before: four words in each segment's record
    ∷ row 1 16 7345 true ∷ row 2 16 13637 true ∷ row 256 16 1611805 true ∷ large_rows

abbrev pub All : List Row → Type 0
All [] = Unit
All (r ∷ rs) = (wrong_size (heap r.segments r.kib) r.length ≡ r.refused) × All rs

-- "a segment size other than these two", the two in bytes among them
abbrev pub others : List ℕ
others = 0 ∷ 1 ∷ 15 ∷ 17 ∷ 31 ∷ 33 ∷ 48 ∷ 64 ∷ 16384 ∷ 32768 ∷ 4294967295 ∷ []

-- each is refused with either length of one segment
abbrev pub NoSizes : List ℕ → Type 0
NoSizes [] = Unit
NoSizes (k ∷ ks) = (wrong_size (heap 1 k) 7347 ≡ true) × (wrong_size (heap 1 k) 13621 ≡ true) × NoSizes ks

-- docs/LAYOUT.md: where the regions of a heap of two segments begin, and where the slice ends: at 16 KiB, and at 32 KiB
abbrev pub begins : List ℕ
begins = 0 ∷ 16 ∷ 1040 ∷ 9232 ∷ 9244 ∷ 9283 ∷ 9417 ∷ 9545 ∷ 13641 ∷ []

abbrev pub large_begins : List ℕ
large_begins = 0 ∷ 16 ∷ 1040 ∷ 17424 ∷ 17436 ∷ 17475 ∷ 17741 ∷ 17997 ∷ 26189 ∷ []

abbrev pub Begin : Geometry → ℕ → List ℕ → Type 0
Begin g k [] = Unit
Begin g k (x ∷ xs) = (from g k ≡ x) × Begin g (suc k) xs
