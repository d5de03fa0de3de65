-- Document 01, "Class and block cases": "Fields to class: 0→3, 1→3, 2→4, 3→4, 4→5, 511→11, 512→12, 1,023→12, 1,024→refusal 9.
-- Class 9, bits 0 to 30 set: place 0 gives block 31; place 32 gives none. Class 10, no bit set: place 16 gives none." Document 02,
-- No. 2: "In document 01's rows 1,024 now gives class 13, and 4,096 refusal 9." In the same table stand rows of
-- our own, for the two classes that are new.
use Rattle.std.specs.Prelude.{◌≡◌, List, [], ◌∷◌, ℕ, ◌-◌, ◌^◌, Some, Ok, None}
use Rattle.words.specs.Bits.{bit_at}
use Rattle.words.specs.Tree.{Tree}
use Rattle.classes.specs.Class.{Outcome, value, refusal, outcome_of, class_of}
use Rattle.classes.specs.Shape.{segment_size, blocks_of, shape_for, segment_shape}
use Rattle.bitmap_search.specs.Scan.{next_free, Found}
use Rattle.bitmap_search.specs.Search.{searched}
use Rattle.bitmap_write.specs.Completed.{completed}

-- a row: a number of fields and the class finder's answer; or a class, the bits of its blocks in words, a place, and what is found
pub data Row : Type 0 where
  fields_row : ℕ → Outcome → Row
  block_row : (class : ℕ) (bits : List ℕ) (place : ℕ) → Found → Row

-- document 02, No. 2: the ends of classes 13 and 14, and the blocks of a free segment of each
abbrev pub long_rows : List Row
long_rows =
    fields_row 2047 (value 13) ∷ fields_row 2048 (value 14) ∷ fields_row 4095 (value 14)
    ∷ block_row 13 (0 ∷ []) 0 (Ok (Some 0)) ∷ block_row 13 (0 ∷ []) 1 (Ok (Some 1)) ∷ block_row 13 (0 ∷ []) 2 (Ok None)
    ∷ block_row 14 (0 ∷ []) 0 (Ok (Some 0)) ∷ block_row 14 (0 ∷ []) 1 (Ok None)
    ∷ []

abbrev pub rows : List Row
rows =
    fields_row 0 (value 3) ∷ fields_row 1 (value 3) ∷ fields_row 2 (value 4) ∷ fields_row 3 (value 4) ∷ fields_row 4 (value 5) ∷ fields_row 511 (value 11)
    ∷ fields_row 512 (value 12) ∷ fields_row 1023 (value 12) ∷ fields_row 1024 (value 13) ∷ fields_row 4096 (refusal 9)
    ∷ block_row 9 ((2 ^ 31 - 1) ∷ []) 0 (Ok (Some 31)) ∷ block_row 9 ((2 ^ 31 - 1) ∷ []) 32 (Ok None) ∷ block_row 10 (0 ∷ []) 16 (Ok None)
    ∷ long_rows

-- in a segment of z bytes: the levels above level 0 of a class's bitmap, and the tree over its blocks' bits
abbrev pub above : ℕ → ℕ → ℕ
above z class = (shape_for (blocks_of z class)).levels - 1

abbrev pub tree_of : ℕ → ℕ → List ℕ → List ℕ
tree_of z class bits = completed (above z class) (blocks_of z class) bits

-- a block row: there is such a class, the words are a consistent tree, and the search finds what a plain scan does
pub record BlockHolds (z class : ℕ) (bits : List ℕ) (place : ℕ) (found : Found) : Type 0 where
  pub class_is : segment_shape z class ≡ Some (shape_for (blocks_of z class))
  pub consistent : Tree (above z class) (blocks_of z class) (tree_of z class bits)
  pub search : searched (above z class) (tree_of z class bits) (blocks_of z class) place ≡ found
  pub scan : next_free (bit_at (tree_of z class bits)) (blocks_of z class) place ≡ found

abbrev pub Holds : Row → Type 0
Holds (fields_row n answer) = outcome_of (class_of n) ≡ answer
Holds (block_row class bits place found) = BlockHolds segment_size class bits place found

abbrev pub All : List Row → Type 0
All [] = Unit
All (row ∷ more) = Holds row × All more
