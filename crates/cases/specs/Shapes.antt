-- The shape of a segment of each class at both sizes. Document 01 has the table of blocks and bitmap levels of ten classes; document 02, No. 2:
-- "Classes 13 (two blocks a segment) and 14 (one block) are added"; No. 6: "At 32 KiB class 3 has 4,096 blocks and three levels of 128, 4 and
-- 1 words. Each class has twice the blocks it has at 16 KiB".
use Rattle.std.specs.Prelude.{◌≡◌, List, [], ◌∷◌, ℕ, ◌-◌, ◌*◌, ◌^◌, get_or, Some, None, Ok}
use Rattle.classes.specs.Shape.{segment_size, large_size, segment_shape}
use Rattle.cases.specs.Rows.{BlockHolds}

-- a class, its blocks, its levels, and the words of each level
pub record Row : Type 0 where
  pub class : ℕ
  pub blocks : ℕ
  pub levels : ℕ
  pub words : List ℕ

abbrev row : ℕ → ℕ → ℕ → List ℕ → Row
row c b l ws = record { class = c; blocks = b; levels = l; words = ws }

-- at 16 KiB
abbrev pub small : List Row
small =
    row 3 2048 3 (64 ∷ 2 ∷ 1 ∷ []) ∷ row 4 1024 2 (32 ∷ 1 ∷ []) ∷ row 5 512 2 (16 ∷ 1 ∷ [])
    ∷ row 6 256 2 (8 ∷ 1 ∷ []) ∷ row 7 128 2 (4 ∷ 1 ∷ []) ∷ row 8 64 2 (2 ∷ 1 ∷ [])
    ∷ row 9 32 1 (1 ∷ []) ∷ row 10 16 1 (1 ∷ []) ∷ row 11 8 1 (1 ∷ [])
    ∷ row 12 4 1 (1 ∷ []) ∷ row 13 2 1 (1 ∷ []) ∷ row 14 1 1 (1 ∷ [])
    ∷ []

-- at 32 KiB
abbrev pub large : List Row
large =
    row 3 4096 3 (128 ∷ 4 ∷ 1 ∷ []) ∷ row 4 2048 3 (64 ∷ 2 ∷ 1 ∷ []) ∷ row 5 1024 2 (32 ∷ 1 ∷ [])
    ∷ row 6 512 2 (16 ∷ 1 ∷ []) ∷ row 7 256 2 (8 ∷ 1 ∷ []) ∷ row 8 128 2 (4 ∷ 1 ∷ [])
    ∷ row 9 64 2 (2 ∷ 1 ∷ []) ∷ row 10 32 1 (1 ∷ []) ∷ row 11 16 1 (1 ∷ [])
    ∷ row 12 8 1 (1 ∷ []) ∷ row 13 4 1 (1 ∷ []) ∷ row 14 2 1 (1 ∷ [])
    ∷ []

-- in a segment of z bytes; the words of a level that is not there are 0
abbrev pub Shaped : ℕ → List Row → Type 0
Shaped z [] = Unit
Shaped z (r ∷ rs) =
    (segment_shape z r.class
    ≡ Some (record { blocks = r.blocks; levels = r.levels; words0 = get_or r.words 0 0; words1 = get_or r.words 1 0; words2 = get_or r.words 2 0 }))
    × Shaped z rs

-- row by row the same class and "twice the blocks"
abbrev pub Twice : List Row → List Row → Type 0
Twice [] [] = Unit
Twice [] (y ∷ ys) = ⊥
Twice (x ∷ xs) [] = ⊥
Twice (x ∷ xs) (y ∷ ys) = (y.class ≡ x.class) × (y.blocks ≡ 2 * x.blocks) × Twice xs ys

pub record Shapes : Type 0 where
  pub at16 : Shaped segment_size small
  pub at32 : Shaped large_size large
  pub twice : Twice small large
  -- the classes are 3 to 14 at either size
  pub below : (segment_shape segment_size 2 ≡ None) × (segment_shape large_size 2 ≡ None)
  pub past : (segment_shape segment_size 15 ≡ None) × (segment_shape large_size 15 ≡ None)
  -- the blocks of class 14 at 32 KiB with no bit set, and the last of 32 of class 10
  pub first : BlockHolds large_size 14 (0 ∷ []) 0 (Ok (Some 0))
  pub second : BlockHolds large_size 14 (0 ∷ []) 1 (Ok (Some 1))
  pub none : BlockHolds large_size 14 (0 ∷ []) 2 (Ok None)
  pub last : BlockHolds large_size 10 ((2 ^ 31 - 1) ∷ []) 0 (Ok (Some 31))
