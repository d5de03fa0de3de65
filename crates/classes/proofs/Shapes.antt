-- What holds of every class's shape: its blocks are within what three levels hold, its levels end in one word, and its bitmap
-- is no longer than the longest.
use mathlib.Core.Path.{◌≡◌, refl}
use mathlib.Core.Bool.{Bool, true, false}
use Prim.Native.Nat.{ℕ, ◌-◌, ◌^◌, ◌≤◌}
use native.Mathlib.Nat.{le_trans, div-le_self}
use native.Mathlib.Omega.{arith}
use lib.Dec.{T, leb, leb→le}
use Rattle.basics.specs.Pick.{pick}
use Rattle.words.specs.Levels.{Height, tree_words}
use Rattle.words.proofs.Trees.{levels_pos, levels_le, levels_end}
use Rattle.classes.specs.declared.SegmentShape.{SegmentShape}
use Rattle.std.specs.Prelude.{Some, None}
use Rattle.classes.specs.Class.{IsClass, class_test}
use Rattle.classes.specs.Shape.{segment_size, blocks_of, most_levels, shape_for, longest_of, segment_shape}
use Rattle.classes.proofs.Every.{every_class, at_class, class_passed}

-- a segment's blocks are no more than three levels hold
pub blocks_most : (z c : ℕ) → z ≤ 32 ^ most_levels → blocks_of z c ≤ 32 ^ most_levels
blocks_most z c h = le_trans (div-le_self z (2 ^ c)) h

-- a bitmap over n blocks has one level to three, and they end in one word
pub shape_levels_pos : (n : ℕ) → 1 ≤ (shape_for n).levels
shape_levels_pos n = levels_pos (most_levels - 1) n

pub shape_levels_most : (n : ℕ) → (shape_for n).levels ≤ most_levels
shape_levels_most n = levels_le most_levels n

pub shape_height : (n : ℕ) → n ≤ 32 ^ most_levels → Height ((shape_for n).levels - 1) n
shape_height n h = levels_end (most_levels - 1) n h

-- the shape that is found is that of the class's blocks, and there is such a class
pub record IsShape (z c : ℕ) (x : SegmentShape) : Type 0 where
  pub class : IsClass c
  pub shape : x ≡ shape_for (blocks_of z c)

pub shape_is : (z c : ℕ) (x : SegmentShape) → Some x ≡ segment_shape z c → IsShape z c x
shape_is z c x e = go (class_test c) refl e
  where
    go : (t : Bool) → class_test c ≡ t → Some x ≡ pick t (Some (shape_for (blocks_of z c))) None → IsShape z c x
    go true q f = record { class = class_passed c q; shape = (cc) }
    go false q f = let u : ◌≡◌ {A = ℕ} 0 1 = cc in absurd (omega arith)

-- every class's bitmap is within the longest of its size: one test at each class
unfoldable pub fits : ℕ → ℕ → Bool
fits z c = leb (tree_words ((shape_for (blocks_of z c)).levels - 1) (blocks_of z c)) (longest_of z)

pub longest : (z : ℕ) → T (every_class (fits z)) → (c : ℕ) → IsClass c → tree_words ((shape_for (blocks_of z c)).levels - 1) (blocks_of z c) ≤ longest_of z
unfolding fits
longest z t c k = leb→le _ _ (at_class (fits z) t c k)

pub class_fits : (c : ℕ) (x : SegmentShape) → IsShape segment_size c x → tree_words (x.levels - 1) x.blocks ≤ longest_of segment_size
unfolding fits
class_fits c x i = rw i.shape (longest segment_size tt c i.class)
