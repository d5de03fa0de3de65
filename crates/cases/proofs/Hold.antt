-- Every row of the table holds, by computing the definitions.
use mathlib.Core.Path.{◌≡◌, refl}
use mathlib.Core.List.{List}
use Prim.Native.Nat.{ℕ, ◌^◌}
use lib.Dec.{T, leb, leb→le}
use lib.ListN.{length}
use Rattle.words.specs.Bits.{bit_of, bit_at, clear_from}
use Rattle.words.specs.Levels.{tree_words}
use Rattle.classes.specs.Class.{class_test}
use Rattle.classes.specs.Shape.{most_levels, blocks_of, shape_for, segment_shape}
use Rattle.std.specs.Prelude.{Some}
use Rattle.classes.proofs.Shapes.{blocks_most, shape_height}
use Rattle.bitmap_search.specs.Scan.{Found, next_free}
use Rattle.bitmap_search.specs.Search.{lowered, forwarded, searched}
use Rattle.bitmap_write.specs.Rebuild.{rebuilt}
use Rattle.bitmap_write.specs.Completed.{completed, padded}
use Rattle.bitmap_write.proofs.Completed.{completed_tree}
use Rattle.cases.specs.Rows.{long_rows, rows, above, tree_of, BlockHolds, All}

-- a block row from what is computed
pub row : {z class : ℕ} {bits : List ℕ} {place : ℕ} {found : Found} → T (leb z (32 ^ most_levels)) → T (leb (tree_words (above z class) (blocks_of z class)) (length bits))
    → segment_shape z class ≡ Some (shape_for (blocks_of z class)) → searched (above z class) (tree_of z class bits) (blocks_of z class) place ≡ found
    → next_free (bit_at (tree_of z class bits)) (blocks_of z class) place ≡ found → BlockHolds z class bits place found
row {z} {class} {bits} most room is search scan = record {
  class_is = is;
  consistent = completed_tree (above z class) (blocks_of z class) bits (leb→le _ _ room) (shape_height (blocks_of z class) (blocks_most z class (leb→le _ _ most)));
  search = search;
  scan = scan;
}

long_hold : All long_rows
unfolding class_test bit_of bit_at clear_from next_free lowered forwarded searched rebuilt completed padded
long_hold =
    (refl, (refl, (refl, (row tt tt refl refl refl, (row tt tt refl refl refl, (row tt tt refl refl refl, (row tt tt refl refl refl, (row tt tt refl refl refl, tt))))))))

pub all_hold : All rows
unfolding class_test bit_of bit_at clear_from next_free lowered forwarded searched rebuilt completed padded
all_hold =
    (refl, (refl, (refl, (refl, (refl, (refl, (refl, (refl, (refl, (refl, (row tt tt refl refl refl, (row tt tt refl refl refl, (row tt tt refl refl refl, long_hold)))))))))))))
