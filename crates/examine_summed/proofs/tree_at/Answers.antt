-- `examine_summed::tree_at` meets its contract.
use native.Mathlib.Omega.{arith}
use Rattle.bitmaps.proofs.Lent.{tree_at_lem}
use Rattle.examine_summed.proofs.Shapes.{part_room}
use Rattle.examine_summed.proofs.tree_at.Goals as goal

pub offset_bounds-mem-a : goal.offset_bounds-mem-a
offset_bounds-mem-a c =
    let part = tree_at_lem c.args.g c.args.mem.now c.requires.sized.0 c.args.s c.requires.sized.1 c.bitmap_from-a.result c.bitmap_from-b.result c.bitmap_from-a.ensures c.bitmap_from-b.ensures 3 (omega arith, omega arith) in omega (arith, part.ends, part.within, c.well_formed.0.1)

pub slice_bounds-is_tree-end : goal.slice_bounds-is_tree-end
slice_bounds-is_tree-end c =
    let part = tree_at_lem c.args.g c.args.mem.now c.requires.sized.0 c.args.s c.requires.sized.1 c.bitmap_from-a.result c.bitmap_from-b.result c.bitmap_from-a.ensures c.bitmap_from-b.ensures 3 (omega arith, omega arith) in part.within

pub is_tree-requires : goal.is_tree-requires
is_tree-requires c =
    let part = tree_at_lem c.args.g c.args.mem.now c.requires.sized.0 c.args.s c.requires.sized.1 c.bitmap_from-a.result c.bitmap_from-b.result c.bitmap_from-a.ensures c.bitmap_from-b.ensures 3 (omega arith, omega arith) in
    part_room _ _ c.requires.sized.0 _ c.requires.sized.1 _ _ _ part c.args.above c.args.n c.requires.n_bound

pub returns : goal.returns
returns c =
    let part = tree_at_lem c.args.g c.args.mem.now c.requires.sized.0 c.args.s c.requires.sized.1 c.bitmap_from-a.result c.bitmap_from-b.result c.bitmap_from-a.ensures c.bitmap_from-b.ensures 3 (omega arith, omega arith) in rw part.is at c.is_tree.ensures
