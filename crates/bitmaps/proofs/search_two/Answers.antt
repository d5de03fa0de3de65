-- `bitmaps::search_two` meets its contract.
use native.Mathlib.Omega.{arith}
use Rattle.classes.proofs.Shapes.{shape_levels_pos}
use Rattle.layout.specs.Geometry.{blocks_in}
use Rattle.bitmaps.proofs.Lent.{tree_at_lem}
use Rattle.bitmaps.proofs.search_two.Goals as goal

pub offset_bounds-mem-a : goal.offset_bounds-mem-a
offset_bounds-mem-a c =
    let part = tree_at_lem c.args.g c.args.mem.now c.requires.sized.0 c.args.s c.requires.sized.1 c.bitmap_from-a.result c.bitmap_from-b.result c.bitmap_from-a.ensures c.bitmap_from-b.ensures c.args.class c.requires.class in omega (arith, part.ends, part.within, c.well_formed.0.1)

pub slice_bounds-next_two-end : goal.slice_bounds-next_two-end
slice_bounds-next_two-end c =
    let part = tree_at_lem c.args.g c.args.mem.now c.requires.sized.0 c.args.s c.requires.sized.1 c.bitmap_from-a.result c.bitmap_from-b.result c.bitmap_from-a.ensures c.bitmap_from-b.ensures c.args.class c.requires.class in part.within

pub overflow_sub-shape : goal.overflow_sub-shape
overflow_sub-shape c =
    rw c.shape_in-shape.ensures (shape_levels_pos (blocks_in c.args.g c.args.class))

pub next_two-requires : goal.next_two-requires
next_two-requires c =
    let part = tree_at_lem c.args.g c.args.mem.now c.requires.sized.0 c.args.s c.requires.sized.1 c.bitmap_from-a.result c.bitmap_from-b.result c.bitmap_from-a.ensures c.bitmap_from-b.ensures c.args.class c.requires.class in rw c.shape_in-shape.ensures part.fits

pub returns : goal.returns
returns c =
    let part = tree_at_lem c.args.g c.args.mem.now c.requires.sized.0 c.args.s c.requires.sized.1 c.bitmap_from-a.result c.bitmap_from-b.result c.bitmap_from-a.ensures c.bitmap_from-b.ensures c.args.class c.requires.class in
    rw (c.shape_in-shape.ensures, part.is) at c.next_two.ensures
