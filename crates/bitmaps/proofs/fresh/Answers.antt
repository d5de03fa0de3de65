-- `bitmaps::fresh` meets its contract.
use mathlib.Core.Path.{ap, ◌∙◌}
use Prim.Native.Nat.{◌-◌}
use native.Mathlib.Omega.{arith}
use Rattle.classes.specs.declared.SegmentShape.{SegmentShape}
use Rattle.classes.proofs.Shapes.{shape_levels_pos}
use Rattle.layout.specs.Geometry.{blocks_in}
use Rattle.layout.specs.Mem.{mem_of}
use Rattle.bitmap_write.specs.Completed.{fresh}
use Rattle.model.specs.Segments.{bitmap, set_bitmap}
use Rattle.bitmaps.proofs.Lent.{tree_at_lem, tree_put}
use Rattle.bitmaps.proofs.fresh.Goals as goal

pub offset_bounds-mem-a : goal.offset_bounds-mem-a
offset_bounds-mem-a c =
    let part = tree_at_lem c.args.g c.args.mem.now c.requires.sized.0 c.args.s c.requires.sized.1 c.bitmap_from-a.result c.bitmap_from-b.result c.bitmap_from-a.ensures c.bitmap_from-b.ensures c.args.class c.requires.class in omega (arith, part.ends, part.within, c.well_formed.0.1)

pub slice_bounds-make_fresh-end : goal.slice_bounds-make_fresh-end
slice_bounds-make_fresh-end c =
    let part = tree_at_lem c.args.g c.args.mem.now c.requires.sized.0 c.args.s c.requires.sized.1 c.bitmap_from-a.result c.bitmap_from-b.result c.bitmap_from-a.ensures c.bitmap_from-b.ensures c.args.class c.requires.class in part.within

pub overflow_sub-shape : goal.overflow_sub-shape
overflow_sub-shape c =
    rw c.shape_in-shape.ensures (shape_levels_pos (blocks_in c.args.g c.args.class))

pub make_fresh-requires : goal.make_fresh-requires
make_fresh-requires c =
    let part = tree_at_lem c.args.g c.args.mem.now c.requires.sized.0 c.args.s c.requires.sized.1 c.bitmap_from-a.result c.bitmap_from-b.result c.bitmap_from-a.ensures c.bitmap_from-b.ensures c.args.class c.requires.class in rw c.shape_in-shape.ensures part.fits

pub returns : goal.returns
returns c =
    let a = c.args in
    tree_put a.g a.mem.now c.requires.sized.0 a.s c.requires.sized.1 c.bitmap_from-a.result
    c.bitmap_from-b.result c.bitmap_from-a.ensures
    c.bitmap_from-b.ensures
    (fresh (c.shape_in-shape.result.levels - 1) c.shape_in-shape.result.blocks)
    c.make_fresh.new.s c.make_fresh.ensures c.make_fresh.auto.s
    ∙ ap
    (λ (h : SegmentShape). set_bitmap a.g (mem_of a.g a.mem.now) a.s (fresh (h.levels - 1) h.blocks (bitmap a.g (mem_of a.g a.mem.now) a.s)))
    c.shape_in-shape.ensures
