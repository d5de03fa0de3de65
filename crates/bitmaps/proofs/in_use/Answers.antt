-- `bitmaps::in_use` meets its contract.
use native.Mathlib.Omega.{arith}
use Rattle.words.proofs.Trees.{words_in}
use Rattle.layout.specs.Geometry.{blocks_in}
use Rattle.model.specs.Segments.{above}
use Rattle.bitmaps.proofs.Lent.{tree_at_lem}
use Rattle.bitmaps.proofs.in_use.Goals as goal

pub offset_bounds-mem-a : goal.offset_bounds-mem-a
offset_bounds-mem-a c =
    let part = tree_at_lem c.args.g c.args.mem.now c.requires.sized.0 c.args.s c.requires.sized.1 c.bitmap_from-a.result c.bitmap_from-b.result c.bitmap_from-a.ensures c.bitmap_from-b.ensures c.args.class c.requires.class in omega (arith, part.ends, part.within, c.well_formed.0.1)

pub slice_bounds-used_among-end : goal.slice_bounds-used_among-end
slice_bounds-used_among-end c =
    let part = tree_at_lem c.args.g c.args.mem.now c.requires.sized.0 c.args.s c.requires.sized.1 c.bitmap_from-a.result c.bitmap_from-b.result c.bitmap_from-a.ensures c.bitmap_from-b.ensures c.args.class c.requires.class in part.within

pub used_among-requires : goal.used_among-requires
used_among-requires c =
    let part = tree_at_lem c.args.g c.args.mem.now c.requires.sized.0 c.args.s c.requires.sized.1 c.bitmap_from-a.result c.bitmap_from-b.result c.bitmap_from-a.ensures c.bitmap_from-b.ensures c.args.class c.requires.class in
    let x = c.args in
    rw c.blocks_in-blocks.ensures (omega (arith, part.fits, words_in (above x.g x.class) (blocks_in x.g x.class)))

pub returns : goal.returns
returns c =
    let part = tree_at_lem c.args.g c.args.mem.now c.requires.sized.0 c.args.s c.requires.sized.1 c.bitmap_from-a.result c.bitmap_from-b.result c.bitmap_from-a.ensures c.bitmap_from-b.ensures c.args.class c.requires.class in rw (c.blocks_in-blocks.ensures, part.is) at c.used_among.ensures
