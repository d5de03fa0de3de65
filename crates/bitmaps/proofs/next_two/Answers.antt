-- `bitmaps::next_two` meets its contract.
use mathlib.Core.Path.{subst}
use native.Mathlib.Omega.{arith}
use Rattle.words.proofs.Trees.{words_in}
use Rattle.bitmap_search.specs.Twice.{NearPromise}
use Rattle.bitmap_search.proofs.AtPlace.{near_two}
use Rattle.layout.specs.Geometry.{blocks_in}
use Rattle.layout.specs.Mem.{mem_of}
use Rattle.model.specs.Segments.{above, bitmap}
use Rattle.bitmaps.proofs.Lent.{tree_at_lem}
use Rattle.bitmaps.proofs.next_two.Goals as goal

pub offset_bounds-mem-a : goal.offset_bounds-mem-a
offset_bounds-mem-a c =
    let part = tree_at_lem c.args.g c.args.mem.now c.requires.sized.0 c.args.s c.requires.sized.1 c.bitmap_from-a.result c.bitmap_from-b.result c.bitmap_from-a.ensures c.bitmap_from-b.ensures c.args.class c.requires.class in omega (arith, part.ends, part.within, c.well_formed.0.1)

pub slice_bounds-more_in_next-end : goal.slice_bounds-more_in_next-end
slice_bounds-more_in_next-end c =
    let part = tree_at_lem c.args.g c.args.mem.now c.requires.sized.0 c.args.s c.requires.sized.1 c.bitmap_from-a.result c.bitmap_from-b.result c.bitmap_from-a.ensures c.bitmap_from-b.ensures c.args.class c.requires.class in part.within

pub more_in_next-requires : goal.more_in_next-requires
more_in_next-requires c =
    let part = tree_at_lem c.args.g c.args.mem.now c.requires.sized.0 c.args.s c.requires.sized.1 c.bitmap_from-a.result c.bitmap_from-b.result c.bitmap_from-a.ensures c.bitmap_from-b.ensures c.args.class c.requires.class in
    let x = c.args in
    rw c.blocks_of-blocks.ensures (omega (arith, part.fits, words_in (above x.g x.class) (blocks_in x.g x.class)))

pub returns-in-Some : goal.returns-in-Some
returns-in-Some c =
    let part = tree_at_lem c.args.g c.args.mem.now c.requires.sized.0 c.args.s c.requires.sized.1 c.bitmap_from-a.result c.bitmap_from-b.result c.bitmap_from-a.ensures c.bitmap_from-b.ensures c.args.class c.requires.class in
    let x = c.args in
    near_two (above x.g x.class) (subst (NearPromise (bitmap x.g (mem_of x.g x.mem.now) x.s) (blocks_in x.g x.class) x.place) c.in-Some.is
    (rw (c.blocks_of-blocks.ensures, part.is) at c.more_in_next.ensures))
