-- `bitmaps::near` meets its contract.
use native.Mathlib.Omega.{arith}
use Rattle.words.proofs.Trees.{words_in}
use Rattle.classes.specs.Class.{first_class}
use Rattle.layout.specs.Geometry.{most_blocks}
use Rattle.layout.specs.Mem.{mem_of}
use Rattle.model.specs.Segments.{above}
use Rattle.bitmaps.proofs.Lent.{tree_at_lem}
use Rattle.bitmaps.proofs.Own.{first_class_lem, word_below, near_in}
use Rattle.bitmaps.proofs.near.Goals as goal

pub offset_bounds-mem-a : goal.offset_bounds-mem-a
offset_bounds-mem-a c =
    let part = tree_at_lem c.args.g c.args.mem.now c.requires.0 c.args.s c.requires.1 c.bitmap_from-a.result c.bitmap_from-b.result c.bitmap_from-a.ensures c.bitmap_from-b.ensures first_class first_class_lem in omega (arith, part.ends, part.within, c.well_formed.0.1)

pub slice_bounds-more_in_word-end : goal.slice_bounds-more_in_word-end
slice_bounds-more_in_word-end c =
    let part = tree_at_lem c.args.g c.args.mem.now c.requires.0 c.args.s c.requires.1 c.bitmap_from-a.result c.bitmap_from-b.result c.bitmap_from-a.ensures c.bitmap_from-b.ensures first_class first_class_lem in part.within

pub more_in_word-requires : goal.more_in_word-requires
more_in_word-requires c =
    let part = tree_at_lem c.args.g c.args.mem.now c.requires.0 c.args.s c.requires.1 c.bitmap_from-a.result c.bitmap_from-b.result c.bitmap_from-a.ensures c.bitmap_from-b.ensures first_class first_class_lem in
    let x = c.args in
    let l = word_below x.g x.place c.block_number-at.result c.block_number-at.ensures in
    omega (arith, part.fits, words_in (above x.g first_class) (most_blocks x.g))

pub returns : goal.returns
returns c =
    let part = tree_at_lem c.args.g c.args.mem.now c.requires.0 c.args.s c.requires.1 c.bitmap_from-a.result c.bitmap_from-b.result c.bitmap_from-a.ensures c.bitmap_from-b.ensures first_class first_class_lem in
    let x = c.args in
    near_in x.g x.place c.block_number-at.result c.block_number-at.ensures (mem_of x.g x.mem.now) x.s c.more_in_word.result
    (rw part.is at c.more_in_word.ensures)
