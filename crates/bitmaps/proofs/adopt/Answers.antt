-- `bitmaps::adopt` meets its contract.
use mathlib.Core.Path.{ap, ◌∙◌}
use native.Mathlib.Omega.{arith}
use Rattle.classes.proofs.Shapes.{shape_levels_pos}
use Rattle.layout.specs.Geometry.{blocks_in, mark_bit}
use Rattle.bitmaps.proofs.Lent.{step_small, span, span_fits, span_put, span_ones}
use Rattle.bitmaps.proofs.adopt.Goals as goal

pub overflow_cast-step : goal.overflow_cast-step
overflow_cast-step c =
    omega (arith, step_small c.args.g c.args.class c.requires.class, c.mark_bit-step.ensures, c.block_words.ensures)

pub offset_bounds-mem-a : goal.offset_bounds-mem-a
offset_bounds-mem-a c =
    let reach = span c.args.g c.args.mem.now c.requires.sized.0 c.args.s c.requires.sized.1 _ _ _ c.bitmap_from-a.ensures c.marks_from-marks.ensures c.marks_from-b.ensures in
    omega (arith, reach.0, reach.1, reach.2, c.well_formed.0.1)

pub slice_bounds-adopt-count : goal.slice_bounds-adopt-count
slice_bounds-adopt-count c =
    let reach = span c.args.g c.args.mem.now c.requires.sized.0 c.args.s c.requires.sized.1 _ _ _ c.bitmap_from-a.ensures c.marks_from-marks.ensures c.marks_from-b.ensures in omega (arith, reach.0, reach.1)

pub slice_bounds-adopt-start : goal.slice_bounds-adopt-start
slice_bounds-adopt-start c =
    let reach = span c.args.g c.args.mem.now c.requires.sized.0 c.args.s c.requires.sized.1 _ _ _ c.bitmap_from-a.ensures c.marks_from-marks.ensures c.marks_from-b.ensures in omega (arith, reach.0, reach.1)

pub slice_bounds-adopt-end : goal.slice_bounds-adopt-end
slice_bounds-adopt-end c =
    let reach = span c.args.g c.args.mem.now c.requires.sized.0 c.args.s c.requires.sized.1 _ _ _ c.bitmap_from-a.ensures c.marks_from-marks.ensures c.marks_from-b.ensures in reach.2

pub overflow_sub-marks : goal.overflow_sub-marks
overflow_sub-marks c =
    let reach = span c.args.g c.args.mem.now c.requires.sized.0 c.args.s c.requires.sized.1 _ _ _ c.bitmap_from-a.ensures c.marks_from-marks.ensures c.marks_from-b.ensures in omega (arith, reach.0)

pub overflow_sub-shape : goal.overflow_sub-shape
overflow_sub-shape c =
    let a = c.args in
    rw c.shape_in-shape.ensures (shape_levels_pos (blocks_in a.g a.class))

pub adopt-requires : goal.adopt-requires
adopt-requires c =
    let a = c.args in
    let step = c.mark_bit-step.ensures ∙ ap mark_bit c.block_words.ensures in
    rw (c.shape_in-shape.ensures, step)
    (span_fits a.g a.mem.now c.requires.sized.0 a.s c.requires.sized.1 c.bitmap_from-a.result
    c.marks_from-marks.result c.marks_from-b.result c.bitmap_from-a.ensures
    c.marks_from-marks.ensures c.marks_from-b.ensures a.class c.requires.class)

pub returns : goal.returns
returns c =
    let a = c.args in
    let step = c.mark_bit-step.ensures ∙ ap mark_bit c.block_words.ensures in
    let t = rw (c.shape_in-shape.ensures, step) at c.adopt.ensures.s_after in record {
      mem_after = span_put a.g a.mem.now c.requires.sized.0 a.s c.requires.sized.1 c.bitmap_from-a.result
          c.marks_from-marks.result c.marks_from-b.result c.bitmap_from-a.ensures
          c.marks_from-marks.ensures c.marks_from-b.ensures a.class c.requires.class c.adopt.new.s t;
      ones = rw c.shape_in-shape.ensures at c.adopt.ensures.ones
          ∙ span_ones a.g a.mem.now c.requires.sized.0 a.s c.requires.sized.1 c.bitmap_from-a.result
          c.marks_from-marks.result c.marks_from-b.result c.bitmap_from-a.ensures
          c.marks_from-marks.ensures c.marks_from-b.ensures a.class c.requires.class c.adopt.new.s t;
    }
