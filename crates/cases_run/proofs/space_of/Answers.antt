-- `cases_run::space_of` meets its contract.
use mathlib.Core.Path.{sym, ap, ◌∙◌}
use Prim.Native.Nat.{◌-◌}
use native.Mathlib.Nat.{le_trans}
use native.Mathlib.Omega.{arith}
use Rattle.words.proofs.Trees.{words_in}
use Rattle.classes.specs.declared.SegmentShape.{SegmentShape}
use Rattle.classes.specs.Shape.{segment_size, blocks_of}
use Rattle.classes.proofs.Shapes.{shape_is, shape_levels_pos, class_fits}
use Rattle.cases_run.proofs.space_of.Goals as goal

pub overflow_sub-result : goal.overflow_sub-result
overflow_sub-result c =
    let i = shape_is segment_size c.args.class c.in-Some.shape (sym c.in-Some.is ∙ c.segment_shape-shaped.ensures) in
    let e = ap (λ (x : SegmentShape). x.levels) i.shape in
    omega (arith, shape_levels_pos (blocks_of segment_size c.args.class))

pub returns-in-Some : goal.returns-in-Some
returns-in-Some c =
    let x = c.in-Some.shape in
    let i = shape_is segment_size c.args.class x (sym c.in-Some.is ∙ c.segment_shape-shaped.ensures) in
    let f = class_fits c.args.class x i in
    (f, le_trans (words_in (x.levels - 1) x.blocks) f)
