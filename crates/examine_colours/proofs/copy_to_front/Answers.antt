-- `examine_colours::copy_to_front` meets its contract.
use native.Mathlib.Omega.{arith}
use Rattle.examine_colours.proofs.Fields.{copied_none, copied_more, copied_all}
use Rattle.examine_colours.proofs.copy_to_front.Goals as goal

pub loop-i-init : goal.loop-i-init
loop-i-init c = copied_none c.args.n c.args.scratch.now c.requires

pub overflow_add-from : goal.overflow_add-from
overflow_add-from c = omega (arith, c.requires, c.well_formed, c.loop-i-test.true)

pub offset_bounds-scratch-from : goal.offset_bounds-scratch-from
offset_bounds-scratch-from c = omega (arith, c.requires, c.well_formed, c.loop-i-test.true)

pub bounds-scratch-from : goal.bounds-scratch-from
bounds-scratch-from c = omega (arith, c.requires, c.loop-i.invariant.size, c.loop-i-test.true)

pub offset_bounds-scratch-i : goal.offset_bounds-scratch-i
offset_bounds-scratch-i c = omega (arith, c.requires, c.well_formed, c.loop-i-test.true)

pub bounds-scratch-i : goal.bounds-scratch-i
bounds-scratch-i c = omega (arith, c.requires, c.loop-i.invariant.size, c.loop-i-test.true)

pub loop-i-preserved : goal.loop-i-preserved
loop-i-preserved c =
    let l = c.loop-i in
    copied_more c.args.n c.args.scratch.now c.requires l.scratch l.i c.loop-i-test.true l.invariant

pub shape_of-scratch : goal.shape_of-scratch
shape_of-scratch c = c.loop-i.invariant.size

pub returns : goal.returns
returns c =
    let l = c.loop-i in
    copied_all c.args.n c.args.scratch.now c.requires l.scratch l.i c.loop-i-test.false l.invariant
