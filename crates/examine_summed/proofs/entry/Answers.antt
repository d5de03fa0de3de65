-- `examine_summed::entry` meets its contract.
use native.Mathlib.Omega.{arith}
use Rattle.stacks.proofs.Stacking.{stack_inside}
use Rattle.examine_summed.proofs.entry.Goals as goal

pub overflow_mul-t : goal.overflow_mul-t
overflow_mul-t c = let q = stack_inside c.args.g c.args.t c.requires.1 in omega (arith, c.requires.0.few)

pub overflow_add-t : goal.overflow_add-t
overflow_add-t c = let q = stack_inside c.args.g c.args.t c.requires.1 in omega (arith, c.requires.0.few)

pub overflow_add-t-2 : goal.overflow_add-t-2
overflow_add-t-2 c = let q = stack_inside c.args.g c.args.t c.requires.1 in omega (arith, c.requires.0.few)

pub stack-requires : goal.stack-requires
stack-requires c = (c.requires.0, (let q = stack_inside c.args.g c.args.t c.requires.1 in omega (arith, c.requires.2)))
