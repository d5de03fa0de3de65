-- `examine_summed::count` meets its contract.
use native.Mathlib.Omega.{arith}
use Rattle.stacks.proofs.Stacking.{stack_inside}
use Rattle.examine_summed.proofs.count.Goals as goal

pub overflow_mul-t : goal.overflow_mul-t
overflow_mul-t c = let q = stack_inside c.args.g c.args.t c.requires.1 in omega (arith, c.requires.0.few)

pub stack-requires : goal.stack-requires
stack-requires c = (c.requires.0, (let q = stack_inside c.args.g c.args.t c.requires.1 in omega arith))
