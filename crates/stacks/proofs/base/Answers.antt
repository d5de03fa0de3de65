-- `stacks::base` meets its contract.
use mathlib.Core.Path.{refl}
use native.Mathlib.Omega.{arith}
use Rattle.stacks.proofs.Stacking.{stack_inside}
use Rattle.stacks.proofs.base.Goals as goal

pub overflow_mul-result : goal.overflow_mul-result
overflow_mul-result c = let q = stack_inside c.args.g c.args.t c.requires.1 in omega arith

pub returns : goal.returns
returns c = record { is = refl; inside = stack_inside c.args.g c.args.t c.requires.1 }
