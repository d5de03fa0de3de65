-- `words::ones_from` meets its contract.
use native.Mathlib.Omega.{arith}
use lib.Pow.{pow-lt, pow_pos}
use Rattle.words.proofs.Word.{one_shl}
use Rattle.words.proofs.ones_from.Goals as goal

pub overflow_sub-result : goal.overflow_sub-result
overflow_sub-result c = omega (arith, one_shl c.args.i c.requires, pow_pos c.args.i)

pub returns : goal.returns
returns c = omega (arith, one_shl c.args.i c.requires, pow_pos c.args.i, pow-lt {i = c.args.i} {j = 32} c.requires)
