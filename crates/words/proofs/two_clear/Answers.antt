-- `words::two_clear` meets its contract.
use native.Mathlib.Omega.{arith}
use Rattle.words.proofs.Second.{none_twice, twice}
use Rattle.words.proofs.two_clear.Goals as goal

pub returns-then-rest-ne0 : goal.returns-then-rest-ne0
returns-then-rest-ne0 c = twice c.args.w c.args.i (omega arith) c.requires c.if-rest-ne0.true

pub returns-else-rest-ne0 : goal.returns-else-rest-ne0
returns-else-rest-ne0 c = rw c.if-rest-ne0.false (none_twice c.args.w c.args.i (omega arith) c.requires c.if-rest-ne0.false)
