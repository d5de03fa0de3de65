-- `words::clear_after` meets its contract.
use native.Mathlib.Omega.{arith}
use Rattle.words.proofs.Second.{after_bit}
use Rattle.words.proofs.clear_after.Goals as goal

pub returns : goal.returns
returns c = after_bit c.args.w (omega arith) c.args.i c.requires
