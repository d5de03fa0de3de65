-- `words::ones_of` meets its contract.
use native.Mathlib.Omega.{arith}
use Rattle.words.proofs.Ones.{ones_word}
use Rattle.words.proofs.ones_of.Goals as goal

pub returns : goal.returns
returns c = ones_word c.args.w (omega arith)
