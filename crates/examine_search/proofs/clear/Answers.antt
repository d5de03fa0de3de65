-- `examine_search::clear` meets its contract.
use native.Mathlib.Omega.{arith}
use lib.ListN.{length-take}
use Rattle.examine_search.proofs.Steps.{base_is, cleared_part}
use Rattle.examine_search.proofs.clear.Goals as goal

pub returns : goal.returns
returns c =
    cleared_part c.args.g _ _ _ c.clear_all.ensures (simp length-take (omega (arith, base_is c.args.g _ _ c.requires.1 c.trace_words.ensures, c.requires.1)))
