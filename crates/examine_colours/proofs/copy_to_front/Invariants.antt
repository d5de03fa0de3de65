-- `examine_colours::copy_to_front` meets its contract.
use Rattle.examine_colours.proofs.Fields.{Copied}
use Rattle.examine_colours.proofs.copy_to_front.Given as goal

abbrev pub invariant-loop-i : goal.invariant-loop-i
invariant-loop-i l = Copied l.n l.initial.scratch l.scratch l.i
