-- `examine_search::finish` meets its contract.
use mathlib.Core.Path.{◌≡◌}
use lib.ListN.{length}
use Rattle.layout.specs.Mem.{mem_of}
use Rattle.examine_search.specs.Scratch.{search_words}
use Rattle.examine_search.proofs.Steps.{Under, left_under}
use Rattle.examine_search.proofs.finish.Given as goal

abbrev pub invariant-loop-top : goal.invariant-loop-top
invariant-loop-top l = (length l.scratch ≡ search_words l.g) × Under l.g (mem_of l.g l.mem) l.edges l.initial.scratch l.initial.top l.top l.scratch

abbrev pub decreases-loop-top : goal.decreases-loop-top
decreases-loop-top l = left_under l.g (mem_of l.g l.mem) l.edges l.initial.scratch l.initial.top l.top l.scratch
