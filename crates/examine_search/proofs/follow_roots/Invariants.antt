-- `examine_search::follow_roots` meets its contract.
use mathlib.Core.Path.{◌≡◌}
use Rattle.std.specs.Prelude.{Some}
use lib.ListN.{length}
use Rattle.layout.specs.Mem.{mem_of}
use Rattle.examine_search.specs.Graph.{RootBelow}
use Rattle.examine_search.specs.Scratch.{search_words, state_of, Came}
use Rattle.examine_search.proofs.follow_roots.Given as goal

abbrev pub invariant-loop-k : goal.invariant-loop-k
invariant-loop-k l = (length l.scratch ≡ search_words l.g) × Came l.g (mem_of l.g l.mem) (RootBelow (mem_of l.g l.mem) l.k) (state_of l.g l.initial.scratch 0) (Some l.top) l.scratch
