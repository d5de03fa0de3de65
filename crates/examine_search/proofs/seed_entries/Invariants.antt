-- `examine_search::seed_entries` meets its contract.
use mathlib.Core.Path.{◌≡◌}
use Rattle.std.specs.Prelude.{Some}
use lib.ListN.{length}
use Rattle.layout.specs.Mem.{mem_of}
use Rattle.examine_search.specs.Graph.{SeedBelow}
use Rattle.examine_search.specs.Scratch.{search_words, state_of, Came}
use Rattle.examine_search.proofs.seed_entries.Given as goal

abbrev pub invariant-loop-i : goal.invariant-loop-i
invariant-loop-i l = (length l.scratch ≡ search_words l.g) × Came l.g (mem_of l.g l.mem) (SeedBelow (mem_of l.g l.mem) l.i) (state_of l.g l.initial.scratch 0) (Some l.top) l.scratch
