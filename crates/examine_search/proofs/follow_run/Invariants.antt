-- `examine_search::follow_run` meets its contract.
use mathlib.Core.Path.{◌≡◌}
use Rattle.std.specs.Prelude.{Some}
use lib.ListN.{length}
use Rattle.layout.specs.Mem.{mem_of}
use Rattle.examine_search.specs.Graph.{words_of, InRun}
use Rattle.examine_search.specs.Scratch.{search_words, state_of, Came}
use Rattle.examine_search.proofs.follow_run.Given as goal

abbrev pub invariant-loop-f : goal.invariant-loop-f
invariant-loop-f l =
    (length l.scratch ≡ search_words l.g) × Came l.g (mem_of l.g l.mem) (InRun (words_of l.source (mem_of l.g l.mem)) l.from l.f) (state_of l.g l.initial.scratch l.initial.top) (Some l.top) l.scratch
