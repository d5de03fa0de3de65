-- `examine_search::follow_entries` meets its contract.
use Rattle.examine_search.specs.Scratch.{state_of}
use Rattle.examine_search.proofs.Rooting.{entries_all}
use native.Mathlib.Omega.{arith}
use Rattle.examine_search.proofs.follow_entries.Goals as goal

pub entry_count-count-requires : goal.entry_count-count-requires
entry_count-count-requires c = c.requires.0.sized

pub follow_run-requires : goal.follow_run-requires
follow_run-requires c = (c.requires.0, c.requires.1, omega (arith, c.entry_count-count.ensures.room))

pub returns : goal.returns
returns c =
    let a = c.args in
    entries_all a.g a.mem.now c.requires.0.sized (state_of a.g a.scratch.now a.top) _
    c.entry_count-count.ensures c.follow_run.result
    c.follow_run.new.scratch c.follow_run.ensures
