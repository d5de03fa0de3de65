-- `examine_search::seed` meets its contract.
use mathlib.Core.Path.{◌∙◌}
use Rattle.layout.specs.Mem.{mem_of}
use Rattle.examine_search.specs.Scratch.{state_of}
use Rattle.examine_search.proofs.Rooting.{seed_ok, seed_then}
use Rattle.examine_search.proofs.seed.Goals as goal

pub follow_pointers-requires : goal.follow_pointers-requires
follow_pointers-requires c =
    let a = c.args in
    let f = c.follow in
    let k = seed_ok a.g (mem_of a.g a.mem.now) a.w (state_of a.g a.scratch.now a.top) c.in_ok-named.named f.new.scratch c.in_ok-named.ensures in
    (record { sized = c.requires.0.sized; room = f.auto.scratch ∙ c.requires.0.room }, k.0, k.1)

pub returns : goal.returns
returns c =
    let a = c.args in
    let p = c.follow_pointers in
    seed_then a.g (mem_of a.g a.mem.now) a.w (state_of a.g a.scratch.now a.top) c.in_ok-named.named p.result c.follow.new.scratch p.new.scratch c.in_ok-named.ensures p.ensures
