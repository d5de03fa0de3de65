-- `examine_search::live` meets its contract.
use mathlib.Core.Path.{◌∙◌}
use mathlib.Core.Logic.{◌⊎◌, inl}
use Rattle.std.specs.Prelude.{false, Some, None}
use Rattle.layout.specs.Mem.{mem_of}
use Rattle.model.specs.Reaching.{IsRoot, IsEntry}
use Rattle.examine_search.specs.declared.Edges.TheVariants.{All}
use Rattle.examine_search.specs.Scratch.{state_of}
use Rattle.examine_search.proofs.Steps.{came_fails, start_waits, finish_named, named_fails}
use Rattle.examine_search.proofs.Rooting.{roots_entries}
use Rattle.examine_search.proofs.Finding.{finds_all}
use Rattle.examine_search.proofs.live.Goals as goal

pub returns-in_default : goal.returns-in_default
returns-in_default c =
    let a = c.args in
    let m = mem_of a.g a.mem.now in
    let s = state_of a.g c.clear.new.scratch 0 in
    let q = c.follow_roots in
    finds_all a.g m (λ at. IsRoot m at ⊎ IsEntry m at) false q.new.scratch
    (named_fails a.g m (λ at. IsRoot m at ⊎ IsEntry m at) c.clear.new.scratch c.clear.ensures All q.new.scratch q.new.scratch
    (came_fails a.g m s (λ x p. inl p) q.new.scratch
    c.in_default.ensures q.new.scratch))

pub returns-in_default-follow_entries : goal.returns-in_default-follow_entries
returns-in_default-follow_entries c =
    let a = c.args in
    let m = mem_of a.g a.mem.now in
    let q = c.follow_entries in
    finds_all a.g m (λ at. IsRoot m at ⊎ IsEntry m at) false q.new.scratch
    (named_fails a.g m (λ at. IsRoot m at ⊎ IsEntry m at) c.clear.new.scratch c.clear.ensures All q.new.scratch q.new.scratch
    (roots_entries a.g m (state_of a.g c.clear.new.scratch 0) c.in-Some.roots None c.follow_roots.new.scratch q.new.scratch
    c.in-Some.ensures c.in_default-follow_entries.ensures))

pub finish-requires : goal.finish-requires
finish-requires c =
    let a = c.args in
    let m = mem_of a.g a.mem.now in
    let q = c.follow_entries in (
      record { sized = c.requires.sized; room = q.auto.scratch ∙ c.follow_roots.auto.scratch ∙ c.clear.auto.scratch ∙ c.requires.room },
      start_waits a.g m (λ at. IsRoot m at ⊎ IsEntry m at) c.clear.new.scratch c.clear.ensures c.in-Some-follow_entries.top q.new.scratch
          (roots_entries a.g m (state_of a.g c.clear.new.scratch 0) c.in-Some.roots (Some c.in-Some-follow_entries.top)
          c.follow_roots.new.scratch q.new.scratch c.in-Some.ensures c.in-Some-follow_entries.ensures),
    )

pub returns : goal.returns
returns c =
    let a = c.args in
    let m = mem_of a.g a.mem.now in
    finds_all a.g m (λ at. IsRoot m at ⊎ IsEntry m at) c.finish.result c.finish.new.scratch
    (finish_named a.g m (λ at. IsRoot m at ⊎ IsEntry m at) c.clear.new.scratch c.clear.ensures All c.in-Some-follow_entries.top
    c.finish.result c.follow_entries.new.scratch c.finish.new.scratch
    (roots_entries a.g m (state_of a.g c.clear.new.scratch 0) c.in-Some.roots (Some c.in-Some-follow_entries.top)
    c.follow_roots.new.scratch c.follow_entries.new.scratch c.in-Some.ensures c.in-Some-follow_entries.ensures)
    c.finish.ensures)
