-- `examine_search::reached` meets its contract.
use mathlib.Core.Path.{◌∙◌}
use Rattle.std.specs.Prelude.{false}
use Rattle.layout.specs.Mem.{mem_of}
use Rattle.model.specs.Reaching.{IsRoot}
use Rattle.examine_search.specs.declared.Edges.TheVariants.{All}
use Rattle.examine_search.proofs.Steps.{start_waits, finish_named, named_fails}
use Rattle.examine_search.proofs.Finding.{finds_all}
use Rattle.examine_search.proofs.reached.Goals as goal

pub returns-in_default : goal.returns-in_default
returns-in_default c =
    let a = c.args in
    let m = mem_of a.g a.mem.now in
    let q = c.follow_roots in
    finds_all a.g m (IsRoot m) false q.new.scratch
    (named_fails a.g m (IsRoot m) c.clear.new.scratch c.clear.ensures All q.new.scratch q.new.scratch
    c.in_default.ensures)

pub finish-requires : goal.finish-requires
finish-requires c =
    let m = mem_of c.args.g c.args.mem.now in
    let q = c.follow_roots in (
      record { sized = c.requires.sized; room = q.auto.scratch ∙ c.clear.auto.scratch ∙ c.requires.room },
      start_waits c.args.g m (IsRoot m) c.clear.new.scratch c.clear.ensures c.in-Some.top q.new.scratch c.in-Some.ensures,
    )

pub returns : goal.returns
returns c =
    let a = c.args in
    let m = mem_of a.g a.mem.now in
    finds_all a.g m (IsRoot m) c.finish.result c.finish.new.scratch
    (finish_named a.g m (IsRoot m) c.clear.new.scratch c.clear.ensures All c.in-Some.top
    c.finish.result c.follow_roots.new.scratch c.finish.new.scratch c.in-Some.ensures c.finish.ensures)
