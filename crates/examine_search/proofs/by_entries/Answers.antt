-- `examine_search::by_entries` meets its contract.
use mathlib.Core.Path.{◌∙◌}
use Rattle.std.specs.Prelude.{false}
use Rattle.layout.specs.Mem.{mem_of}
use Rattle.examine_search.specs.declared.Edges.TheVariants.{Unentered}
use Rattle.examine_search.specs.Graph.{ByEntry}
use Rattle.examine_search.proofs.Steps.{start_waits, finish_named, named_fails}
use Rattle.examine_search.proofs.Finding.{finds_unentered}
use Rattle.examine_search.proofs.by_entries.Goals as goal

pub returns-in_default : goal.returns-in_default
returns-in_default c =
    let a = c.args in
    let m = mem_of a.g a.mem.now in
    let q = c.seed_entries in
    finds_unentered a.g m (ByEntry m) false q.new.scratch
    (named_fails a.g m (ByEntry m) c.clear.new.scratch c.clear.ensures Unentered q.new.scratch q.new.scratch
    c.in_default.ensures)

pub finish-requires : goal.finish-requires
finish-requires c =
    let m = mem_of c.args.g c.args.mem.now in
    let q = c.seed_entries in (
      record { sized = c.requires.sized; room = q.auto.scratch ∙ c.clear.auto.scratch ∙ c.requires.room },
      start_waits c.args.g m (ByEntry m) c.clear.new.scratch c.clear.ensures c.in-Some.top q.new.scratch c.in-Some.ensures,
    )

pub returns : goal.returns
returns c =
    let a = c.args in
    let m = mem_of a.g a.mem.now in
    finds_unentered a.g m (ByEntry m) c.finish.result c.finish.new.scratch
    (finish_named a.g m (ByEntry m) c.clear.new.scratch c.clear.ensures Unentered c.in-Some.top
    c.finish.result c.seed_entries.new.scratch c.finish.new.scratch c.in-Some.ensures c.finish.ensures)
