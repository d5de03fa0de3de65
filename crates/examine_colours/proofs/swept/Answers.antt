-- `examine_colours::swept` meets its contract.
use mathlib.Core.Path.{◌∙◌}
use lib.ListN.{drop}
use Rattle.basics.proofs.Deciding.{fails, refuted}
use Rattle.layout.specs.Mem.{mem_of}
use Rattle.model.specs.Reaching.{Reached}
use Rattle.examine_colours.specs.Coloured.{Room}
use Rattle.examine_colours.proofs.Fields.{behind_room}
use Rattle.examine_colours.proofs.Meaning.{finds_decides, known_of, sweep_meaning}
use Rattle.examine_colours.proofs.swept.Goals as goal

pub returns-then-not-reached_behind : goal.returns-then-not-reached_behind
returns-then-not-reached_behind c =
    let g = c.args.g in
    let m = mem_of g c.args.mem.now in
    fails (λ q. refuted (finds_decides g m (Reached m) _ _ c.reached_behind.ensures) c.if-not-reached_behind.true q.records)

pub marks_in-requires : goal.marks_in-requires
marks_in-requires c =
    let a = c.args in
    let g = a.g in
    let m = mem_of g a.mem.now in
    let t = c.reached_behind.new.scratch in
    let r : Room g a.mem.now c.front-n.result t =
    record { sized = c.requires.0; field = c.front-n.ensures; room = c.reached_behind.auto.scratch ∙ c.requires.1 } in
    (r, known_of g m (Reached m) _ (c.reached_behind.ensures.good c.if-not-reached_behind.false) (behind_room g a.mem.now c.front-n.result t r))

pub returns : goal.returns
returns c =
    let a = c.args in
    let g = a.g in
    let m = mem_of g a.mem.now in
    let t = c.reached_behind.new.scratch in
    let r : Room g a.mem.now c.front-n.result t =
    record { sized = c.requires.0; field = c.front-n.ensures; room = c.reached_behind.auto.scratch ∙ c.requires.1 } in
    sweep_meaning g m (drop c.front-n.result t) (drop c.front-n.result t)
    (c.reached_behind.ensures.good c.if-not-reached_behind.false)
    (behind_room g a.mem.now c.front-n.result t r) _ c.marks_in.ensures
