-- `examine_colours::tricolour` meets its contract.
use mathlib.Core.Path.{◌∙◌}
use lib.ListN.{drop}
use Rattle.basics.proofs.Deciding.{fails, refuted}
use Rattle.layout.specs.Mem.{mem_of}
use Rattle.model.specs.Reaching.{Live}
use Rattle.examine_colours.specs.Coloured.{Room}
use Rattle.examine_colours.proofs.Fields.{twice, resize}
use Rattle.examine_colours.proofs.Meaning.{finds_decides, bits_front}
use Rattle.examine_colours.proofs.tricolour.Goals as goal

pub returns-then-not-live_behind : goal.returns-then-not-live_behind
returns-then-not-live_behind c =
    let g = c.args.g in
    let m = mem_of g c.args.mem.now in
    fails (λ q. refuted (finds_decides g m (Live m) _ _ c.live_behind.ensures) c.if-not-live_behind.true q.records)

pub copy_to_front-requires : goal.copy_to_front-requires
copy_to_front-requires c =
    let g = c.args.g in
    let t = c.live_behind.new.scratch in
    let r : Room g c.args.mem.now c.front-n.result t =
    record { sized = c.requires.0; field = c.front-n.ensures; room = c.live_behind.auto.scratch ∙ c.requires.1 } in
    twice g c.args.mem.now c.front-n.result t r

pub covered-requires : goal.covered-requires
covered-requires c =
    let a = c.args in
    let g = a.g in
    let m = mem_of g a.mem.now in
    let n = c.front-n.result in
    let t = c.live_behind.new.scratch in
    let u = c.copy_to_front.new.scratch in
    let r : Room g a.mem.now n t = record { sized = c.requires.0; field = c.front-n.ensures; room = c.live_behind.auto.scratch ∙ c.requires.1 } in (
      resize g a.mem.now n t r u c.copy_to_front.auto.scratch,
      bits_front g m (Live m) a.mem.now n t r (drop n t) u c.copy_to_front.ensures
          (c.live_behind.ensures.good c.if-not-live_behind.false),
    )
