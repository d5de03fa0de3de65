-- `examine_search::finish` meets its contract.
use mathlib.Core.Path.{◌∙◌}
use Rattle.layout.specs.Mem.{mem_of}
use Rattle.examine_search.proofs.Steps.{under_start, under_more, under_fails, under_end}
use Rattle.examine_search.proofs.finish.Goals as goal

pub loop-top-init : goal.loop-top-init
loop-top-init c = (c.requires.0.room, under_start c.args.g (mem_of c.args.g c.args.mem.now) c.args.edges c.args.scratch.now c.args.top c.requires.1)

pub returns-in_default : goal.returns-in_default
returns-in_default c =
    let a = c.args in
    let m = mem_of a.g a.mem.now in
    let l = c.loop-top in
    let t = c.turn in
    under_fails a.g m a.edges a.scratch.now a.top l.top l.scratch t.new.scratch l.invariant.1 c.loop-top-test.true
    c.in_default.ensures

pub loop-top-smaller : goal.loop-top-smaller
loop-top-smaller c =
    let a = c.args in
    let l = c.loop-top in
    (under_more a.g (mem_of a.g a.mem.now) a.edges a.scratch.now a.top l.top l.scratch c.turn.new.scratch l.invariant.1 c.loop-top-test.true c.in-Some.next c.in-Some.ensures).1

pub loop-top-preserved : goal.loop-top-preserved
loop-top-preserved c =
    let a = c.args in
    let l = c.loop-top in (
      c.turn.auto.scratch ∙ l.invariant.0,
      (under_more a.g (mem_of a.g a.mem.now) a.edges a.scratch.now a.top l.top l.scratch c.turn.new.scratch l.invariant.1 c.loop-top-test.true c.in-Some.next c.in-Some.ensures).0,
    )

pub returns : goal.returns
returns c =
    let a = c.args in
    let l = c.loop-top in
    under_end a.g (mem_of a.g a.mem.now) a.edges a.scratch.now a.top l.top l.scratch l.invariant.1 c.loop-top-test.false
