-- `examine_sound::all_ok` meets its contract.
use mathlib.Core.Path.{◌∙◌}
use Rattle.layout.specs.Mem.{mem_of}
use Rattle.examine_sound.proofs.Phases.{classes_of, parts_fail, trace_fails, all_of}
use Rattle.examine_sound.proofs.all_ok.Goals as goal

pub returns-then-not-parts : goal.returns-then-not-parts
returns-then-not-parts c = parts_fail c.args.g (mem_of c.args.g c.args.mem.now) _ c.parts.ensures c.if-not-parts.true

pub returns-then-not-trace_ok : goal.returns-then-not-trace_ok
returns-then-not-trace_ok c =
    trace_fails c.args.g (mem_of c.args.g c.args.mem.now) _ c.trace_ok.ensures c.if-not-trace_ok.true

pub rest_ok-requires : goal.rest_ok-requires
rest_ok-requires c =
    let p = c.parts.ensures.sound c.if-not-parts.false in (
      c.requires.0,
      c.trace_ok.auto.scratch ∙ c.requires.1,
      classes_of c.args.g (mem_of c.args.g c.args.mem.now) p,
      p.phases,
      c.trace_ok.ensures.sound c.if-not-trace_ok.false,
    )

pub returns : goal.returns
returns c =
    all_of c.args.g (mem_of c.args.g c.args.mem.now)
    (c.parts.ensures.sound c.if-not-parts.false)
    (c.trace_ok.ensures.sound c.if-not-trace_ok.false) _ c.rest_ok.ensures
