-- `examine_search::follow_run` meets its contract.
use mathlib.Core.Path.{◌∙◌, subst}
use Prim.Native.Nat.{ℕ}
use Rattle.std.specs.Prelude.{Some}
use Rattle.layout.specs.Mem.{mem_of}
use Rattle.examine_search.specs.Graph.{words_of, InRun}
use Rattle.examine_search.specs.Scratch.{state_of, Came}
use Rattle.examine_search.proofs.Steps.{came_more}
use native.Mathlib.Omega.{arith}
use Rattle.examine_search.proofs.follow_run.Goals as goal

pub loop-f-preserved : goal.loop-f-preserved
loop-f-preserved c =
    let a = c.args in
    let m = mem_of a.g a.mem.now in
    let l = c.loop-f in (
      c.follow.auto.scratch ∙ l.invariant.0,
      came_more a.g m (words_of a.source m) a.from (state_of a.g a.scratch.now a.top) l.f c.word-w.result
          c.word-w.ensures l.top (Some c.in_ok-top.top) l.scratch c.follow.new.scratch l.invariant.1 c.in_ok-top.ensures,
    )

pub returns : goal.returns
returns c =
    let a = c.args in
    let m = mem_of a.g a.mem.now in
    let l = c.loop-f in
    subst
    (λ (k : ℕ). Came a.g m (InRun (words_of a.source m) a.from k) (state_of a.g a.scratch.now a.top) (Some l.top) l.scratch)
    (omega (arith, c.loop-f-test.false, l.auto.f-end)) l.invariant.1
