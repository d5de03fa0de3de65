-- `examine_cycle::fine_run` meets its contract.
use Prim.Native.Nat.{ℕ}
use mathlib.Core.Path.{subst}
use native.Mathlib.Omega.{arith}
use Rattle.basics.proofs.Deciding.{holds, fails, refuted}
use Rattle.layout.specs.Mem.{mem_of}
use Rattle.examine_search.specs.Graph.{words_of}
use Rattle.examine_search.proofs.Rooting.{length_most}
use Rattle.examine_cycle.specs.Judged.{FineRun}
use Rattle.examine_cycle.proofs.Judging.{run_more, run_one}
use Rattle.examine_cycle.proofs.fine_run.Goals as goal

pub loop-f-init : goal.loop-f-init
loop-f-init c = (omega arith, λ x q. absurd (omega (arith, q.within)))

pub overflow_add-from : goal.overflow_add-from
overflow_add-from c = omega (arith, c.requires.2, c.loop-f-test.true, length_most c.args.source c.args.g c.requires.0.few)

pub word-w-requires : goal.word-w-requires
word-w-requires c = (c.requires.0, omega (arith, c.requires.2, c.loop-f-test.true))

pub fine-requires : goal.fine-requires
fine-requires c = (c.requires.0, c.requires.1)

pub returns-then-not-fine : goal.returns-then-not-fine
returns-then-not-fine c =
    let a = c.args in
    let m = mem_of a.g a.mem.now in
    fails
    (λ q. refuted c.fine.ensures c.if-not-fine.true
    (run_one a.g m a.cover.now (words_of a.source m) a.from c.loop-f.f _ c.word-w.ensures a.count c.loop-f-test.true q))

pub loop-f-preserved : goal.loop-f-preserved
loop-f-preserved c =
    let a = c.args in
    let m = mem_of a.g a.mem.now in (
      omega (arith, c.loop-f-test.true),
      run_more a.g m a.cover.now (words_of a.source m) a.from c.loop-f.f _ c.word-w.ensures
          c.loop-f.invariant.1 (c.fine.ensures.sound c.if-not-fine.false),
    )

pub returns : goal.returns
returns c =
    let a = c.args in
    let m = mem_of a.g a.mem.now in
    holds (subst (λ (k : ℕ). FineRun a.g m a.cover.now (words_of a.source m) a.from k) (omega (arith, c.loop-f-test.false, c.loop-f.invariant.0)) c.loop-f.invariant.1)
