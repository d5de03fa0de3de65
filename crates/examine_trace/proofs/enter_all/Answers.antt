-- `examine_trace::enter_all` meets its contract.
use mathlib.Core.Path.{◌∙◌}
use native.Mathlib.Omega.{arith}
use Rattle.examine_trace.proofs.Entering.{seen_none, seen_more, one_wrong, all_new}
use Rattle.examine_trace.proofs.enter_all.Goals as goal

pub loop-i-init : goal.loop-i-init
loop-i-init c = (omega arith, omega arith, seen_none _ _ _ c.requires.g_in_bounds.0 c.requires.g_in_bounds.1)

pub enter-requires : goal.enter-requires
enter-requires c =
    (c.requires.sized.0, (let l = c.loop-i-test.true in let n = c.requires.sized.2 in omega arith), c.loop-i.invariant.2.long)

pub shape_of-scratch-then-not-enter : goal.shape_of-scratch-then-not-enter
shape_of-scratch-then-not-enter c =
    c.enter.auto.scratch ∙ c.loop-i.invariant.1

pub returns-then-not-enter : goal.returns-then-not-enter
returns-then-not-enter c =
    one_wrong _ _ _ _ _ _ c.requires.sized.1 c.loop-i-test.true c.loop-i.invariant.2 _ c.enter.ensures c.if-not-enter.true

pub loop-i-preserved : goal.loop-i-preserved
loop-i-preserved c = (
  omega (arith, c.loop-i-test.true),
  c.enter.auto.scratch ∙ c.loop-i.invariant.1,
  seen_more _ _ _ _ c.loop-i.invariant.2 _ _ c.enter.ensures c.if-not-enter.false,
)

pub shape_of-scratch : goal.shape_of-scratch
shape_of-scratch c = c.loop-i.invariant.1

pub returns : goal.returns
returns c = all_new _ _ _ _ _ c.requires.sized.1 c.loop-i.invariant.0 c.loop-i-test.false c.loop-i.invariant.2
