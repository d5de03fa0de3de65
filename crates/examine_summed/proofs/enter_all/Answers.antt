-- `examine_summed::enter_all` meets its contract. The loop's invariant: the entries passed are in the table, and no other segment.
use native.Mathlib.Omega.{arith}
use Rattle.examine_summed.proofs.Entering.{seen_none, seen_more, one_wrong, all_new}
use Rattle.examine_summed.proofs.enter_all.Goals as goal

pub loop-i-init : goal.loop-i-init
loop-i-init c = (omega arith, seen_none _ _ _ _ c.requires.seen_len.0 c.requires.seen_len.1)

pub enter-requires : goal.enter-requires
enter-requires c =
    record {
      sized = (c.requires.sized.0, c.requires.sized.1, (let l = c.loop-i-test.true in let n = c.requires.sized.3 in omega arith));
      seen_len = c.loop-i.invariant.1.long;
    }

pub returns-then-not-enter : goal.returns-then-not-enter
returns-then-not-enter c =
    one_wrong _ _ _ _ _ _ _ c.requires.sized.2 c.loop-i-test.true c.loop-i.invariant.1 _ c.enter.ensures c.if-not-enter.true

pub loop-i-preserved : goal.loop-i-preserved
loop-i-preserved c =
    (omega (arith, c.loop-i-test.true), seen_more _ _ _ _ _ c.loop-i.invariant.1 _ _ c.enter.ensures c.requires.sized.0.few c.if-not-enter.false)

pub returns : goal.returns
returns c = all_new _ _ _ _ _ _ c.requires.sized.2 c.loop-i.invariant.0 c.loop-i-test.false c.loop-i.invariant.1
