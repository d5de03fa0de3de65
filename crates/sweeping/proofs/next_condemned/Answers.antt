-- `sweeping::next_condemned` meets its contract. The loop's invariant: the segments from `from` to `s` are not condemned.
use native.Mathlib.Omega.{arith}
use Rattle.sweeping.proofs.Scanned.{none_scanned, one_other, next_found, next_none}
use Rattle.sweeping.proofs.next_condemned.Goals as goal

pub loop-s-init : goal.loop-s-init
loop-s-init c = none_scanned _ _

pub returns-then-tag-eq-TAG_CONDEMNED : goal.returns-then-tag-eq-TAG_CONDEMNED
returns-then-tag-eq-TAG_CONDEMNED c = next_found _ _ _ _ c.loop-s.invariant _ c.tag.ensures c.if-tag-eq-TAG_CONDEMNED.true

pub loop-s-smaller : goal.loop-s-smaller
loop-s-smaller c = omega arith

pub loop-s-preserved : goal.loop-s-preserved
loop-s-preserved c =
    one_other c.args.g _ _ _ c.loop-s.invariant _ c.tag.ensures c.if-tag-eq-TAG_CONDEMNED.false

pub returns : goal.returns
returns c = next_none _ _ _ _ c.loop-s.invariant c.loop-s-test.false
