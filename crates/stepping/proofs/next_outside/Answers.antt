-- `stepping::next_outside` meets its contract. The loop's invariant: no mutator from `from` to `j` is outside.
use Rattle.stepping.proofs.Answering.{none_yet, none_more, next_found, next_none}
use Rattle.stepping.proofs.next_outside.Goals as goal

pub loop-j-init : goal.loop-j-init
loop-j-init c = none_yet _ _

pub returns-then-state-eq-OUTSIDE : goal.returns-then-state-eq-OUTSIDE
returns-then-state-eq-OUTSIDE c = next_found _ _ _ c.loop-j.invariant c.loop-j-test.true _ c.state.ensures c.if-state-eq-OUTSIDE.true

pub loop-j-preserved : goal.loop-j-preserved
loop-j-preserved c = none_more _ _ _ c.loop-j.invariant _ c.state.ensures c.if-state-eq-OUTSIDE.false

pub returns : goal.returns
returns c = next_none _ _ _ c.loop-j.invariant c.loop-j-test.false
