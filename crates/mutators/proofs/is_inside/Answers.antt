-- `mutators::is_inside` meets its contract.
use Rattle.mutators.proofs.Inside.{unknown_no, state_says}
use Rattle.mutators.proofs.is_inside.Goals as goal

pub returns-then-k-ge-MUTATORS : goal.returns-then-k-ge-MUTATORS
returns-then-k-ge-MUTATORS c = unknown_no _ _ c.if-k-ge-MUTATORS.true

pub returns : goal.returns
returns c = state_says _ _ c.if-k-ge-MUTATORS.false _ c.state.ensures
