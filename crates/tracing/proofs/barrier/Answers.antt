-- `tracing::barrier` meets its contract.
use Rattle.tracing.proofs.Pushed.{barrier_nothing, barrier_old, barrier_stops, barrier_both}
use Rattle.tracing.proofs.barrier.Goals as goal

pub returns-then-push : goal.returns-then-push
returns-then-push c =
    barrier_both _ _ _ _ _ c.in-Both.is _ _ _ _ c.push.ensures c.if-push.true c.push-then-push.ensures

pub returns-in-Nothing : goal.returns-in-Nothing
returns-in-Nothing c = barrier_nothing _ _ _ _ _ c.in-Nothing.is

pub returns-else-push : goal.returns-else-push
returns-else-push c =
    barrier_stops _ _ _ _ _ c.in-Both.is _ _ c.push.ensures c.if-push.false

pub returns-in-Old : goal.returns-in-Old
returns-in-Old c = barrier_old _ _ _ _ _ c.in-Old.is _ _ c.push-in-Old.ensures
