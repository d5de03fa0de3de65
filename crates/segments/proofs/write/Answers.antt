-- `segments::write` meets its contract.
use Rattle.segments.proofs.Records.{state_written}
use Rattle.model.specs.declared.SegmentState.TheVariants as state
use Rattle.segments.proofs.write.Goals as goal

pub returns-in-Free : goal.returns-in-Free
returns-in-Free c = state_written _ _ _ _ state.Free _ c.in-Free.is c.write_as.ensures

pub returns-in-Part : goal.returns-in-Part
returns-in-Part c =
    state_written _ _ _ _ (state.Part _ _) _ c.in-Part.is c.write_as-in-Part.ensures

pub returns-in-Held : goal.returns-in-Held
returns-in-Held c =
    state_written _ _ _ _ (state.Held _ _ _) _ c.in-Held.is c.write_as-in-Held.ensures

pub returns-in-Full : goal.returns-in-Full
returns-in-Full c =
    state_written _ _ _ _ (state.Full _) _ c.in-Full.is c.write_filled.ensures

pub returns-in-Condemned : goal.returns-in-Condemned
returns-in-Condemned c =
    state_written _ _ _ _ (state.Condemned _ _) _ c.in-Condemned.is c.write_as-in-Condemned.ensures
