-- `sweeping::sweep` meets its contract.
use mathlib.Core.Path.{subst}
use Rattle.model_laws.proofs.Lengths.{sizes_of}
use Rattle.sweeping.proofs.Sweeping.{lowest_condemned, sweep_sweeps, sweep_done}
use Rattle.sweeping.specs.Sweeping.{Finds}
use Rattle.sweeping.proofs.sweep.Goals as goal

pub sweep_segment-requires : goal.sweep_segment-requires
sweep_segment-requires c =
    let h = lowest_condemned _ _ _ (subst (Finds _ _) c.in-Some.is c.lowest_condemned.ensures) in
    record {
      sized = (c.requires, h.0);
      s_value = h.1;
    }

pub returns-in-Some : goal.returns-in-Some
returns-in-Some c =
    sweep_sweeps _ _ _ (subst (Finds _ _) c.in-Some.is c.lowest_condemned.ensures) (sizes_of _ _ c.requires) _ _ c.sweep_segment.ensures

pub returns-in-None : goal.returns-in-None
returns-in-None c =
    sweep_done _ _ (subst (Finds _ _) c.in-None.is c.lowest_condemned.ensures) _ c.set_phase.ensures
