-- `starting::begin` meets its contract.
use Rattle.model_laws.proofs.Lengths.{sizes_of}
use Rattle.starting.proofs.Beginning.{started_by}
use Rattle.starting.proofs.begin.Goals as goal

pub returns : goal.returns
returns c =
    started_by _ _ (sizes_of _ _ c.requires) _ _ _ _ _ _ c.condemn.ensures c.empty_parts.ensures c.reset_acks.ensures c.clear_marks.ensures
    c.set_cursor.ensures c.set_phase.ensures
