-- `mutators::write_entry` meets its contract.
use Rattle.mutators.proofs.Entry.{entry_written}
use Rattle.mutators.proofs.write_entry.Goals as goal

pub returns : goal.returns
returns c =
    entry_written _ _ _ _ _ _ _ _ _ c.clear_entry.ensures c.set_root.ensures c.set_state.ensures c.set_acks.ensures
