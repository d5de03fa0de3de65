-- `records::clear_four` meets its contract.
use Rattle.records.proofs.Cleared.{cleared_4}
use Rattle.records.proofs.clear_four.Goals as goal

pub returns : goal.returns
returns c =
    cleared_4 _ _ _ c.set_word.ensures _ c.set_word-2.ensures _ _ c.set_word-3.ensures c.set_word-4.ensures
