-- `marks::is_set` meets its contract.
use Rattle.layout.proofs.Sizes.{mark_word}
use Rattle.marks.proofs.Marking.{bit_tested}
use Rattle.marks.proofs.is_set.Goals as goal

pub mark-w-requires : goal.mark-w-requires
mark-w-requires c = (c.requires.0, mark_word _ _ c.requires.1)

pub returns : goal.returns
returns c = bit_tested _ _ _ _ c.mark-w.ensures c.with_bit.ensures
