-- `marks::set` meets its contract.
use Rattle.layout.proofs.Sizes.{mark_word}
use Rattle.marks.proofs.Marking.{bit_written}
use Rattle.marks.proofs.set.Goals as goal

pub mark-w-requires : goal.mark-w-requires
mark-w-requires c =
    (c.requires.0, mark_word _ _ c.requires.1)

pub set_mark-requires : goal.set_mark-requires
set_mark-requires c =
    (c.requires.0, mark_word _ _ c.requires.1)

pub returns : goal.returns
returns c =
    bit_written _ _ _ _ c.mark-w.ensures c.with_bit.ensures _ c.set_mark.ensures
