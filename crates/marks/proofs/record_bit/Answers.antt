-- `marks::record_bit` meets its contract.
use Rattle.marks.proofs.Bits.{off_torn, bit_at_lem}
use Rattle.marks.proofs.record_bit.Goals as goal

pub returns-then-heap_words-at : goal.returns-then-heap_words-at
returns-then-heap_words-at c = off_torn _ _ _ c.heap_words.ensures c.if-heap_words-at.true

pub returns : goal.returns
returns c =
    bit_at_lem _ _ _ c.heap_words.ensures c.if-heap_words-at.false _ c.mark_bit.ensures
