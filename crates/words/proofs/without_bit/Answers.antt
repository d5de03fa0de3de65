-- `words::without_bit` meets its contract.
use lib.Bits.{and_le_l}
use Rattle.words.proofs.Word.{one_shl, sub_without}
use Rattle.words.proofs.without_bit.Goals as goal

pub overflow_sub-result : goal.overflow_sub-result
overflow_sub-result c = and_le_l _ _

pub returns : goal.returns
returns c = rw (one_shl _ c.requires) (sub_without _ _)
