-- `words::with_bit` meets its contract.
use Rattle.words.proofs.Word.{one_shl, or_with}
use Rattle.words.proofs.with_bit.Goals as goal

pub returns : goal.returns
returns c = rw (one_shl _ c.requires) (or_with _ _)
