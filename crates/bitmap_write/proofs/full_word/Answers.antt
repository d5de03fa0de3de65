-- `bitmap_write::full_word` meets its contract.
use mathlib.Core.Logic.{inl, inr}
use native.Mathlib.Omega.{arith}
use Rattle.bitmap_write.proofs.full_word.Goals as goal

pub counted_word-requires : goal.counted_word-requires
counted_word-requires c = let l = c.requires in (l.0, omega arith, omega arith, inl (omega arith))

pub counted_word-requires-2 : goal.counted_word-requires-2
counted_word-requires-2 c = let l = c.requires in (l.0, omega arith, omega arith, inr (omega arith))
