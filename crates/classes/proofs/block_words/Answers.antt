-- `classes::block_words` meets its contract: the shift's word is one test at each class, which is computed.
use mathlib.Core.Bool.{Bool}
use Prim.Native.Nat.{ℕ, ◌-◌, ◌*◌, ◌%◌, ◌^◌}
use lib.Dec.{eqb, eqb→eq}
use Rattle.classes.specs.Class.{block_words}
use Rattle.classes.proofs.Every.{at_class}
use Rattle.classes.proofs.block_words.Goals as goal

right : ℕ → Bool
right c = eqb (1 * 2 ^ (c - 2) % 2 ^ 64) (block_words c)

pub returns : goal.returns
unfolding right
returns c = eqb→eq _ _ (at_class right tt _ c.requires)
