-- `records::clear_three` meets its contract.
use native.Mathlib.Nat.{pos_of_ne-zero}
use Rattle.records.proofs.Cleared.{cleared_0, cleared_three}
use Rattle.records.proofs.clear_three.Goals as goal

pub returns-then-n-eq0 : goal.returns-then-n-eq0
returns-then-n-eq0 c = cleared_0 _ _ _ c.if-n-eq0.true

pub returns : goal.returns
returns c =
    cleared_three _ _ _ (pos_of_ne-zero c.if-n-eq0.false) c.requires.2 _ _ c.clear_two.ensures c.set_word.ensures
