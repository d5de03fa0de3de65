-- `records::clear_two` meets its contract.
use mathlib.Core.Path.{refl}
use borrow.Author.Tests.{eq-eqb, ne_eqb}
use Rattle.records.proofs.Cleared.{cleared_pair}
use Rattle.records.proofs.clear_two.Goals as goal

pub returns-then-n-ne1 : goal.returns-then-n-ne1
returns-then-n-ne1 c =
    rw (ne_eqb _ 1 c.if-n-ne1.true) (cleared_pair _ _ _ _ c.set_word.ensures c.set_word-then-n-ne1.ensures)

pub returns : goal.returns
returns c = rw (eq-eqb _ 1 c.if-n-ne1.false) refl
