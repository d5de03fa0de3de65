-- `records::write_few` meets its contract.
use mathlib.Core.Path.{refl, ◌∙◌}
use Rattle.records.proofs.write_few.Goals as goal

pub returns : goal.returns
returns c =
    c.clear_few.ensures ∙ rw c.set_word.ensures refl
