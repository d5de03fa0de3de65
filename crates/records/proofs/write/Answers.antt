-- `records::write` meets its contract.
use mathlib.Core.Path.{refl, ◌∙◌}
use Rattle.records.proofs.write.Goals as goal

pub returns : goal.returns
returns c =
    c.clear_fields.ensures ∙ rw c.set_word.ensures refl
