-- `classes::class_of_few` meets its contract: the table's rule at the entry.
use mathlib.Core.Path.{ap, ◌∙◌}
use native.Mathlib.Omega.{arith}
use Rattle.std.specs.Prelude.{Some}
use Rattle.classes.proofs.ClassTable.{in_table}
use Rattle.classes.proofs.class_of_few.Goals as goal

pub returns : goal.returns
returns c = ap Some c.entry_at.ensures ∙ in_table c.args.fields (omega (arith, c.requires))
