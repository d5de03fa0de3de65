-- `bracket_steps::answer_line` meets its contract.
use borrow.Author.Rules.{rules}
use Rattle.layout.specs.Geometry.{segment_bytes}
use Rattle.bracket_steps.proofs.Carrying.{of_form, of_none}
use Rattle.bracket_steps.proofs.answer_line.Goals as goal

pub carry_out-requires : goal.carry_out-requires
unfolding segment_bytes
carry_out-requires c = search rules

pub returns-in-Some : goal.returns-in-Some
returns-in-Some c =
    of_form _ _ c.read_form.ensures c.in-Some.is c.task_of.ensures c.carry_out.ensures

pub returns-in-None : goal.returns-in-None
returns-in-None c = of_none _ _ c.read_form.ensures c.in-None.is
