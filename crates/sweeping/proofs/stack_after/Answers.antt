-- `sweeping::stack_after` meets its contract.
use mathlib.Core.Path.{refl, ◌∙◌}
use borrow.Author.Tests.{eq-eqb, ne_eqb}
use Rattle.sweeping.specs.Sweeping.{stack_after}
use Rattle.sweeping.proofs.stack_after.Goals as goal

pub returns-then-kept-eq0 : goal.returns-then-kept-eq0
unfolding stack_after
returns-then-kept-eq0 c = c.free_stack.ensures ∙ rw (eq-eqb _ _ c.if-kept-eq0.true) refl

pub returns : goal.returns
unfolding stack_after
returns c = c.part_stack.ensures ∙ rw (ne_eqb _ _ c.if-kept-eq0.false) refl
