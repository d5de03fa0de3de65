-- `mutators::require_inside` meets its contract.
use mathlib.Core.Path.{◌∙◌}
use Rattle.mutators.proofs.Inside.{inside_rest, no_root}
use Rattle.mutators.proofs.require_inside.Goals as goal

pub returns-then-is_inside : goal.returns-then-is_inside
returns-then-is_inside c = let p = c.is_inside.ensures.sound c.if-is_inside.true in inside_rest _ _ _ p.0 p.1

pub returns : goal.returns
returns c = c.require_all.ensures ∙ no_root _ _
