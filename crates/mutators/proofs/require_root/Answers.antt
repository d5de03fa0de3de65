-- `mutators::require_root` meets its contract.
use mathlib.Core.Path.{◌∙◌}
use Rattle.theory.proofs.Refusals.{root_rest}
use Rattle.mutators.proofs.Inside.{inside_rest, one_root}
use Rattle.mutators.proofs.require_root.Goals as goal

pub returns-then-i-lt-ROOTS : goal.returns-then-i-lt-ROOTS
returns-then-i-lt-ROOTS c = let p = c.is_inside.ensures.sound c.if-is_inside.true in root_rest _ _ c.if-i-lt-ROOTS.true ∙ inside_rest _ _ _ p.0 p.1

pub returns : goal.returns
returns c = c.require_all.ensures ∙ one_root _ _ c.args.i
