-- `mutators::require_roots` meets its contract.
use mathlib.Core.Path.{◌∙◌}
use Rattle.theory.proofs.Refusals.{root_rest}
use Rattle.mutators.proofs.Inside.{inside_rest}
use Rattle.mutators.proofs.require_roots.Goals as goal

pub returns-then-j-lt-ROOTS : goal.returns-then-j-lt-ROOTS
returns-then-j-lt-ROOTS c =
    let p = c.is_inside.ensures.sound c.if-is_inside.true in
    root_rest _ _ c.if-j-lt-ROOTS.true ∙ root_rest _ _ c.if-i-lt-ROOTS.true ∙ inside_rest _ _ _ p.0 p.1
