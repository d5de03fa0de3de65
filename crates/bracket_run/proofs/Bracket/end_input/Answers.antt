-- `bracket_run::Bracket::end_input` is safe.
use mathlib.Core.Path.{sym, ◌∙◌}
use native.Mathlib.Omega.{arith}
use Rattle.bracket_run.proofs.Printing.{last_within}
use Rattle.bracket_run.proofs.Bracket.end_input.Goals as goal

pub hear-requires : goal.hear-requires
hear-requires g c = (omega arith, λ n e. omega (arith, last_within _ n (sym c.finish.ensures ∙ e)))
