-- `examine_parts::none_before` meets its contract.
use Rattle.std.proofs.Common.{rules}
use Rattle.basics.proofs.Every.{every_below}
use Rattle.examine_parts.proofs.none_before.Goals as goal

pub returns : goal.returns
returns c = every_below c.all.ensures.ran (λ x b q k. search rules)
