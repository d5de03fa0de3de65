-- `examine_parts::holdings` meets its contract.
use Rattle.std.proofs.Common.{rules}
use Rattle.examine_parts.proofs.From.{every_from}
use Rattle.examine_parts.proofs.holdings.Goals as goal

pub returns : goal.returns
returns c = every_from 3 12 c.all.ensures.ran (λ x b q k. search rules)
