-- `looks::records_ok` meets its contract.
use Rattle.std.proofs.Common.{rules}
use Rattle.basics.proofs.Every.{every_below}
use Rattle.looks.proofs.records_ok.Goals as goal

pub returns : goal.returns
returns c = every_below c.all.ensures.ran (λ x b q k. search rules)
