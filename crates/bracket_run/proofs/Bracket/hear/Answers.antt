-- `bracket_run::Bracket::hear` meets its contract.
use Rattle.bracket_run.proofs.Replying.{wrote_none, wrote_long}
use Rattle.bracket_run.proofs.Bracket.hear.Goals as goal

pub returns-in-More-clause-wrote : goal.returns-in-More-clause-wrote
returns-in-More-clause-wrote c = wrote_none _ _ _ c.in-More.is

pub returns-in-Overlong-clause-wrote : goal.returns-in-Overlong-clause-wrote
returns-in-Overlong-clause-wrote c = wrote_long _ c.in-Overlong.is c.put_line-self.ensures
