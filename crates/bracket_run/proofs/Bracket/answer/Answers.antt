-- `bracket_run::Bracket::answer` meets its contract.
use Rattle.bracket_run.proofs.Replying.{wrote_line}
use Rattle.bracket_run.proofs.Bracket.answer.Goals as goal

pub returns-clause-wrote : goal.returns-clause-wrote
returns-clause-wrote c =
    wrote_line c.answer_line-said.ensures c.put_line-self.ensures
