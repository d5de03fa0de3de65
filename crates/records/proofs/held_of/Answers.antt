-- `records::held_of` meets its contract.
use Rattle.records.proofs.FieldTests.{held_record}
use Rattle.records.proofs.held_of.Goals as goal

pub returns : goal.returns
returns c = held_record _ c.if-w-eq0.false
