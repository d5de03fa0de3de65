-- `examine_record::is_of_class` meets its contract.
use Rattle.examine_record.proofs.Fitting.{by_half}
use Rattle.examine_record.proofs.is_of_class.Goals as goal

pub returns-else-class-eq-FIRST_CLASS : goal.returns-else-class-eq-FIRST_CLASS
returns-else-class-eq-FIRST_CLASS c =
    by_half _ _ c.shape-shape.ensures.shape _ _ c.requires.2 c.block_words-words.ensures c.if-fields-words.true c.if-class-eq-FIRST_CLASS.false
