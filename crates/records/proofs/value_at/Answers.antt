-- `records::value_at` meets its contract.
use Rattle.records.proofs.FieldTests.{value_off, no_value, value_torn, value_word}
use Rattle.records.proofs.value_at.Goals as goal

pub returns-then-end-at : goal.returns-then-end-at
returns-then-end-at c = value_off _ _ c.heap_words-end.ensures _ _ _ c.if-end-at.true

pub returns-then-shape-f : goal.returns-then-shape-f
returns-then-shape-f c = no_value _ _ c.heap_words-end.ensures _ _ _ _ c.shape-shape.ensures.shape c.if-end-at.false c.if-shape-f.true

pub returns-then-end-word : goal.returns-then-end-word
returns-then-end-word c =
    value_torn _ _ c.heap_words-end.ensures _ _ _ _ c.shape-shape.ensures.shape c.if-end-at.false c.if-shape-f.false c.if-end-word.true

pub returns : goal.returns
returns c =
    value_word _ _ c.heap_words-end.ensures _ _ _ _ c.shape-shape.ensures.shape c.if-end-at.false c.if-shape-f.false c.if-end-word.false
