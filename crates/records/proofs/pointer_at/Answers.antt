-- `records::pointer_at` meets its contract.
use Rattle.records.proofs.FieldTests.{pointer_off, no_pointer, pointer_torn, pointer_word}
use Rattle.records.proofs.pointer_at.Goals as goal

pub returns-then-end-at : goal.returns-then-end-at
returns-then-end-at c = pointer_off _ _ c.heap_words-end.ensures _ _ _ c.if-end-at.true

pub returns-then-shape-f : goal.returns-then-shape-f
returns-then-shape-f c = no_pointer _ _ c.heap_words-end.ensures _ _ _ _ c.shape-shape.ensures.shape c.if-end-at.false c.if-shape-f.true

pub returns-then-end-word : goal.returns-then-end-word
returns-then-end-word c =
    pointer_torn _ _ c.heap_words-end.ensures _ _ _ _ c.shape-shape.ensures.shape c.if-end-at.false c.if-shape-f.false c.if-end-word.true

pub returns : goal.returns
returns c =
    pointer_word _ _ c.heap_words-end.ensures _ _ _ _ c.shape-shape.ensures.shape c.if-end-at.false c.if-shape-f.false c.if-end-word.false
