-- `examine_record::test` meets its contract.
use mathlib.Core.Path.{◌∙◌, sym}
use Rattle.layout.specs.Mem.{mem_of}
use Rattle.examine_record.proofs.Testing.{segment_in, off_heap, in_heap, not_free, no_class, classed}
use Rattle.examine_record.proofs.test.Goals as goal

pub returns-then-heap_words-at : goal.returns-then-heap_words-at
returns-then-heap_words-at c = off_heap _ _ _ _ c.heap_words.ensures c.if-heap_words-at.true

pub tag-requires : goal.tag-requires
tag-requires c =
    (c.requires, segment_in _ _ _ _ c.heap_words.ensures c.if-heap_words-at.false c.segment_of-s.ensures)

pub returns-then-tag-eq-TAG_FREE : goal.returns-then-tag-eq-TAG_FREE
returns-then-tag-eq-TAG_FREE c = not_free _ _ _ _ c.segment_of-s.ensures _ c.tag.ensures c.if-tag-eq-TAG_FREE.true

pub class-class-requires : goal.class-class-requires
class-class-requires c =
    (c.requires, segment_in _ _ _ _ c.heap_words.ensures c.if-heap_words-at.false c.segment_of-s.ensures)

pub test_block-requires : goal.test_block-requires
test_block-requires c =
    let here = c.segment_of-s.ensures in
    let inside = in_heap _ (mem_of c.args.g c.args.mem.now) _ _ c.heap_words.ensures c.if-heap_words-at.false in
    let passed = sym c.is_class.ensures ∙ c.if-not-is_class.false in
    (c.requires, inside, here, classed _ _ _ _ here _ _ c.tag.ensures c.if-tag-eq-TAG_FREE.false c.class-class.ensures passed)

pub returns-then-not-is_class : goal.returns-then-not-is_class
returns-then-not-is_class c =
    no_class _ _ _ _ c.segment_of-s.ensures _ c.class-class.ensures (sym c.is_class.ensures ∙ c.if-not-is_class.true)
