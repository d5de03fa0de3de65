-- `sheet::line_ok` meets its contract.
use Rattle.sheet.proofs.Records.{no_record, free_counted, too_many_kept, by_counts}
use Rattle.sheet.proofs.line_ok.Goals as goal

pub returns-then-not-record_ok : goal.returns-then-not-record_ok
returns-then-not-record_ok c = no_record _ _ _ _ c.record_ok.ensures c.if-not-record_ok.true

pub returns-then-tag-eq-TAG_FREE : goal.returns-then-tag-eq-TAG_FREE
returns-then-tag-eq-TAG_FREE c =
    free_counted _ _ _ _ c.record_ok.ensures c.if-not-record_ok.false _ c.tag-tag.ensures c.if-tag-eq-TAG_FREE.true

pub returns-then-blocks-kept : goal.returns-then-blocks-kept
returns-then-blocks-kept c =
    too_many_kept _ _ _ _ c.record_ok.ensures c.if-not-record_ok.false _ c.tag-tag.ensures c.if-tag-eq-TAG_FREE.false
    _ c.class-class.ensures _ c.blocks_in-blocks.ensures _ c.kept-kept.ensures c.if-blocks-kept.true

pub returns : goal.returns
returns c =
    by_counts _ _ _ _ c.record_ok.ensures c.if-not-record_ok.false _ c.tag-tag.ensures c.if-tag-eq-TAG_FREE.false
    _ c.class-class.ensures _ c.blocks_in-blocks.ensures _ c.kept-kept.ensures c.if-blocks-kept.false _ c.handed-handed.ensures
