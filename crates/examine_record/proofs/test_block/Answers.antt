-- `examine_record::test_block` meets its contract.
use Rattle.layout.specs.Mem.{mem_of}
use Rattle.classes.proofs.Filling.{two_words}
use Rattle.basics.proofs.Deciding.{refuted}
use Rattle.examine_record.proofs.Testing.{head_block, head_segment, not_head, not_used, not_sized, passes}
use native.Mathlib.Omega.{arith}
use Rattle.examine_record.proofs.test_block.Goals as goal
use Rattle.examine_record.proofs.test_block.Goals.{else-is_used-via-then-is_used+else-is_of_class, else-is_used-via-else-is_used}

pub block_words-words-requires : goal.block_words-words-requires
block_words-words-requires c = c.requires.3.class

pub nonzero_rem-offset : goal.nonzero_rem-offset
nonzero_rem-offset c = let l = two_words _ c.requires.3.class in let e = c.block_words-words.ensures in omega arith

pub returns-then-offset-words-ne0 : goal.returns-then-offset-words-ne0
returns-then-offset-words-ne0 c =
    not_head _ _ _ _ _ c.requires.2 c.requires.3 _ _ c.offset_of-offset.ensures c.block_words-words.ensures c.if-offset-words-ne0.true

pub nonzero_div-b : goal.nonzero_div-b
nonzero_div-b c = let l = two_words _ c.requires.3.class in let e = c.block_words-words.ensures in omega arith

pub is_used-requires : goal.is_used-requires
is_used-requires c =
    let a = c.args in (
      c.requires.0,
      head_segment _ (mem_of a.g a.mem.now) _ _ _ c.requires.2 c.requires.3 _ _ c.offset_of-offset.ensures
          c.block_words-words.ensures c.requires.1,
      head_block _ (mem_of a.g a.mem.now) _ _ _ c.requires.2 c.requires.3 _ _ c.offset_of-offset.ensures
          c.block_words-words.ensures,
    )

pub is_of_class-requires : goal.is_of_class-requires
is_of_class-requires c = (c.requires.0, c.requires.1, c.requires.3.class)

pub returns-then-is_of_class : goal.returns-then-is_of_class
returns-then-is_of_class c =
    passes _ _ _ _ _ c.requires.2 c.requires.3 _ _ c.offset_of-offset.ensures c.block_words-words.ensures
    c.requires.1 c.if-offset-words-ne0.false (c.is_used.ensures.sound c.if-is_used.true)
    (c.is_of_class.ensures.sound c.if-is_of_class.true) _ c.mark_bit.ensures

pub returns : goal.returns
returns c =
    elim c.else-is_used.branch [
      | else-is_used-via-then-is_used+else-is_of_class w ↦
          not_sized _ _ _ _ _ c.requires.2 c.requires.3 _ _ c.offset_of-offset.ensures c.block_words-words.ensures (refuted w.is_of_class.ensures w.if-is_of_class.false)
      | else-is_used-via-else-is_used w ↦
          not_used _ _ _ _ _ c.requires.2 c.requires.3 _ _ c.offset_of-offset.ensures c.block_words-words.ensures (refuted c.is_used.ensures w.if-is_used.false)
    ]
