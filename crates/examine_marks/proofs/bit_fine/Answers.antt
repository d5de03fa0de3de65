-- `examine_marks::bit_fine` meets its contract.
use mathlib.Core.Path.{refl}
use Rattle.layout.specs.Mem.{mem_of}
use Rattle.layout.proofs.Sizes.{heap_most}
use Rattle.basics.proofs.Deciding.{holds, refuted}
use Rattle.examine_marks.proofs.Judging.{at_inside, at_segment, not_asked, fine_by}
use native.Mathlib.Omega.{arith}
use Rattle.examine_marks.proofs.bit_fine.Goals as goal

pub returns-then-not-is_set : goal.returns-then-not-is_set
returns-then-not-is_set c = holds (λ a b. absurd (refuted c.is_set.ensures c.if-not-is_set.true b))

pub overflow_mul-at : goal.overflow_mul-at
overflow_mul-at c =
    omega (arith, at_inside c.args.g c.args.k _ c.requires.1 _ c.block_words.ensures refl, heap_most c.args.g c.requires.0.few)

pub asked-requires : goal.asked-requires
asked-requires c =
    (c.requires.0, at_segment c.args.g c.args.k _ c.requires.1 _ c.block_words.ensures refl _ c.segment_of-s.ensures)

pub returns-then-not-asked : goal.returns-then-not-asked
returns-then-not-asked c =
    not_asked c.args.g c.args.k _ c.requires.1 _ c.block_words.ensures refl (mem_of c.args.g c.args.mem.now) c.args.condemned_only _
    c.segment_of-s.ensures _ c.asked.ensures c.if-not-asked.true

pub head-requires : goal.head-requires
head-requires c =
    (c.requires.0, at_inside c.args.g c.args.k _ c.requires.1 _ c.block_words.ensures refl, c.segment_of-s.ensures, c.requires.2)

pub returns : goal.returns
returns c =
    let a = c.args in
    fine_by a.g a.k _ c.requires.1 _ c.block_words.ensures refl (mem_of a.g a.mem.now) a.condemned_only _
    c.segment_of-s.ensures _ c.asked.ensures c.if-not-asked.false
    (c.is_set.ensures.sound c.if-not-is_set.false) _ c.head.ensures
