-- `examine_cycle::segment_judged` meets its contract. The loop's invariant: the blocks before `b` are judged, and `at` is the word of block `b`.
use Prim.Native.Nat.{◌<◌}
use mathlib.Core.Path.{sym, subst}
use native.Mathlib.Omega.{arith}
use borrow.Author.Count.{below_more}
use Rattle.basics.proofs.Deciding.{holds, fails, refuted}
use Rattle.layout.specs.Geometry.{blocks_in}
use Rattle.layout.specs.Mem.{mem_of}
use Rattle.layout.proofs.Sizes.{most_small, heap_most, words_some}
use Rattle.model.specs.Records.{header_of}
use Rattle.model_laws.proofs.Blocks.{blocks_most}
use Rattle.examine_cycle.specs.Judged.{BlockJudged}
use Rattle.examine_cycle.proofs.Judging.{block_ends, block_begins, known_at, header_first, header_next}
use Rattle.examine_cycle.proofs.segment_judged.Goals as goal

pub blocks_in-blocks-requires : goal.blocks_in-blocks-requires
blocks_in-blocks-requires c = tt

pub overflow_cast-blocks : goal.overflow_cast-blocks
overflow_cast-blocks c =
    omega (arith, c.blocks_in-blocks.ensures, most_small c.args.g, blocks_most c.args.g c.args.class c.requires.s_lt_segments.1.1)

pub block_words-words-requires : goal.block_words-words-requires
block_words-words-requires c = c.requires.s_lt_segments.1.1

pub word_in-at-requires : goal.word_in-at-requires
word_in-at-requires c =
    let z = c.requires.sized.0 in
    (omega (arith, c.requires.s_lt_segments.0, z.few), (z.whole, z.small, z.large), words_some c.args.g)

pub loop-b-init : goal.loop-b-init
loop-b-init c = (omega arith, header_first _ _ _ _ c.word_in-at.ensures, λ j l. absurd (omega arith))

pub block_judged-requires : goal.block_judged-requires
block_judged-requires c =
    let a = c.args in
    let here = c.loop-b.invariant.1 in
    let class = c.requires.s_lt_segments.1 in
    let below : c.loop-b.b < blocks_in a.g a.class = omega (arith, c.loop-b-test.true, c.blocks_in-blocks.ensures) in
    let there = c.requires.s_lt_segments.0 in record {
      sized = (c.requires.sized.0, c.requires.sized.1, c.requires.sized.2.room);
      s_lt_segments = (there, block_begins a.g a.s a.class _ _ here class.1 below there, known_at a.g a.s a.class _ _ here class.1 below there _ class.0 _ c.requires.sized.2);
    }

pub returns-then-not-block_judged : goal.returns-then-not-block_judged
returns-then-not-block_judged c =
    let a = c.args in
    let one = BlockJudged a.asked a.g (mem_of a.g a.mem.now) a.bits.now a.cover.now a.s in
    fails
    (λ q. refuted c.block_judged.ensures c.if-not-block_judged.true
    (subst one (sym c.loop-b.invariant.1) (q c.loop-b.b (omega (arith, c.loop-b-test.true, c.blocks_in-blocks.ensures)))))

pub overflow_add-at : goal.overflow_add-at
overflow_add-at c =
    let a = c.args in
    let below : c.loop-b.b < blocks_in a.g a.class = omega (arith, c.loop-b-test.true, c.blocks_in-blocks.ensures) in
    let ends = block_ends a.g a.s a.class _ _ c.loop-b.invariant.1 c.requires.s_lt_segments.1.1 below c.requires.s_lt_segments.0 in
    omega (arith, ends, c.block_words-words.ensures, heap_most a.g c.requires.sized.0.few)

pub loop-b-preserved : goal.loop-b-preserved
loop-b-preserved c =
    let a = c.args in
    let one = BlockJudged a.asked a.g (mem_of a.g a.mem.now) a.bits.now a.cover.now a.s in
    let here = c.loop-b.invariant.1 in (
      omega (arith, c.loop-b-test.true),
      header_next a.g a.s a.class _ _ _ here c.block_words-words.ensures,
      below_more (λ j. one (header_of a.g a.s a.class j)) _ c.loop-b.invariant.2 (subst one here (c.block_judged.ensures.sound c.if-not-block_judged.false)),
    )

pub returns : goal.returns
returns c =
    holds (λ j l. c.loop-b.invariant.2 j (omega (arith, c.loop-b-test.false, c.blocks_in-blocks.ensures)))
