-- `examine_marks::marks` meets its contract. The loop's invariant: the bits of the words passed are fine.
use mathlib.Core.Path.{◌≡◌, subst}
use Prim.Native.Nat.{◌+◌, ◌*◌, ◌/◌, ◌%◌}
use native.Mathlib.Omega.{arith}
use borrow.Author.Count.{below_more, below_none}
use Rattle.basics.proofs.Deciding.{holds, fails, refuted}
use Rattle.layout.specs.Mem.{mem_of}
use Rattle.layout.proofs.Sizes.{marks_are}
use Rattle.examine_marks.specs.Heads.{BitFine}
use Rattle.examine_marks.proofs.marks.Goals as goal

pub loop-q-init : goal.loop-q-init
loop-q-init c = (omega arith, below_none _)

pub word_fine-requires : goal.word_fine-requires
word_fine-requires c =
    let g = c.args.g in
    (c.requires.0, omega (arith, c.loop-q-test.true, c.trace_words-words.ensures, marks_are g g.segments), c.requires.1)

pub returns-then-not-word_fine : goal.returns-then-not-word_fine
returns-then-not-word_fine c =
    let g = c.args.g in
    fails
    (λ q. refuted c.word_fine.ensures c.if-not-word_fine.true
    (λ i h. q _ (omega (arith, c.loop-q-test.true, c.trace_words-words.ensures, marks_are g g.segments))))

pub loop-q-preserved : goal.loop-q-preserved
loop-q-preserved c = (omega (arith, c.loop-q-test.true), below_more _ _ c.loop-q.invariant.1 (c.word_fine.ensures.sound c.if-not-word_fine.false))

pub returns : goal.returns
returns c =
    let a = c.args in
    holds
    (λ k h. subst (BitFine a.condemned_only a.g (mem_of a.g a.mem.now)) (let e : k / 32 * 32 + k % 32 ≡ k = omega arith in e)
    (c.loop-q.invariant.1 (k / 32) (omega (arith, c.loop-q-test.false, c.trace_words-words.ensures, marks_are a.g a.g.segments)) (k % 32) (omega arith)))
