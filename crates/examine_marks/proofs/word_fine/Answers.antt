-- `examine_marks::word_fine` meets its contract. The loop's invariant: the bits passed are fine.
use mathlib.Core.Path.{sym, ap, ◌∙◌}
use Prim.Native.Nat.{ℕ}
use native.Mathlib.Omega.{arith}
use borrow.Author.Count.{below_more, below_none}
use Rattle.basics.proofs.Deciding.{holds, fails, refuted}
use Rattle.words.specs.Bits.{bit_of}
use Rattle.words.proofs.Word.{bit_zero}
use Rattle.words.proofs.Lists.{bit_in}
use Rattle.layout.specs.Mem.{mem_of}
use Rattle.layout.proofs.Sizes.{marks_are, trace_most}
use Rattle.examine_marks.proofs.word_fine.Goals as goal

-- no bit of a word of 0 is 1
pub returns-then-mark-eq0 : goal.returns-then-mark-eq0
returns-then-mark-eq0 c =
    let ws = (mem_of c.args.g c.args.mem.now).marks in
    let zero = sym c.mark.ensures ∙ c.if-mark-eq0.true in
    holds (λ i h a b. absurd (omega (arith, b, bit_in ws c.args.q i h ∙ ap (λ (w : ℕ). bit_of w i) zero ∙ bit_zero i)))

pub loop-i-init : goal.loop-i-init
loop-i-init c = (omega arith, below_none _)

pub overflow_mul-q : goal.overflow_mul-q
overflow_mul-q c =
    let g = c.args.g in
    omega (arith, c.requires.1, marks_are g g.segments, trace_most g c.requires.0.few)

pub overflow_add-q : goal.overflow_add-q
overflow_add-q c =
    let g = c.args.g in
    omega (arith, c.requires.1, marks_are g g.segments, trace_most g c.requires.0.few, c.loop-i-test.true)

pub bit_fine-requires : goal.bit_fine-requires
bit_fine-requires c =
    let g = c.args.g in
    (c.requires.0, omega (arith, c.requires.1, marks_are g g.segments, c.loop-i-test.true), c.requires.2)

pub returns-then-not-bit_fine : goal.returns-then-not-bit_fine
returns-then-not-bit_fine c = fails (λ q. refuted c.bit_fine.ensures c.if-not-bit_fine.true (q _ c.loop-i-test.true))

pub loop-i-preserved : goal.loop-i-preserved
loop-i-preserved c = (omega (arith, c.loop-i-test.true), below_more _ _ c.loop-i.invariant.1 (c.bit_fine.ensures.sound c.if-not-bit_fine.false))

pub returns : goal.returns
returns c = holds (λ i h. c.loop-i.invariant.1 i (omega (arith, c.loop-i-test.false)))
