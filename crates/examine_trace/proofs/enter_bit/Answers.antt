-- `examine_trace::enter_bit` meets its contract.
use mathlib.Core.Path.{◌∙◌, sym, subst}
use native.Mathlib.Omega.{arith}
use Rattle.basics.proofs.Deciding.{refuted}
use Rattle.layout.specs.Mem.{mem_of}
use Rattle.layout.proofs.Sizes.{trace_most, mark_word}
use Rattle.examine_trace.specs.Traced.{BitEnters}
use Rattle.examine_trace.proofs.Entering.{bit_unset, bit_again, bit_new}
use Rattle.examine_trace.proofs.enter_bit.Goals as goal

pub returns-then-not-is_set : goal.returns-then-not-is_set
returns-then-not-is_set c = bit_unset _ _ _ (refuted c.is_set.ensures c.if-not-is_set.true)

pub overflow_cast-bit : goal.overflow_cast-bit
overflow_cast-bit c = omega (arith, trace_most c.args.g c.requires.0.few, c.requires.1)

pub bit_at-requires : goal.bit_at-requires
bit_at-requires c = omega (arith, mark_word c.args.g c.args.k c.requires.1, c.requires.2)

pub returns-then-bit_at-eq1 : goal.returns-then-bit_at-eq1
returns-then-bit_at-eq1 c = bit_again _ _ _ (sym c.bit_at.ensures ∙ c.if-bit_at-eq1.true)

pub set_bit-requires : goal.set_bit-requires
set_bit-requires c =
    omega (arith, mark_word c.args.g c.args.k c.requires.1, c.requires.2)

pub returns : goal.returns
returns c =
    let a = c.args in
    let m = mem_of a.g a.mem.now in
    subst (BitEnters m a.k a.scratch.now _) (sym c.set_bit.ensures)
    (bit_new m a.k a.scratch.now (c.is_set.ensures.sound c.if-not-is_set.false) (λ q. c.if-bit_at-eq1.false (c.bit_at.ensures ∙ q)))
