-- `bitmap_write::eighth` meets its contract: each bit is below 2, so no sum wraps.
use native.Mathlib.Omega.{arith}
use Rattle.words.proofs.Word.{bit_lt}
use Rattle.bitmap_write.proofs.Pressed.{press_eighth}
use Rattle.bitmap_write.proofs.eighth.Goals as goal

pub overflow_mul-result : goal.overflow_mul-result
overflow_mul-result c = omega (arith, c.bit_of-2.ensures, bit_lt c.args.x 8)

pub overflow_add-result : goal.overflow_add-result
overflow_add-result c = let x = c.args.x in omega (arith, c.bit_of-2.ensures, c.bit_of.ensures, bit_lt x 0, bit_lt x 8)

pub overflow_mul-result-2 : goal.overflow_mul-result-2
overflow_mul-result-2 c = omega (arith, c.bit_of-3.ensures, bit_lt c.args.x 16)

pub overflow_add-result-2 : goal.overflow_add-result-2
overflow_add-result-2 c =
    let x = c.args.x in
    omega (arith, c.bit_of-3.ensures, c.bit_of-2.ensures, c.bit_of.ensures, bit_lt x 0, bit_lt x 8, bit_lt x 16)

pub overflow_mul-result-3 : goal.overflow_mul-result-3
overflow_mul-result-3 c = omega (arith, c.bit_of-4.ensures, bit_lt c.args.x 24)

pub overflow_add-result-3 : goal.overflow_add-result-3
overflow_add-result-3 c =
    let x = c.args.x in
    omega (arith, c.bit_of-4.ensures, c.bit_of-3.ensures, c.bit_of-2.ensures, c.bit_of.ensures, bit_lt x 0, bit_lt x 8, bit_lt x 16, bit_lt x 24)

pub returns : goal.returns
returns c =
    let e = press_eighth c.args.x in
    rw (c.bit_of-4.ensures, c.bit_of-3.ensures, c.bit_of-2.ensures, c.bit_of.ensures) e
