-- `words::ones_among` meets its contract.
use mathlib.Core.Path.{ap, ap₂, ◌∙◌, sym}
use Prim.Native.Nat.{ℕ, ◌+◌, ◌*◌, ◌/◌, ◌%◌}
use native.Mathlib.Omega.{arith}
use lib.ListN.{get_or}
use Rattle.words.specs.Bits.{bit_at, ones_among}
use Rattle.words.proofs.Ones.{among_word, among_words_le, among_bits_le}
use Rattle.words.proofs.ones_among.Goals as goal

pub returns-then-rest-eq0 : goal.returns-then-rest-eq0
returns-then-rest-eq0 c = c.ones_in_words-total.ensures ∙ ap (λ (x : ℕ). ones_among (bit_at c.args.s.now) x) (omega arith)

pub overflow_add-result : goal.overflow_add-result
overflow_add-result c =
    let ones_in_words_told = c.before.before.before in
    let entry = ones_in_words_told.before.before in
    let a = entry.args in
    omega (arith, c.ones_low.ensures, ones_in_words_told.ones_in_words-total.ensures, among_words_le a.s.now (a.k / 32 * 32), among_bits_le (get_or a.s.now (a.k / 32) 0) (a.k % 32))

pub returns : goal.returns
returns c =
    let ones_in_words_told = c.before.before.before in
    let entry = ones_in_words_told.before.before in
    let a = entry.args in
    ap₂ (λ (x y : ℕ). x + y) ones_in_words_told.ones_in_words-total.ensures c.ones_low.ensures
    ∙ sym (among_word a.s.now (a.k / 32) (a.k % 32) (omega arith))
    ∙ ap (λ (x : ℕ). ones_among (bit_at a.s.now) x) (omega arith)
