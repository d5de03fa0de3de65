-- `bitmap_search::more_in_word` meets its contract. The word is asked where `asked` is.
use mathlib.Core.Path.{sym, ap, ◌∙◌}
use Prim.Native.Nat.{ℕ, ◌+◌, ◌*◌, ◌/◌, ◌%◌}
use native.Mathlib.Omega.{arith}
use lib.ListN.{get_or}
use Rattle.words.specs.Bits.{clear_from}
use Rattle.words.proofs.Second.{some_below}
use Rattle.bitmap_search.proofs.AtPlace.{in_own_word}
use Rattle.bitmap_search.proofs.more_in_word.Goals as goal

pub overflow_add-result : goal.overflow_add-result
overflow_add-result c =
    let x = c.args in
    let w = get_or x.s.now (x.place / 32) 0 in
    omega (arith, c.clear_from.ensures, some_below w (clear_from w (x.place % 32) + 1) (sym c.two_clear.ensures ∙ c.if-two_clear.true))

pub returns-then-two_clear : goal.returns-then-two_clear
returns-then-two_clear c =
    let x = c.args in
    let w = get_or x.s.now (x.place / 32) 0 in
    let two = sym c.two_clear.ensures ∙ c.if-two_clear.true in
    let below = some_below w (clear_from w (x.place % 32) + 1) two in
    let e = c.clear_from.ensures in
    (omega arith, λ n l. in_own_word x.s.now n x.place (omega arith) _ (ap (λ (t : ℕ). x.place / 32 * 32 + t) e) (sym two))
