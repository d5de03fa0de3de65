-- `bitmap_search::more_in_next` meets its contract.
use mathlib.Core.Path.{ap}
use Prim.Native.Nat.{ℕ, ◌+◌, ◌*◌, ◌/◌}
use native.Mathlib.Omega.{arith}
use Rattle.bitmap_search.proofs.AtPlace.{in_next_word}
use Rattle.bitmap_search.proofs.more_in_next.Goals as goal

pub returns-then-s-i : goal.returns-then-s-i
returns-then-s-i c =
    let x = c.args in
    let e = c.clear_from-bit.ensures in
    let l = c.if-bit-lt32.true in (
      omega arith,
      in_next_word x.s.now x.n x.place (omega arith) _ (ap (λ (t : ℕ). x.place / 32 * 32 + t) e) (omega arith) (omega arith)
          (omega (arith, c.type_inv.s (x.place / 32 + 1))) c.if-s-i.true,
    )
