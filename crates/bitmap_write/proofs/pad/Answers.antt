-- `bitmap_write::pad` meets its contract.
use mathlib.Core.Path.{sym, ap, ◌∙◌}
use Prim.Native.Nat.{ℕ, ◌/◌}
use lib.Bits.{bit_or}
use lib.ListN.{get_or, set}
use Rattle.bitmap_write.proofs.Completed.{padded_whole, padded_part}
use Rattle.bitmap_write.proofs.pad.Goals as goal

pub returns-then-bit-ne0 : goal.returns-then-bit-ne0
returns-then-bit-ne0 c =
    let a = c.args in
    ap (λ (x : ℕ). set a.s.now (a.n / 32) (bit_or (get_or a.s.now (a.n / 32) 0) x)) c.ones_from.ensures
    ∙ padded_part a.n a.s.now c.if-bit-ne0.true

pub returns-else-bit-ne0 : goal.returns-else-bit-ne0
returns-else-bit-ne0 c = sym (padded_whole c.args.n c.args.s.now c.if-bit-ne0.false)
