-- `bitmap_write::last_level` meets its contract.
use mathlib.Core.Path.{ap, ◌∙◌}
use Prim.Native.Nat.{ℕ}
use native.Mathlib.Omega.{arith}
use lib.ListN.{set}
use Rattle.bitmap_write.proofs.Fresh.{one_level}
use Rattle.bitmap_write.proofs.last_level.Goals as goal

pub returns-in-1-to-32 : goal.returns-in-1-to-32
returns-in-1-to-32 c =
    ap (λ (w : ℕ). set c.args.s.now 0 w) c.free_word.ensures
    ∙ one_level c.args.n c.args.s.now (omega arith) (omega arith) c.requires
