-- `examine_parts::open` meets its contract.
use mathlib.Core.Path.{refl, sym, subst}
use mathlib.Core.Bool.{not}
use Prim.Native.Nat.{ℕ}
use lib.Dec.{eqb}
use Rattle.basics.specs.Decides.{Decides}
use Rattle.layout.specs.Geometry.{blocks_in}
use Rattle.layout.specs.Mem.{mem_of}
use Rattle.examine_parts.specs.Parts.{Open}
use Rattle.examine_parts.proofs.Records.{open_none, open_some}
use Rattle.examine_parts.proofs.open.Goals as goal

pub returns-then-used-ne0 : goal.returns-then-used-ne0
returns-then-used-ne0 c =
    let a = c.args in
    open_some a.g (mem_of a.g a.mem.now) a.s a.class _ _ _ c.place.ensures c.in_use-used.ensures c.blocks_in.ensures c.if-used-ne0.true

pub returns-else-used-ne0 : goal.returns-else-used-ne0
returns-else-used-ne0 c =
    let a = c.args in
    subst (λ (v : ℕ). Decides (not (eqb v 0)) (Open a.g (mem_of a.g a.mem.now) a.s a.class)) (sym c.if-used-ne0.false)
    (open_none a.g (mem_of a.g a.mem.now) a.s a.class _ _ (blocks_in a.g a.class) c.place.ensures c.in_use-used.ensures refl c.if-used-ne0.false)
