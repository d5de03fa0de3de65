-- `layout::each_size` meets its contract.
use mathlib.Core.Path.{refl}
use mathlib.Core.Logic.{inl, inr}
use Rattle.layout.proofs.Sizes.{large_bytes, small_bytes}
use Rattle.layout.proofs.each_size.Goals as goal

pub returns-then-g-eq-LARGE_KIB : goal.returns-then-g-eq-LARGE_KIB
returns-then-g-eq-LARGE_KIB c = inr (large_bytes c.args.g c.if-g-eq-LARGE_KIB.true, refl)

pub returns-else-g-eq-LARGE_KIB : goal.returns-else-g-eq-LARGE_KIB
returns-else-g-eq-LARGE_KIB c = inl (small_bytes c.args.g c.if-g-eq-LARGE_KIB.false, refl)
