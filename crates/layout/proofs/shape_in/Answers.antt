-- `layout::shape_in` meets its contract.
use mathlib.Core.Path.{◌≡◌, refl, ◌∙◌}
use Prim.Native.Nat.{ℕ}
use Rattle.std.specs.Prelude.{unwrap_or}
use Rattle.classes.specs.Class.{IsClass}
use Rattle.classes.specs.Shape.{ClassShape, segment_size, large_size, blocks_of, shape_for, segment_shape}
use Rattle.classes.proofs.Every.{class_passes}
use Rattle.classes.proofs.ShapeTable.{past}
use Rattle.layout.proofs.Sizes.{large_bytes, small_bytes}
use Rattle.layout.proofs.shape_in.Goals as goal

-- a class has a shape
shaped : (z c : ℕ) (o : ClassShape) → IsClass c → o ≡ segment_shape z c → unwrap_or o past ≡ shape_for (blocks_of z c)
shaped z c o k e = rw (e, class_passes c k) refl

pub returns-then-g-eq-LARGE_KIB : goal.returns-then-g-eq-LARGE_KIB
returns-then-g-eq-LARGE_KIB c =
    rw (large_bytes c.args.g c.if-g-eq-LARGE_KIB.true) (c.unwrap_or.ensures ∙ shaped large_size c.args.class _ c.requires c.large_shape.ensures)

pub returns-else-g-eq-LARGE_KIB : goal.returns-else-g-eq-LARGE_KIB
returns-else-g-eq-LARGE_KIB c =
    rw (small_bytes c.args.g c.if-g-eq-LARGE_KIB.false)
    (c.unwrap_or-else-g-eq-LARGE_KIB.ensures ∙ shaped segment_size c.args.class _ c.requires c.segment_shape.ensures)
