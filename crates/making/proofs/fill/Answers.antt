-- `making::fill` meets its contract.
use Prim.Native.Nat.{◌%◌}
use native.Mathlib.Omega.{arith}
use mathlib.Core.Path.{refl, ap}
use mathlib.Core.Bool.{not}
use borrow.Author.Tests.{ne_eqb}
use Rattle.classes.specs.Class.{block_words}
use Rattle.layout.specs.Geometry.{blocks_in}
use Rattle.layout.proofs.Regions.{resized}
use Rattle.model_laws.proofs.Headers.{class_halves}
use Rattle.making.proofs.Placing.{of_class_lem, block_under, record_in}
use Rattle.making.proofs.fill.Goals as goal

pub write_few-requires : goal.write_few-requires
write_few-requires g c =
    let x = c.args in
    let i = of_class_lem x.shape _ c.requires.of_class in (
      c.requires.sized.0,
      c.requires.few (ap not (ne_eqb _ 0 c.if-this-ne0.true)),
      record_in x.g x.class x.s (x.b % blocks_in x.g x.class) x.shape c.requires.of_class
          (block_under x.g x.class x.b (block_words x.class) i refl) c.requires.sized.3 _ c.word_of-at.ensures,
    )

pub write-requires : goal.write-requires
write-requires g c =
    let x = c.args in
    let i = of_class_lem x.shape _ c.requires.of_class in (
      c.requires.sized.0,
      class_halves c.args.shape _ c.requires.of_class,
      record_in x.g x.class x.s (x.b % blocks_in x.g x.class) x.shape c.requires.of_class
          (block_under x.g x.class x.b (block_words x.class) i refl) c.requires.sized.3 _ c.word_of-at.ensures,
    )

pub name-requires : goal.name-requires
name-requires g c =
    let x = c.args in
    let i = of_class_lem x.shape _ c.requires.of_class in
    let l = record_in x.g x.class x.s (x.b % blocks_in x.g x.class) x.shape c.requires.of_class (block_under x.g x.class x.b (block_words x.class) i refl)
    c.requires.sized.3 _ c.word_of-at.ensures in
    (resized _ _ _ c.requires.sized.0 c.if-this-ne0.auto.mem, c.requires.sized.1, c.requires.sized.2, omega arith)
