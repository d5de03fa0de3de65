-- `bracket_text::write_template` meets its contract. The loop's invariant: with the rest of the text placed at the pen, the
-- whole text is placed.
use native.Mathlib.Omega.{arith}
use Rattle.bracket_text.proofs.Writing.{writes_room, writes_more, writes_all}
use Rattle.bracket_text.proofs.write_template.Goals as goal

pub put-pen-requires : goal.put-pen-requires
put-pen-requires c =
    let a = c.args in
    let k = c.loop-byte in (
      writes_room a.template.now a.numbers.now a.buf.now k.buf k.pen k.byte-index k.invariant
          c.requires (omega arith),
      omega (arith, k.invariant.count),
    )

pub loop-byte-preserved : goal.loop-byte-preserved
loop-byte-preserved c =
    let a = c.args in
    let k = c.loop-byte in
    writes_more a.template.now a.numbers.now a.buf.now k.buf k.pen k.byte-index k.invariant
    c.requires (omega arith)
    c.put-pen.result c.put-pen.new.buf c.put-pen.auto.buf
    c.put-pen.ensures

pub shape_of-buf : goal.shape_of-buf
shape_of-buf c = c.loop-byte.invariant.same

pub returns : goal.returns
returns c =
    let a = c.args in
    let k = c.loop-byte in
    writes_all a.template.now a.numbers.now a.buf.now k.buf k.pen k.byte-index k.invariant
    c.requires (omega arith)
