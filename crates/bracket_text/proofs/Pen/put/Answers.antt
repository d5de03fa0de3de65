-- `bracket_text::Pen::put` meets its contract: the byte itself is placed.
use mathlib.Core.Path.{ap}
use native.Mathlib.Omega.{arith}
use lib.ListN.{length}
use Rattle.bracket_text.proofs.Writing.{byte_text, put_byte}
use Rattle.bracket_text.proofs.Pen.put.Goals as goal

pub returns : goal.returns
returns c =
    let a = c.args in
    put_byte a.buf.now a.numbers.now a.self a.byte c.if-byte-eq35.false
    (omega (arith, c.requires.0, ap length (byte_text a.byte a.self.count a.numbers.now c.if-byte-eq35.false)))
