-- `bracket_text::write_template` meets its contract. The loop's invariant: with the rest of the text placed at the pen, the
-- whole text is placed.
use Rattle.bracket_text.proofs.Writing.{Writes}
use Rattle.bracket_text.proofs.write_template.Given as goal

abbrev pub invariant-loop-byte : goal.invariant-loop-byte
invariant-loop-byte l = Writes l.template l.numbers l.initial.buf l.buf l.pen l.byte-index
