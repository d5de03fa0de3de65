-- `bracket_forms::write_reply` meets its contract: the parts stand for the reply's text, which fits the buffer.
use native.Mathlib.Omega.{arith}
use Rattle.bracket_forms.proofs.Writer.{reply_stands_for, stands_for_written}
use Rattle.bracket_forms.proofs.write_reply.Goals as goal

pub write_parts-requires : goal.write_parts-requires
write_parts-requires c =
    let s = reply_stands_for c.args.reply c.reply_parts.result c.reply_parts.ensures in
    omega (arith, s.short)

pub returns : goal.returns
returns c =
    stands_for_written
    (reply_stands_for c.args.reply c.reply_parts.result c.reply_parts.ensures)
    _ _ _ c.write_parts.ensures
