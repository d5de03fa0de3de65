-- `bracket_forms::write_form` meets its contract: the parts stand for the form's text, which fits the buffer.
use native.Mathlib.Omega.{arith}
use Rattle.bracket_forms.proofs.Writer.{form_stands_for, stands_for_written}
use Rattle.bracket_forms.proofs.write_form.Goals as goal

pub write_parts-requires : goal.write_parts-requires
write_parts-requires c =
    let s = form_stands_for c.args.form c.form_parts.result c.form_parts.ensures in
    omega (arith, s.short)

pub returns : goal.returns
returns c =
    stands_for_written
    (form_stands_for c.args.form c.form_parts.result c.form_parts.ensures)
    _ _ _ c.write_parts.ensures
