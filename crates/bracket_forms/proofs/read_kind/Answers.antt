-- `bracket_forms::read_kind` meets its contract: the text that it compares with is that of the kind's form.
use Rattle.bracket_forms.proofs.Reader.{kind_template, kind_text, kind_other}
use Rattle.bracket_forms.proofs.read_kind.Goals as goal

pub returns-in_err-n : goal.returns-in_err-n
returns-in_err-n c = rw c.from_residual.ensures (kind_other _ _ c.args.kind (kind_template _ _ _ c.form_at.ensures c.form_parts.ensures) c.in_err-n.ensures)

pub returns : goal.returns
returns c =
    kind_text _ _ c.args.kind (kind_template _ _ _ c.form_at.ensures c.form_parts.ensures) _ _ _ c.in_ok-n.ensures
    c.form_at-form.ensures c.reading_of.ensures
