-- `sheet::sheet` meets its contract.
use mathlib.Core.Path.{sym, ◌∙◌}
use Rattle.layout.proofs.Regions.{sized}
use Rattle.layout.specs.Geometry.{sheet_bytes}
use Rattle.model.specs.Sheet.{sheet_of}
use Rattle.model_laws.proofs.Promised.{fits}
use Rattle.model_laws.proofs.Shown.{shown_short, shown_13, shown_ok}
use Rattle.sheet.proofs.Records.{consistent_counted}
use Rattle.sheet.proofs.Lengths.{counted_sheet}
use Rattle.sheet.proofs.sheet.Goals as goal

pub sheet_bytes-requires : goal.sheet_bytes-requires
sheet_bytes-requires c =
    let size = sized _ _ (fits c.in_ok-require_size.ensures) in
    (size.some, size.few)

pub returns-then-output-sheet_bytes : goal.returns-then-output-sheet_bytes
returns-then-output-sheet_bytes c = shown_short sheet_bytes sheet_of _ _ _ (λ e. c.if-output-sheet_bytes.true (e ∙ sym c.sheet_bytes.ensures))

pub lines_ok-requires : goal.lines_ok-requires
lines_ok-requires c = sized _ _ (fits c.in_ok-require_size.ensures)

pub returns-then-not-lines_ok : goal.returns-then-not-lines_ok
returns-then-not-lines_ok c =
    shown_13 sheet_bytes sheet_of _ _ _ (fits c.in_ok-require_size.ensures)
    (c.if-output-sheet_bytes.false ∙ c.sheet_bytes.ensures) (λ k s l. consistent_counted _ _ s k l) _ c.lines_ok.ensures
    c.if-not-lines_ok.true

pub put_lines-requires : goal.put_lines-requires
put_lines-requires c = (
  sized _ _ (fits c.in_ok-require_size.ensures),
  c.lines_ok.ensures.sound c.if-not-lines_ok.false,
  c.if-output-sheet_bytes.false ∙ c.sheet_bytes.ensures,
)

pub returns : goal.returns
returns c =
    shown_ok sheet_bytes sheet_of _ _ _ (fits c.in_ok-require_size.ensures)
    (c.if-output-sheet_bytes.false ∙ c.sheet_bytes.ensures) _ (λ k. c.put_lines.ensures ∙ counted_sheet _ _ k)
