-- `examine_sound::sweep_ok` meets its contract.
use mathlib.Core.Path.{◌∙◌, refl, sym}
use Rattle.basics.proofs.Deciding.{fails, via}
use Rattle.basics.proofs.Both.{first_held}
use Rattle.examine_sound.proofs.sweep_ok.Goals as goal

pub returns-then-trace_count-ne0 : goal.returns-then-trace_count-ne0
returns-then-trace_count-ne0 c = fails (λ q. c.if-trace_count-ne0.true (c.trace_count.ensures ∙ q.empty))

pub returns-then-marks : goal.returns-then-marks
returns-then-marks c =
    via
    (λ p. record { empty = sym c.trace_count.ensures ∙ c.if-trace_count-ne0.false; marks = p.0; swept = p.1 })
    (λ q. (q.marks, q.swept)) (first_held c.marks.ensures c.if-marks.true c.swept.ensures refl)
