-- `examine_sound::mark_ok` meets its contract.
use mathlib.Core.Path.{refl}
use Rattle.basics.proofs.Deciding.{via}
use Rattle.basics.proofs.Both.{first_held}
use Rattle.examine_sound.proofs.mark_ok.Goals as goal

pub returns-then-marks : goal.returns-then-marks
returns-then-marks c =
    via (λ p. record { marks = p.0; coloured = p.1 }) (λ q. (q.marks, q.coloured)) (first_held c.marks.ensures c.if-marks.true c.tricolour.ensures refl)
