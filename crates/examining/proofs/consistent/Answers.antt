-- `examining::consistent` meets its contract.
use Rattle.basics.proofs.Deciding.{via}
use Rattle.examining.proofs.consistent.Goals as goal

pub returns-then-sound : goal.returns-then-sound
returns-then-sound c =
    (via (λ h. record { summed = h; sound = c.sound.ensures.0.sound c.if-sound.true }) (λ q. q.summed) c.summed.ensures, c.sound.ensures.1)
