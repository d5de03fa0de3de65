-- `examine_sound::sync_ok` meets its contract.
use mathlib.Core.Path.{refl}
use Rattle.basics.proofs.Deciding.{via}
use Rattle.basics.proofs.Both.{first_held, first_failed}
use Rattle.layout.specs.Mem.{mem_of}
use Rattle.examine_marks.specs.Heads.{OnlyEntries}
use Rattle.examine_sound.proofs.sync_ok.Goals as goal

pub returns-then-only_entries : goal.returns-then-only_entries
returns-then-only_entries c =
    via (λ p. record { only = p.0; records = p.1 }) (λ q. (q.only, q.records)) (first_held c.only_entries.ensures c.if-only_entries.true c.live_ok.ensures refl)
