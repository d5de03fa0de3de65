-- The phase by its number, and the declared form of the barrier's duty.
use Rattle.std.specs.Prelude.{ℕ, zero, suc}
use Rattle.theory.specs.Phases.{Phase, idle, sync1, sync2, mark, sweep}
use Rattle.model.specs.declared.Duty.{Duty}
use Rattle.model.specs.declared.Duty.TheVariants.{Nothing, Both, Old}
use Rattle.theory.specs.Phases as phases

-- the phase that a number stands for: IDLE to SWEEP are 0 to 4
abbrev pub phase_of : ℕ → Phase
phase_of zero = idle
phase_of (suc zero) = sync1
phase_of (suc (suc zero)) = sync2
phase_of (suc (suc (suc zero))) = mark
phase_of (suc (suc (suc (suc n)))) = sweep

-- the declared form of a duty (in no statement: contracts and proofs use it)
abbrev pub duty_of : phases.Duty → Duty
duty_of phases.nothing = Nothing
duty_of phases.both = Both
duty_of phases.old = Old

-- the number of a phase
abbrev pub phase_number : Phase → ℕ
phase_number idle = 0
phase_number sync1 = 1
phase_number sync2 = 2
phase_number mark = 3
phase_number sweep = 4
