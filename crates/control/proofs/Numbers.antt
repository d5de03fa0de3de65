-- The number of a phase, and what the memory is with it.
use mathlib.Core.Path.{◌≡◌, refl, sym, ◌∙◌, ap}
use Prim.Native.Nat.{ℕ, zero, suc, ◌≤◌}
use native.Mathlib.Omega.{arith}
use Rattle.layout.specs.Mem.{Mem, set_control}
use Rattle.theory.specs.Phases.{sweep}
use Rattle.model.specs.PhaseNumbers.{phase_of, phase_number}
use Rattle.model.specs.Fields.{set_phase}

-- a number of a phase is its phase's
number_of : (n : ℕ) → n ≤ phase_number sweep → phase_number (phase_of n) ≡ n
number_of zero l = refl
number_of (suc zero) l = refl
number_of (suc (suc zero)) l = refl
number_of (suc (suc (suc zero))) l = refl
number_of (suc (suc (suc (suc zero)))) l = refl
number_of (suc (suc (suc (suc (suc n))))) l = absurd (omega arith)

pub phase_set : (m : Mem) (n : ℕ) → n ≤ phase_number sweep → (m' : Mem) → m' ≡ set_control m 0 n → m' ≡ set_phase m (phase_of n)
phase_set m n l m' e = e ∙ ap (set_control m 0) (sym (number_of n l))
