-- How many mutators inside still owe, counted one by one.
use mathlib.Core.Path.{◌≡◌, refl}
use mathlib.Core.Bool.{Bool, true, false, ◌&&◌}
use Prim.Native.Nat.{ℕ, zero, suc, ◌+◌, ◌≤◌}
use native.Mathlib.Numerals.{add-one}
use native.Mathlib.Omega.{arith}
use lib.Dec.{eqb}
use Rattle.basics.specs.Pick.{one_if}
use Rattle.layout.specs.Mem.{Mem, control_word}
use Rattle.theory.specs.Phases.{Phase, owes}
use Rattle.model.specs.PhaseNumbers.{phase_of}
use Rattle.model.specs.Fields.{phase, inside, state, acks}
use Rattle.model.specs.Collector.{waiting}
use Rattle.stepping.specs.Handshaking.{waits}

-- ---- the first n of them

one_most : (b : Bool) → one_if b ≤ 1
one_most true = omega arith
one_most false = omega arith

pub waits_most : (m : Mem) (p : Phase) (k : ℕ) → waits m p k ≤ 1
unfolding waits
waits_most m p k = one_most (eqb (state m k) inside && owes p (acks m k))

pub waiting_most : (m : Mem) (n : ℕ) → waiting m n ≤ n
unfolding waiting waits
waiting_most m zero = omega arith
waiting_most m (suc k) = let a = waiting_most m k in let b = waits_most m (phase m) k in omega arith

pub waiting_none : (m : Mem) → waiting m 0 ≡ 0
unfolding waiting
waiting_none m = refl

-- one more; p is the phase's number
pub waiting_next : (m : Mem) (k p : ℕ) → p ≡ control_word m 0 → waiting m (k + 1) ≡ waiting m k + waits m (phase_of p) k
unfolding waiting waits
waiting_next m k p e = rw (add-one k, e) (omega arith)

pub ruleset counted_one_by_one = (waiting_none, waiting_next, waiting_most, waits_most)
