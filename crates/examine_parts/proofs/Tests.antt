-- A comparison's answer decides what is compared, and answers joined one after the other.
use mathlib.Core.Path.{◌≡◌}
use mathlib.Core.Bool.{not}
use Prim.Native.Nat.{ℕ, ◌≤◌}
use lib.Dec.{eqb, leb}
use borrow.Author.Tests.{eqb-true, eq-eqb, leb-true, le-leb}
use Rattle.model_laws.proofs.Bools.{not_eq, ne_not}
use Rattle.basics.specs.Decides.{Decides}

pub eq_decides : (a b : ℕ) → Decides (eqb a b) (a ≡ b)
eq_decides a b = record { sound = eqb-true a b; complete = eq-eqb a b }

pub le_decides : (a b : ℕ) → Decides (leb a b) (a ≤ b)
le_decides a b = record { sound = leb-true a b; complete = le-leb a b }

pub ne_decides : (a b : ℕ) → Decides (not (eqb a b)) (a ≡ b → ⊥)
ne_decides a b = record { sound = not_eq a b; complete = ne_not a b }
