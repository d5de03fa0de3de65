-- How an answer that decides a statement is given, and what it refutes.
use mathlib.Core.Path.{◌≡◌, refl, sym, ◌∙◌}
use mathlib.Core.Bool.{Bool, true, false}
use Prim.Native.Nat.{ℕ}
use native.Mathlib.Omega.{arith}
use Rattle.basics.specs.Decides.{Decides}

false_true : false ≡ true → ⊥
false_true e = let z : ◌≡◌ {A = ℕ} 0 1 = cc in omega arith

pub holds : {P : Type 0} → P → Decides true P
holds p = record { sound = λ e. p; complete = λ q. refl }

pub fails : {P : Type 0} → (P → ⊥) → Decides false P
fails f = record { sound = λ e. absurd (false_true e); complete = λ p. absurd (f p) }

-- an answer for a statement that holds exactly when another does
pub via : {r : Bool} {P Q : Type 0} → (P → Q) → (Q → P) → Decides r P → Decides r Q
via f g s = record { sound = λ e. f (s.sound e); complete = λ q. s.complete (g q) }

-- the statement of a test that failed
pub refuted : {r : Bool} {P : Type 0} → Decides r P → r ≡ false → P → ⊥
refuted s e p = false_true (sym e ∙ s.complete p)
