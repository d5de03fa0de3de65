-- What `a && b` answers, one branch at a time: it decides both statements, where a decides one and b the other.
use mathlib.Core.Path.{◌≡◌, sym, ◌∙◌}
use mathlib.Core.Bool.{Bool, true, false, true≢false}
use Rattle.basics.specs.Decides.{Decides}

module _ {a v : Bool} {P Q : Type 0} (d : Decides a P) where
  pub first_held : {b : Bool} → a ≡ true → Decides b Q → v ≡ b → Decides v (P × Q)
  first_held e s i = record { sound = λ t. (d.sound e, s.sound (sym i ∙ t)); complete = λ p. i ∙ s.complete p.1 }

  pub first_failed : a ≡ false → v ≡ a → Decides v (P × Q)
  first_failed e i = record { sound = λ t. absurd (true≢false (sym t ∙ i ∙ e)); complete = λ p. i ∙ d.complete p.0 }
