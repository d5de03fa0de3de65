-- Tests as Booleans, taken apart and put together.
use mathlib.Core.Path.{◌≡◌, refl, sym, ◌∙◌, ap}
use mathlib.Core.Logic.{⊎_elim}
use mathlib.Core.Bool.{Bool, true, false, not, ◌&&◌, true≢false}
use Prim.Native.Nat.{ℕ, ◌<◌}
use native.Mathlib.Omega.{arith}
use lib.Dec.{eqb}
use borrow.Author.Tests.{eq-eqb, ne_eqb}
use Rattle.basics.specs.Pick.{one_if}
use Rattle.basics.proofs.Order.{same_or_not}

pub and_left : (a b : Bool) → (a && b) ≡ true → a ≡ true
and_left true b e = refl
and_left false b e = e

pub and_right : (a b : Bool) → (a && b) ≡ true → b ≡ true
and_right true b e = e
and_right false b e = absurd (true≢false (sym e))

pub and_both : (a b : Bool) → a ≡ true → b ≡ true → (a && b) ≡ true
and_both a b p q = rw (p, q) refl

pub and_not : (a b : Bool) → a ≡ true → (a && b) ≡ false → b ≡ false
and_not true b p e = e
and_not false b p e = absurd (true≢false (sym p))

pub and_false : (b : Bool) → (b && false) ≡ false
and_false true = refl
and_false false = refl

pub not_eq : (a b : ℕ) → not (eqb a b) ≡ true → a ≡ b → ⊥
not_eq a b e q = true≢false (sym e ∙ ap not (eq-eqb a b q))

pub ne_not : (a b : ℕ) → (a ≡ b → ⊥) → not (eqb a b) ≡ true
ne_not a b f = ap not (ne_eqb a b f)

-- a test that holds of one exactly where it holds of the other
pub test_same : (a b t : ℕ) → (a ≡ t → b ≡ t) → (b ≡ t → a ≡ t) → eqb b t ≡ eqb a t
test_same a b t f h = ⊎_elim (λ e. eq-eqb b t (f e) ∙ sym (eq-eqb a t e)) (λ n. ne_eqb b t (λ e. n (h e)) ∙ sym (ne_eqb a t n)) (same_or_not a t)

pub one_less : (b : Bool) → one_if b < 2
one_less true = omega arith
one_less false = omega arith
