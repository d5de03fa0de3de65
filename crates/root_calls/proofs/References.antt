-- Two roots' words are equal exactly when they name the same record, or are both nil.
use mathlib.Core.Path.{◌≡◌, refl, sym, ◌∙◌, ap}
use mathlib.Core.Logic.{◌⊎◌, inl, inr}
use Prim.Native.Nat.{ℕ, zero, suc}
use native.Mathlib.Omega.{arith}
use lib.Dec.{eqb}
use borrow.Author.Tests.{eq-eqb, ne_eqb}
use Rattle.basics.proofs.Order.{same_or_not}
use Rattle.theory.specs.Calls.{same_ref}
use Rattle.model.specs.Records.{record?}

same_refs : (a b : ℕ) → eqb a b ≡ same_ref (record? a) (record? b)
same_refs zero zero = eq-eqb 0 0 refl
same_refs zero (suc b) = ne_eqb 0 (suc b) (λ e. omega arith)
same_refs (suc a) zero = ne_eqb (suc a) 0 (λ e. omega arith)
same_refs (suc a) (suc b) = go (same_or_not a b)
  where
    go : (a ≡ b) ⊎ (a ≡ b → ⊥) → eqb (suc a) (suc b) ≡ eqb a b
    go (inl e) = eq-eqb (suc a) (suc b) (ap suc e) ∙ sym (eq-eqb a b e)
    go (inr f) = ne_eqb (suc a) (suc b) (λ e. f (omega arith)) ∙ sym (ne_eqb a b f)

pub same_words : {a b x y : ℕ} → a ≡ x → b ≡ y → eqb a b ≡ same_ref (record? x) (record? y)
same_words {a} {b} {x} {y} e f = ap (λ z. eqb z b) e ∙ ap (eqb x) f ∙ same_refs x y
