-- A number whose upper half is a value or whose lower half is a refusal, taken apart: it stands for that value or that refusal.
use mathlib.Core.Path.{◌≡◌, refl, ◌∙◌, ap}
use Prim.Native.Nat.{ℕ, zero, suc, ◌*◌, ◌/◌, ◌%◌, ◌≤◌, ◌<◌}
use native.Mathlib.Omega.{arith}
use lib.Dec.{eqb}
use borrow.Author.Tests.{eq-eqb}
use Rattle.std.specs.Prelude.{Result, Err}
use Rattle.basics.specs.Pick.{pick}
use Rattle.model.specs.declared.Refusal.{Refusal}
use Rattle.model.specs.Refusals.{number_of}
use Rattle.model.proofs.Refusals.{in_table, numbered_back}
use Rattle.packing.specs.Packed.{upper, numbered_or, with_value}

module _ {A : Type 0} (refused answer : ℕ → A) where
  pub value_back : (v : ℕ) → with_value refused answer (v * upper / upper) (v * upper % upper) ≡ answer v
  value_back v =
      let e : v * upper / upper ≡ v = omega arith in
      let f : v * upper % upper ≡ 0 = omega arith in
      rw (e, f) refl

  pub refused_back : (n : ℕ) → 1 ≤ n → n < upper → with_value refused answer (n / upper) (n % upper) ≡ refused n
  refused_back zero l h = absurd (omega arith)
  refused_back (suc n) l h =
      let e : suc n / upper ≡ 0 = omega arith in
      let f : suc n % upper ≡ suc n = omega arith in
      rw (e, f) refl

-- a refusal's number is that of no other, and has no upper half
module _ {A : Type 0} (other : Result A Refusal) where
  pub numbered : (e : Refusal) → numbered_or other (number_of e) ≡ Err e
  numbered e = ap (λ w. pick (eqb (number_of w) (number_of e)) (Err w) other) (numbered_back e) ∙ ap (λ b. pick b (Err e) other) (eq-eqb (number_of e) (number_of e) refl)

  pub error_back : (answer : ℕ → Result A Refusal) (e : Refusal) → with_value (numbered_or other) answer (number_of e / upper) (number_of e % upper) ≡ Err e
  error_back answer e = let t = in_table e in let l = t.1 in refused_back (numbered_or other) answer (number_of e) t.0 (omega arith) ∙ numbered e
