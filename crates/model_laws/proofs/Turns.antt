-- A loop that makes the values of a definition one after the other: what it has after i of n turns.
use mathlib.Core.Path.{◌≡◌, ◌∙◌, ap, sym}
use Prim.Native.Nat.{ℕ, suc, ◌+◌, ◌≤◌, ◌<◌}
use native.Mathlib.Numerals.{add-one}
use native.Mathlib.Omega.{arith}

pub record Turned {A : Type 0} (h : ℕ → A) (n i : ℕ) (x : A) : Type 0 where
  pub few : i ≤ n
  pub is : x ≡ h i

module _ {A : Type 0} (h : ℕ → A) (n : ℕ) where
  pub no_turn : (x : A) → x ≡ h 0 → Turned h n 0 x
  no_turn x e = record { few = omega arith; is = e }

  module _ (i : ℕ) (x : A) (p : Turned h n i x) where
    pub one_turn : i < n → (y : A) → y ≡ h (suc i) → Turned h n (i + 1) y
    one_turn l y e = record { few = omega arith; is = e ∙ ap h (sym (add-one i)) }

    pub all_turns : n ≤ i → x ≡ h n
    all_turns l = let k = p.few in let z : i ≡ n = omega arith in p.is ∙ ap h z
