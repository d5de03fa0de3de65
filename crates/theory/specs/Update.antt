-- A function with another value at one place, and at one place of two.
use Rattle.std.specs.Prelude.{ℕ}
use Rattle.std.proofs.Math.Decide.{ℕ_discrete}

abbrev pub if_dec : {P : Type 0} {A : Type 0} → Dec P → A → A → A
if_dec (yes _) a b = a
if_dec (no _) a b = b

unfoldable pub upd : {A : Type 0} → (ℕ → A) → ℕ → A → ℕ → A
upd f k v x = if_dec (ℕ_discrete x k) v (f x)

abbrev pub upd2 : {A : Type 0} → (ℕ → ℕ → A) → ℕ → ℕ → A → ℕ → ℕ → A
upd2 f a b v = upd f a (upd (f a) b v)
