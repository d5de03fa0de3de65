-- Reachability, over any roots and any edges: the one inductive family that liveness, coverage and "reached" are stated with.
use Rattle.std.specs.Prelude.{◌≡◌, ◌⊎◌, Bool, true, false, ℕ}

-- x is reached from a root of R along edges of E
pub data Reach (R : ℕ → Type 0) (E : ℕ → ℕ → Type 0) : ℕ → Type 0 where
  root : {x : ℕ} → R x → Reach R E x
  next : {x y : ℕ} → Reach R E x → E x y → Reach R E y

-- edges out of white nodes only
abbrev pub WhiteEdge : (ℕ → Bool) → (ℕ → ℕ → Type 0) → ℕ → ℕ → Type 0
WhiteEdge m E x y = (m x ≡ false) × E x y

-- protected: grey, or at the end of a path from a grey node whose nodes before the end are white
abbrev pub Protected : (ℕ → Type 0) → (ℕ → Bool) → (ℕ → ℕ → Type 0) → ℕ → Type 0
Protected G m E = Reach G (WhiteEdge m E)

abbrev pub Cover : (ℕ → Type 0) → (ℕ → Bool) → (ℕ → ℕ → Type 0) → ℕ → Type 0
Cover G m E x = (m x ≡ true) ⊎ Protected G m E x
