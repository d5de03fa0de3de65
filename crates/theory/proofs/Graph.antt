-- Laws of reachability, and the tricolour argument over predicates: no state, no machine.
use Rattle.theory.specs.Reach.{WhiteEdge, Protected, Cover, root, Reach, next}
use mathlib.Core.Path.{◌≡◌, refl, sym, ◌∙◌}
use mathlib.Core.Logic.{◌⊎◌, inl, inr, ⊎_elim}
use mathlib.Core.Bool.{Bool, true, false, true≢false}
use Prim.Native.Nat.{ℕ}

-- the recursion principle: what holds at the roots and passes along edges holds at what is reached
pub reach_ind : {R : ℕ → Type 0} {E : ℕ → ℕ → Type 0} (P : ℕ → Type 0)
    → ((x : ℕ) → R x → P x)
    → ((x y : ℕ) → Reach R E x → P x → E x y → P y)
    → {x : ℕ} → Reach R E x → P x
reach_ind P r s (root {x} h) = r x h
reach_ind P r s (next {x} {y} p e) = s x y p (reach_ind P r s p) e

-- monotone in roots and edges, the old reach at hand
pub reach_map : {R R' : ℕ → Type 0} {E E' : ℕ → ℕ → Type 0}
    → ((x : ℕ) → R x → Reach R' E' x)
    → ((x y : ℕ) → Reach R E x → E x y → E' x y ⊎ Reach R' E' y)
    → {x : ℕ} → Reach R E x → Reach R' E' x
reach_map {R} {R'} {E} {E'} r s p = reach_ind (Reach R' E') r (λ x y q q' e. ⊎_elim (λ e'. next q' e') (λ h. h) (s x y q e)) p

-- append: what is reached from reached things is reached
pub reach_append : {R S : ℕ → Type 0} {E : ℕ → ℕ → Type 0}
    → ((x : ℕ) → S x → Reach R E x) → {x : ℕ} → Reach S E x → Reach R E x
reach_append r p = reach_map r (λ x y q e. inl e) p

-- nothing is reached from no root
pub reach_empty : {R : ℕ → Type 0} {E : ℕ → ℕ → Type 0} → ((x : ℕ) → R x → ⊥) → {x : ℕ} → Reach R E x → ⊥
reach_empty r p = reach_ind (λ _. ⊥) r (λ x y q h e. h) p

-- a closed set that holds the roots holds all
pub reach_closed : {R : ℕ → Type 0} {E : ℕ → ℕ → Type 0} (P : ℕ → Type 0)
    → ((x : ℕ) → R x → P x) → ((x y : ℕ) → P x → E x y → P y) → {x : ℕ} → Reach R E x → P x
reach_closed P r s p = reach_ind P r (λ x y q h e. s x y h e) p

pub bool_cases : (b : Bool) → (b ≡ true) ⊎ (b ≡ false)
bool_cases true = inl refl
bool_cases false = inr refl

pub clash : {b : Bool} {A : Type 0} → b ≡ true → b ≡ false → A
clash p q = absurd (true≢false (sym p ∙ q))

-- The lemma that every operation uses: how protection passes from one state to the next.
module _ {G G' : ℕ → Type 0} {m m' : ℕ → Bool} {E E' : ℕ → ℕ → Type 0} where
  pub prot_map : ((x : ℕ) → G x → Cover G' m' E' x)
      → ((x y : ℕ) → Protected G m E x → m x ≡ false → E x y → ((m' x ≡ false) × E' x y) ⊎ Cover G' m' E' y)
      → {x : ℕ} → Protected G m E x → Cover G' m' E' x
  prot_map g s p = reach_ind (Cover G' m' E') g step p
    where
      go : {x y : ℕ} → Cover G' m' E' x → ((m' x ≡ false) × E' x y) ⊎ Cover G' m' E' y → Cover G' m' E' y
      go h (inr k) = k
      go (inl b) (inl w) = clash b w.0
      go (inr q) (inl w) = inr (next q w)

      step : (x y : ℕ) → Protected G m E x → Cover G' m' E' x → WhiteEdge m E x y → Cover G' m' E' y
      step x y p h w = go h (s x y p w.0 w.1)

  pub safe_map : ((x : ℕ) → m x ≡ true → m' x ≡ true)
      → ((x : ℕ) → G x → Cover G' m' E' x)
      → ((x y : ℕ) → Protected G m E x → m x ≡ false → E x y → ((m' x ≡ false) × E' x y) ⊎ Cover G' m' E' y)
      → {x : ℕ} → Cover G m E x → Cover G' m' E' x
  safe_map b g s (inl h) = inl (b _ h)
  safe_map b g s (inr p) = prot_map g s p

-- an edge out of a covered node leads to a covered node, where the edges out of marked nodes do
pub safe_edge : {G : ℕ → Type 0} {m : ℕ → Bool} {E : ℕ → ℕ → Type 0} {x y : ℕ}
    → (m x ≡ true → Cover G m E y) → Cover G m E x → E x y → Cover G m E y
safe_edge {G} {m} {E} {x} {y} k h e = go (bool_cases (m x)) h
  where
    go : (m x ≡ true) ⊎ (m x ≡ false) → Cover G m E x → Cover G m E y
    go (inl b) h = k b
    go (inr w) (inl b) = clash b w
    go (inr w) (inr p) = inr (next p (w, e))
