-- The trace stack of the abstract machine, its top first. Document 01: "Entering nil, a marked record, or one already on the stack does
-- nothing."
use Rattle.std.specs.Prelude.{◌≡◌, Bool, true, false, ℕ, zero, suc}
use Rattle.std.proofs.Common.{⊎_elim}
use Rattle.std.proofs.Math.Option.{Option, none, some}
use mathlib.Core.List.Memᴰ
use mathlib.Core.List.{List, [], ◌∷◌, ◌++◌, Memᴰ}
use Rattle.std.proofs.Math.Decide.{ℕ_discrete}

abbrev pub tab : {A : Type 0} → ℕ → (ℕ → A) → List A
tab zero f = []
tab (suc n) f = tab n f ++ (f n ∷ [])

pub mem? : (b : ℕ) (l : List ℕ) → Dec (Memᴰ b l)
mem? b [] = no Memᴰ.not-nil
mem? b (x ∷ l) = go (ℕ_discrete b x) (mem? b l)
  where
    go : Dec (b ≡ x) → Dec (Memᴰ b l) → Dec (Memᴰ b (x ∷ l))
    go (yes e) d = yes (Memᴰ.head e)
    go (no n) (yes m) = yes (Memᴰ.tail m)
    go (no n) (no k) = no (λ m. ⊎_elim n k (Memᴰ.cases_cons m))

abbrev pub push_if : {X : Type 0} → Bool → Dec X → ℕ → List ℕ → List ℕ
push_if true d b l = l
push_if false (yes _) b l = l
push_if false (no _) b l = b ∷ l

-- nil, a marked record, one on the stack: nothing; the top is the head
unfoldable pub push : (ℕ → Bool) → Option ℕ → List ℕ → List ℕ
push m none l = l
push m (some b) l = push_if (m b) (mem? b l) b l

-- in order
abbrev pub pushes : (ℕ → Bool) → List (Option ℕ) → List ℕ → List ℕ
pushes m [] l = l
pushes m (r ∷ rs) l = pushes m rs (push m r l)
