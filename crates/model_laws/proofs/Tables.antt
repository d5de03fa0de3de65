-- Tables of values as lists.
use mathlib.Core.Path.{◌≡◌, refl, sym, ◌∙◌, ap}
use mathlib.Core.Logic.{◌⊎◌, inl, inr}
use mathlib.Core.List.{List, [], ◌∷◌, ◌++◌}
use Prim.Native.Nat.{ℕ, zero, suc, ◌<◌}
use native.Mathlib.Omega.{arith}
use lib.ListN.{length, get_or, set, replicate, length-append, get_or-append, length-set, length-replicate, get_or-replicate}
use lib.Seq.{get_or_at, ext_get_or, get_or-set_same, get_or-set_other}
use Rattle.basics.proofs.Order.{same_or_not}
use Rattle.theory.specs.TraceStack.{tab}

pub length-tab : (n : ℕ) (f : ℕ → ℕ) → length (tab n f) ≡ n
length-tab zero f = refl
length-tab (suc n) f = length-append (tab n f) (f n ∷ []) ∙ (let e = length-tab n f in omega arith)

pub get_or-tab : (n : ℕ) (f : ℕ → ℕ) (i : ℕ) → i < n → get_or (tab n f) i 0 ≡ f i
get_or-tab zero f i h = absurd (omega arith)
get_or-tab (suc n) f i h = go (same_or_not i n) (λ l. get_or-tab n f i l)
  where
    go : (i ≡ n) ⊎ (i ≡ n → ⊥) → (i < n → get_or (tab n f) i 0 ≡ f i) → get_or (tab n f ++ (f n ∷ [])) i 0 ≡ f i
    go (inl e) ih = get_or_at (tab n f) (f n) [] 0 i (length-tab n f ∙ sym e) ∙ ap f (sym e)
    go (inr e) ih = let l = length-tab n f in get_or-append (tab n f) (f n ∷ []) 0 i (omega arith) ∙ ih (omega arith)

-- a list is the table of its elements
pub tab_of : (l : List ℕ) (n : ℕ) (f : ℕ → ℕ) → length l ≡ n → ((i : ℕ) → i < n → get_or l i 0 ≡ f i) → l ≡ tab n f
tab_of l n f e h = ext_get_or 0 l (tab n f) (e ∙ sym (length-tab n f)) (λ i k. h i (omega arith) ∙ sym (get_or-tab n f i (omega arith)))

pub tab_zeros : (n : ℕ) (f : ℕ → ℕ) → ((i : ℕ) → i < n → f i ≡ 0) → tab n f ≡ replicate n 0
tab_zeros n f h = sym (tab_of (replicate n 0) n f (length-replicate n 0) (λ i l. get_or-replicate n i 0 0 l ∙ sym (h i l)))

-- one element set
pub tab_set : (n : ℕ) (f g : ℕ → ℕ) (k v : ℕ) → k < n → g k ≡ v → ((i : ℕ) → i < n → (i ≡ k → ⊥) → g i ≡ f i) → set (tab n f) k v ≡ tab n g
tab_set n f g k v l e h = tab_of (set (tab n f) k v) n g (length-set (tab n f) k v ∙ length-tab n f) at
  where
    at : (i : ℕ) → i < n → get_or (set (tab n f) k v) i 0 ≡ g i
    at i q = go (same_or_not i k)
      where
        go : (i ≡ k) ⊎ (i ≡ k → ⊥) → get_or (set (tab n f) k v) i 0 ≡ g i
        go (inl z) = let y = length-tab n f in ap (λ x. get_or (set (tab n f) k v) x 0) z ∙ get_or-set_same (tab n f) k v 0 (omega arith) ∙ sym e ∙ ap g (sym z)
        go (inr z) = get_or-set_other (tab n f) k i v 0 z ∙ get_or-tab n f i q ∙ sym (h i q z)
