-- The segment that a step in sweep takes: one that is condemned, and none only where no segment is.
use mathlib.Core.Path.{◌≡◌, refl, sym, ◌∙◌, ap}
use mathlib.Core.Logic.{⊎_elim}
use mathlib.Core.Bool.{Bool, true, false}
use mathlib.Core.Option.{Option, none, some, some-injective}
use Prim.Native.Nat.{ℕ, zero, suc, ◌<◌}
use native.Mathlib.Omega.{arith}
use lib.Dec.{eqb}
use borrow.Author.Tests.{eq-eqb, ne_eqb, eqb-true, eqb-false}
use Rattle.basics.specs.Pick.{pick}
use Rattle.basics.proofs.Order.{le_or_lt}
use Rattle.layout.specs.Mem.{Mem}
use Rattle.theory.proofs.Invariant.{none_some}
use Rattle.model.specs.Fields.{tag}
use Rattle.model.specs.Collector.{lowest, or_then}
use Rattle.model.specs.Tag as Tag

-- what the scan finds is condemned
pub found_condemned : (m : Mem) (n r : ℕ) → lowest m n ≡ some r → (r < n) × (tag m r ≡ Tag.condemned)
unfolding lowest
found_condemned m zero r e = none_some e
found_condemned m (suc n) r e = go (lowest m n) refl e (λ q. found_condemned m n r q)
  where
    here : (t : Bool) → eqb (tag m n) Tag.condemned ≡ t → pick t (some n) none ≡ some r → (r < suc n) × (tag m r ≡ Tag.condemned)
    here true q f = let z : n ≡ r = some-injective n r f in (omega arith, ap (tag m) (sym z) ∙ eqb-true _ _ q)
    here false q f = none_some f

    go : (o : Option ℕ) → lowest m n ≡ o → or_then o (pick (eqb (tag m n) Tag.condemned) (some n) none) ≡ some r
        → (lowest m n ≡ some r → (r < n) × (tag m r ≡ Tag.condemned)) → (r < suc n) × (tag m r ≡ Tag.condemned)
    go none q f ih = here (eqb (tag m n) Tag.condemned) refl f
    go (some s) q f ih = let z = ih (q ∙ f) in let l : r < n = z.0 in (omega arith, z.1)

-- where it finds none, none is there
pub none_condemned : (m : Mem) (n : ℕ) → lowest m n ≡ none → (s : ℕ) → s < n → tag m s ≡ Tag.condemned → ⊥
unfolding lowest
none_condemned m zero e s l q = omega arith
none_condemned m (suc n) e s l q = go (lowest m n) refl e (λ f h. none_condemned m n f s h q)
  where
    here : (t : Bool) → eqb (tag m n) Tag.condemned ≡ t → pick t (some n) none ≡ none → (s < n → ⊥) → ⊥
    here true k f ih = none_some (sym f)
    here false k f ih = ⊎_elim (λ z. let y : n ≡ s = omega arith in eqb-false _ _ k (ap (tag m) y ∙ q)) ih (le_or_lt n s)

    go : (o : Option ℕ) → lowest m n ≡ o → or_then o (pick (eqb (tag m n) Tag.condemned) (some n) none) ≡ none → (lowest m n ≡ none → s < n → ⊥) → ⊥
    go none k f ih = here (eqb (tag m n) Tag.condemned) refl f (ih k)
    go (some x) k f ih = none_some (sym f)

-- what it finds is the lowest
pub lower_other : (m : Mem) (n r : ℕ) → lowest m n ≡ some r → (s : ℕ) → s < r → tag m s ≡ Tag.condemned → ⊥
unfolding lowest
lower_other m zero r e s l q = none_some e
lower_other m (suc n) r e s l q = go (lowest m n) refl e (λ f. lower_other m n r f s l q)
  where
    here : (t : Bool) → pick t (some n) none ≡ some r → lowest m n ≡ none → ⊥
    here true f k = let z : n ≡ r = some-injective n r f in none_condemned m n k s (omega arith) q
    here false f k = none_some f

    go : (o : Option ℕ) → lowest m n ≡ o → or_then o (pick (eqb (tag m n) Tag.condemned) (some n) none) ≡ some r → (lowest m n ≡ some r → ⊥) → ⊥
    go none k f ih = here (eqb (tag m n) Tag.condemned) f k
    go (some x) k f ih = ih (k ∙ f)

-- ---- where no segment is condemned, it finds none

pub lowest_none : (m : Mem) (n : ℕ) → ((s : ℕ) → s < n → tag m s ≡ Tag.condemned → ⊥) → lowest m n ≡ none
unfolding lowest
lowest_none m zero f = refl
lowest_none m (suc n) f = rw (lowest_none m n (λ s l. f s (omega arith)), ne_eqb _ _ (f n (omega arith))) refl

pub lowest_some : (m : Mem) (n r : ℕ) → r < n → tag m r ≡ Tag.condemned → ((s : ℕ) → s < r → tag m s ≡ Tag.condemned → ⊥) → lowest m n ≡ some r
unfolding lowest
lowest_some m zero r l t f = absurd (omega arith)
lowest_some m (suc n) r l t f =
    ⊎_elim (λ h. let z : n ≡ r = omega arith in rw (lowest_none m n (λ s k. f s (omega arith)), eq-eqb _ _ (ap (tag m) z ∙ t)) (ap some z)) (λ h. rw (lowest_some m n r h t f) refl) (le_or_lt n r)
