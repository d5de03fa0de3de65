-- Laws of a bit pointer's positions.
use mathlib.Core.Path.{◌≡◌, refl}
use Prim.Native.Nat.{ℕ, zero, suc}
use Rattle.bitmap_search.specs.declared.BitPos.{BitPos}
use Rattle.bitmap_search.specs.declared.BitPtr.{BitPtr}
use Rattle.bitmap_search.specs.Pointer.{pos_at, with_pos, aimed, pos_of}

-- what was put at a level is there
pub pos_with : (p : BitPtr) (l : ℕ) (x : BitPos) → pos_at (with_pos p l x) l ≡ x
pos_with p zero x = refl
pos_with p (suc zero) x = refl
pos_with p (suc (suc l)) x = refl

pub pos_aimed : (p : BitPtr) (l k : ℕ) → pos_at (aimed p l k) l ≡ pos_of k
pos_aimed p zero k = refl
pos_aimed p (suc zero) k = refl
pos_aimed p (suc (suc l)) k = refl

-- at a level that is neither 0 nor 1
module _ (p : BitPtr) where
  pub pos_high : (l : ℕ) → (l ≡ 0 → ⊥) → (l ≡ 1 → ⊥) → p.high ≡ pos_at p l
  pos_high zero f g = absurd (f refl)
  pos_high (suc zero) f g = absurd (g refl)
  pos_high (suc (suc l)) f g = refl

  pub with_high : (l : ℕ) (x : BitPos) → (l ≡ 0 → ⊥) → (l ≡ 1 → ⊥) → with_pos p 2 x ≡ with_pos p l x
  with_high zero x f g = absurd (f refl)
  with_high (suc zero) x f g = absurd (g refl)
  with_high (suc (suc l)) x f g = refl

  pub aimed_high : (l k : ℕ) → (l ≡ 0 → ⊥) → (l ≡ 1 → ⊥) → aimed p 2 k ≡ aimed p l k
  aimed_high zero k f g = absurd (f refl)
  aimed_high (suc zero) k f g = absurd (g refl)
  aimed_high (suc (suc l)) k f g = refl
