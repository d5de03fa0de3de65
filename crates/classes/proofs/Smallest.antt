-- What `smallest_from` finds: a class whose block is large enough, and of which every smaller one is too small; none where none is.
-- Over any run of classes.
use mathlib.Core.Path.{◌≡◌, refl, subst}
use mathlib.Core.Bool.{Bool, true, false}
use mathlib.Core.Logic.{◌⊎◌, inl, inr}
use Prim.Native.Nat.{ℕ, zero, suc, ◌+◌, ◌-◌, ◌^◌, ◌<◌, ◌≤◌}
use native.Mathlib.Nat.{eq-or-lt_of_le, lt_of_le_of_lt}
use native.Mathlib.Omega.{arith}
use lib.Dec.{leb}
use lib.Pow.{pow_mono}
use borrow.Author.Tests.{lt-leb, leb-true, leb-false}
use Rattle.std.specs.Prelude.{Some, None}
use Rattle.basics.specs.Pick.{pick}
use Rattle.basics.proofs.Order.{le_or_lt}
use Rattle.classes.specs.Class.{first_class, class_count, IsClass, block_words, max_fields, record_bytes, smallest_from, class_of}

pub none_holds : (n c b : ℕ) → ((k : ℕ) → c ≤ k → k < c + n → 2 ^ k < b) → smallest_from n c b ≡ None
none_holds zero c b h = refl
none_holds (suc n) c b h =
    rw (lt-leb b (2 ^ c) (h c (omega arith) (omega arith))) (none_holds n (suc c) b (λ k l m. h k (omega arith) (omega arith)))

-- x is the smallest class from c on whose block holds b bytes
pub record Smallest (c b x : ℕ) : Type 0 where
  pub from : c ≤ x
  pub holds : b ≤ 2 ^ x
  pub least : (k : ℕ) → c ≤ k → k < x → 2 ^ k < b

pub is_smallest : (n c b x : ℕ) → smallest_from n c b ≡ Some x → (x < c + n) × Smallest c b x
is_smallest zero c b x e = let z : ◌≡◌ {A = ℕ} 0 1 = cc in absurd (omega arith)
is_smallest (suc n) c b x e = go (leb b (2 ^ c)) refl e (is_smallest n (suc c) b x)
  where
    go : (t : Bool) → leb b (2 ^ c) ≡ t → pick t (Some c) (smallest_from n (suc c) b) ≡ Some x
        → (smallest_from n (suc c) b ≡ Some x → (x < suc c + n) × Smallest (suc c) b x)
        → (x < c + suc n) × Smallest c b x
    go true q f rest =
        let same : c ≡ x = cc in (
          omega arith,
          record {
            from = omega arith;
            holds = subst (λ (k : ℕ). b ≤ 2 ^ k) same (leb-true b (2 ^ c) q);
            least = λ k l h. absurd (omega arith);
          },
        )
    go false q f rest =
        let r = rest f in (
          omega arith,
          record {
            from = omega arith;
            holds = r.1.holds;
            least = λ k l h. below (leb-false b (2 ^ c) q) r.1.least k h (eq-or-lt_of_le l);
          },
        )
      where
        below : 2 ^ c < b → ((k : ℕ) → suc c ≤ k → k < x → 2 ^ k < b) → (k : ℕ) → k < x → (c ≡ k) ⊎ (c < k) → 2 ^ k < b
        below here rest' k h (inl s) = subst (λ (j : ℕ). 2 ^ j < b) s here
        below here rest' k h (inr s) = rest' k s h

-- none is found only where every block is too small
pub too_big : (n c b : ℕ) → smallest_from n c b ≡ None → (k : ℕ) → c ≤ k → k < c + n → 2 ^ k < b
too_big zero c b e k l h = absurd (omega arith)
too_big (suc n) c b e k l h = go (leb b (2 ^ c)) refl e (eq-or-lt_of_le l) (too_big n (suc c) b)
  where
    go : (t : Bool) → leb b (2 ^ c) ≡ t → pick t (Some c) (smallest_from n (suc c) b) ≡ None → (c ≡ k) ⊎ (c < k)
        → (smallest_from n (suc c) b ≡ None → (k : ℕ) → suc c ≤ k → k < suc c + n → 2 ^ k < b) → 2 ^ k < b
    go true q f s rest = let z : ◌≡◌ {A = ℕ} 0 1 = cc in absurd (omega arith)
    go false q f (inl s) rest = subst (λ (j : ℕ). 2 ^ j < b) s (leb-false b (2 ^ c) q)
    go false q f (inr s) rest = rest f k s (omega arith)

-- a record has no class exactly when it has more fields than the largest block holds
pub class_limit : (fields : ℕ) → class_of fields ≡ None → max_fields < fields
class_limit fields e =
    let h = too_big class_count first_class (record_bytes fields) e (first_class + class_count - 1) (omega arith) (omega arith) in
    omega arith

pub past_limit : (fields : ℕ) → max_fields < fields → class_of fields ≡ None
past_limit fields h =
    none_holds class_count first_class (record_bytes fields)
    (λ k l m. lt_of_le_of_lt (pow_mono {i = k} {j = first_class + class_count - 1} (omega arith)) (omega arith))

-- what a record's class says: it is a class, and its block holds the header and the fields
pub class_found : (fields c : ℕ) → class_of fields ≡ Some c → IsClass c
class_found fields c e = let s = is_smallest class_count first_class (record_bytes fields) c e in (s.1.from, s.0)

pub class_holds : (fields c : ℕ) → class_of fields ≡ Some c → fields < block_words c
class_holds fields c e = let h : record_bytes fields ≤ 2 ^ c = (is_smallest class_count first_class (record_bytes fields) c e).1.holds in omega arith

pub class_most : (fields c : ℕ) → class_of fields ≡ Some c → fields ≤ max_fields
class_most fields c e = go (le_or_lt fields max_fields)
  where
    go : (fields ≤ max_fields) ⊎ (max_fields < fields) → fields ≤ max_fields
    go (inl l) = l
    go (inr h) = let t = past_limit fields h in let z : ◌≡◌ {A = ℕ} 0 1 = cc in absurd (omega arith)
