-- Whether a record of so many fields is of a class, by the words of the class's block: it holds the record, and half of it does not.
use mathlib.Core.Path.{◌≡◌, refl, ap, subst}
use mathlib.Core.Bool.{Bool}
use mathlib.Core.Logic.{◌⊎◌, inl, inr}
use Prim.Native.Nat.{ℕ, zero, suc, ◌/◌, ◌^◌, ◌≤◌, ◌<◌}
use native.Mathlib.Nat.{lt_of_le_of_lt}
use native.Mathlib.Omega.{arith}
use lib.Dec.{leb}
use lib.Pow.{pow_mono}
use borrow.Author.Tests.{leb-true, le-leb}
use Rattle.basics.specs.Decides.{Decides}
use Rattle.basics.proofs.Order.{le_or_lt}
use Rattle.classes.specs.Class.{first_class, class_count, IsClass, block_words, record_bytes, class_of, SizeClass}
use Rattle.classes.specs.Record.{field_count_of, class_of_record}
use Rattle.classes.specs.declared.RecordShape.{RecordShape}
use Rattle.std.specs.Prelude.{Some, None}
use Rattle.classes.proofs.Smallest.{is_smallest, too_big}

module _ (f c : ℕ) (k : IsClass c) where
  -- held by its block, and by no smaller one
  found : f < block_words c → ((j : ℕ) → first_class ≤ j → j < c → 2 ^ j < record_bytes f) → class_of f ≡ Some c
  found h least = go (class_of f) refl
    where
      same : (x : ℕ) → class_of f ≡ Some x → (x ≤ c) ⊎ (c < x) → (c ≤ x) ⊎ (x < c) → Some x ≡ Some c
      same x e (inl a) (inl b) = let z : x ≡ c = omega arith in ap Some z
      same x e (inl a) (inr b) = let s = (is_smallest class_count first_class (record_bytes f) x e).1 in absurd (let u = s.holds in let v = least x s.from b in omega arith)
      same x e (inr a) b = let s = (is_smallest class_count first_class (record_bytes f) x e).1 in absurd (let u = s.least c k.0 a in omega arith)

      go : (x : SizeClass) → class_of f ≡ x → x ≡ Some c
      go None e = absurd (let u = too_big class_count first_class (record_bytes f) e c k.0 k.1 in omega arith)
      go (Some x) e = same x e (le_or_lt x c) (le_or_lt c x)

-- the block of class d + 1 is twice that of class d
of_half : (f d : ℕ) → IsClass (suc d) → f < block_words (suc d) → (suc d ≡ first_class → ⊥) → Decides (leb (block_words (suc d) / 2) f) (class_of f ≡ Some (suc d))
of_half f d k h n = record {
  sound = λ t.
      let l = leb-true (block_words (suc d) / 2) f t in
      let u : 2 ^ d < record_bytes f = omega arith in
      found f (suc d) k h (λ j a b. lt_of_le_of_lt (pow_mono {i = j} {j = d} (omega arith)) u);
  complete = λ e.
      let u = (is_smallest class_count first_class (record_bytes f) (suc d) e).1.least d (omega arith) (omega arith) in
      le-leb (block_words (suc d) / 2) f (omega arith);
}

half_of : (f c : ℕ) → IsClass c → f < block_words c → (c ≡ first_class → ⊥) → Decides (leb (block_words c / 2) f) (class_of f ≡ Some c)
half_of f zero k h n = absurd (let l = k.0 in omega arith)
half_of f (suc d) k h n = of_half f d k h n

-- ---- by the values that the code has in hand

module _ (s s' : RecordShape) (e : s ≡ s') (c w : ℕ) (k : IsClass c) (is : w ≡ block_words c) where
  there : {r : Bool} → Decides r (class_of_record s ≡ Some c) → Decides r (class_of_record s' ≡ Some c)
  there {r} d = subst (λ x. Decides r (class_of_record x ≡ Some c)) e d

  pub by_half : field_count_of s < w → (c ≡ first_class → ⊥) → Decides (leb (w / 2) (field_count_of s)) (class_of_record s' ≡ Some c)
  by_half h q = there (rw is (half_of (field_count_of s) c k (omega arith) q))
