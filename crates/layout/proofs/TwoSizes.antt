-- What the two sizes have to do with each other: twice the blocks, and no length in common.
use mathlib.Core.Path.{◌≡◌, refl}
use mathlib.Core.Logic.{◌⊎◌, inl, inr}
use mathlib.Core.Bool.{Bool, true, false}
use Prim.Native.Nat.{ℕ, zero, suc, ◌-◌, ◌*◌, ◌≤◌}
use native.Mathlib.Omega.{arith}
use Rattle.classes.specs.Shape.{segment_size}
use Rattle.classes.proofs.Filling.{divides, blocks}
use Rattle.layout.specs.declared.Geometry.{Geometry}
use Rattle.layout.specs.Geometry.{small_kib, large_kib, max_segments, Sized, total, wrong_size}
use Rattle.layout.specs.TwoSizes.{TwiceTheBlocks, LengthsAre, OpensAtEither, AnotherRefused}
use Rattle.layout.proofs.Sizes.{large_bytes, small_bytes, either_of}
use Rattle.layout.proofs.Regions.{sized, right_size}

small_of : (g : Geometry) → g.kib ≡ small_kib → g.kib ≡ large_kib → ⊥
small_of g e f = omega arith

pub twice_the_blocks : TwiceTheBlocks
unfolding divides
twice_the_blocks g h c e f k =
    rw (large_bytes g e, small_bytes h (small_of h f)) (blocks segment_size tt 2 c (omega arith) k)

pub lengths_are : LengthsAre
lengths_are g = (
  λ e. let z = small_bytes g (small_of g e) in record { memory = rw z (omega arith); scratch = rw z (omega arith); states = omega arith },
  λ e. let z = large_bytes g e in record { memory = rw z (omega arith); scratch = rw z (omega arith); states = omega arith },
)

pub opens_at_either : OpensAtEither
opens_at_either g some few (inl e) = right_size g (total g) (record { some = some; few = few; whole = omega arith; small = omega arith; large = omega arith; is = refl })
opens_at_either g some few (inr e) = right_size g (total g) (record { some = some; few = few; whole = omega arith; small = omega arith; large = omega arith; is = refl })

-- a geometry is its two numbers
same_geometry : (g h : Geometry) → h.segments ≡ g.segments → h.kib ≡ g.kib → h ≡ g
same_geometry g h e f = λ i. record { segments = e i; kib = f i }

-- 1,571 divides 12,568 and all but 5 of each 3,147: n would be a multiple of 1,571
no_common : (n m : ℕ) → n ≤ max_segments → 1 ≤ m → 6294 * n ≡ 12568 * m → ⊥
no_common n m l h e = go (4 * m - 2 * n) (omega arith)
  where
    go : (k : ℕ) → 5 * n ≡ 1571 * k → ⊥
    go zero f = omega arith
    go (suc k) f = omega arith

one_geometry : (g h : Geometry) (x : ℕ) → Sized g x → Sized h x → h ≡ g
one_geometry g h x s t = go (either_of g.kib (s.whole, s.small, s.large)) (either_of h.kib (t.whole, t.small, t.large))
  where
    go : (g.kib ≡ small_kib) ⊎ (g.kib ≡ large_kib) → (h.kib ≡ small_kib) ⊎ (h.kib ≡ large_kib) → h ≡ g
    go (inl e) (inl f) =
        let p = ((lengths_are g).0 e).memory in
        let q = ((lengths_are h).0 f).memory in
        let a = s.is in
        let b = t.is in
        same_geometry g h (omega arith) (omega arith)
    go (inr e) (inr f) =
        let p = ((lengths_are g).1 e).memory in
        let q = ((lengths_are h).1 f).memory in
        let a = s.is in
        let b = t.is in
        same_geometry g h (omega arith) (omega arith)
    go (inl e) (inr f) =
        let p = ((lengths_are g).0 e).memory in
        let q = ((lengths_are h).1 f).memory in
        let a = s.is in
        let b = t.is in
        absurd (no_common g.segments h.segments s.few t.some (omega arith))
    go (inr e) (inl f) =
        let p = ((lengths_are g).1 e).memory in
        let q = ((lengths_are h).0 f).memory in
        let a = s.is in
        let b = t.is in
        absurd (no_common h.segments g.segments t.few s.some (omega arith))

pub another_refused : AnotherRefused
another_refused g h x e f = go (wrong_size h x) refl
  where
    go : (t : Bool) → wrong_size h x ≡ t → t ≡ true
    go true q = refl
    go false q = absurd (f (one_geometry g h x (sized g x e) (sized h x q)))
