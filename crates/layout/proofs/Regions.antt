-- The words of the lent slice and those of the regions; k is the region.
use Prim.Native.Nat.{ℕ, ◌+◌, ◌-◌, ◌≤◌, ◌<◌}
use mathlib.Core.Path.{◌≡◌, refl, sym, ◌∙◌, ap}
use mathlib.Core.Logic.{◌⊎◌, inl, inr}
use mathlib.Core.Bool.{Bool, true, false, not, true≢false}
use mathlib.Core.List.{List, [], ◌∷◌, append_assoc, append-nil}
use native.Mathlib.Omega.{arith}
use lib.ListN.{length, get_or, take, drop, set, replicate, length-append, length-take, length-drop, length-replicate, drop_of_length-le}
use lib.Seq.{sets, sets-eq, drop-drop, length-take-le}
use lib.Dec.{eqb, ltb}
use borrow.Rule.Slice.PartMut.{mid_of, put_mid}
use borrow.Author.Tests.{le-ltb, eq-eqb, ltb-false, eqb-true, not-false}
use Rattle.basics.specs.Pick.{pick}
use Rattle.layout.specs.declared.Geometry.{Geometry}
use Rattle.layout.specs.Parts.{parts, joined, start, lengths}
use Rattle.layout.specs.Geometry.{small_kib, large_kib, IsSize, no_kib, lens, len, from, total, region_count, max_segments, Sized, wrong_size}
use Rattle.layout.specs.Mem.{Mem, mem_of, flat, of_parts, regions, region, read_run, with_region, set_run, clear_region, Sizes}
use Rattle.layout.proofs.Sizes.{either_of}
use Rattle.layout.proofs.Spliced.{run_sets}
use Rattle.layout.proofs.Cut.{read, write, writes, lent, whole, apart, long_at}

module _ (g : Geometry) (l : List ℕ) where
  pub get_at : (k i j : ℕ) → (j ≡ from g k + i) × (i < len g k) → get_or l j 0 ≡ get_or (region (mem_of g l) k) i 0
  unfolding mem_of
  get_at k i j (e, h) = rw e (sym (read (lens g) l k i h))

  pub set_at : (k i j v : ℕ) → (j ≡ from g k + i) × (i < len g k) → mem_of g (set l j v) ≡ with_region (mem_of g l) k (set (region (mem_of g l) k) i v)
  unfolding mem_of
  set_at k i j v (e, h) = rw e (ap of_parts (write (lens g) l k i v h))

  -- w words from word i of region k, lent to a leaf that makes g of them: `&mut mem[a..a + w]`
  leaf_sets : (k i w a : ℕ) (make : List ℕ → List ℕ) (ys : List ℕ) → ys ≡ make (mid_of a (a + w - a) l)
      → length ys ≡ length (mid_of a (a + w - a) l) → (a ≡ from g k + i) × (i + w ≤ len g k) × (k < region_count) × (a + w ≤ length l)
      → mem_of g (put_mid a (a + w - a) l ys) ≡ with_region (mem_of g l) k (sets (region (mem_of g l) k) i (make (read_run (mem_of g l) k i w)))
  unfolding mem_of
  leaf_sets k i w a make ys t s (e, h, q, u) =
      let f : a + w - a ≡ w = omega arith in
      let z : length ys ≡ w = s ∙ length-take (a + w - a) (drop a l) ∙ simp length-drop (omega arith) in
      rw (f, drop-drop w a l, ← z, ← append_assoc (take a l) ys (drop (a + length ys) l), ← sets-eq ys l a (omega arith), e)
      (ap of_parts (writes (lens g) l k i ys (omega arith))
      ∙ ap (λ (x : List ℕ). of_parts (set (parts (lens g) l) k (sets (get_or (parts (lens g) l) k []) i x)))
      (t ∙ ap make (rw (f, e, z) (lent (lens g) l k i w h q))))

  pub leaf_at : (k i w a : ℕ) (make : List ℕ → List ℕ) (ys : List ℕ) → ys ≡ make (mid_of a (a + w - a) l)
      → length ys ≡ length (mid_of a (a + w - a) l) → (a ≡ from g k + i) × (i + w ≤ len g k) × (k < region_count) × (a + w ≤ length l)
      → mem_of g (put_mid a (a + w - a) l ys) ≡ set_run (mem_of g l) k i (make (read_run (mem_of g l) k i w))
  leaf_at k i w a make ys t s q = leaf_sets k i w a make ys t s q ∙ sym (run_sets (mem_of g l) k i (make (read_run (mem_of g l) k i w)))

  -- the same part, by where it ends: `&mem[a..b]` read, and `&mut mem[a..b]`
  pub read_at : (k i w a b : ℕ) → (a ≡ from g k + i) × (b ≡ a + w) × (i + w ≤ len g k) × (k < region_count) → mid_of a (b - a) l ≡ read_run (mem_of g l) k i w
  unfolding mem_of
  read_at k i w a b (e, f, h, q) = let z : b - a ≡ w = omega arith in rw (z, e) (lent (lens g) l k i w h q)

  pub part_at : (k i w a b : ℕ) (make : List ℕ → List ℕ) (ys : List ℕ) → ys ≡ make (mid_of a (b - a) l) → length ys ≡ length (mid_of a (b - a) l)
      → (a ≡ from g k + i) × (b ≡ a + w) × (i + w ≤ len g k) × (k < region_count) × (b ≤ length l)
      → mem_of g (put_mid a (b - a) l ys) ≡ set_run (mem_of g l) k i (make (read_run (mem_of g l) k i w))
  part_at k i w a b make ys t s (e, f, h, q, u) = ap (λ z. mem_of g (put_mid a (z - a) l ys)) f ∙ leaf_at k i w a make ys (rw f at t) (rw f at s) (e, h, q, omega arith)

  pub length-region : (k : ℕ) → length l ≡ total g → from g k + len g k ≤ total g → length (region (mem_of g l) k) ≡ len g k
  unfolding mem_of
  length-region k e h = long_at (lens g) l k (omega arith)

  -- a whole region set
  pub run_all : (k : ℕ) (ys : List ℕ) → length l ≡ total g → from g k + len g k ≤ total g → length ys ≡ len g k → set_run (mem_of g l) k 0 ys ≡ with_region (mem_of g l) k ys
  run_all k ys e h f =
      let r = region (mem_of g l) k in
      let z : length r ≡ len g k = length-region k e h in
      run_sets (mem_of g l) k 0 ys ∙ ap (with_region (mem_of g l) k) (sets-eq ys r 0 (omega arith) ∙ rw (drop_of_length-le r {i = 0 + length ys} (omega arith)) (append-nil ys))

  -- a part lent to a leaf that clears what it is lent, `&mut mem[a..b]`, and a whole region
  pub cleared_part : (k i w a b : ℕ) (ys : List ℕ) → ys ≡ replicate (length (mid_of a (b - a) l)) 0
      → (a ≡ from g k + i) × (b ≡ a + w) × (i + w ≤ len g k) × (k < region_count) × (b ≤ length l)
      → mem_of g (put_mid a (b - a) l ys) ≡ set_run (mem_of g l) k i (replicate w 0)
  cleared_part k i w a b ys t (e, f, h, q, u) =
      let y : length (mid_of a (b - a) l) ≡ b - a = length-take-le (b - a) (drop a l) (omega (arith, length-drop a l)) in
      let z : length (mid_of a (b - a) l) ≡ w = omega arith in
      part_at k i w a b (λ _. replicate w 0) ys (t ∙ ap (λ (j : ℕ). replicate j 0) z) (ap length t ∙ length-replicate _ 0) (e, f, h, q, u)

  pub cleared_at : (k a b : ℕ) (ys : List ℕ) → ys ≡ replicate (length (mid_of a (b - a) l)) 0 → (a ≡ from g k) × (b ≡ a + len g k) × (k < region_count)
      → length l ≡ total g → from g k + len g k ≤ total g → mem_of g (put_mid a (b - a) l ys) ≡ clear_region g (mem_of g l) k
  unfolding clear_region
  cleared_at k a b ys t (e, h, q) f o =
      cleared_part k 0 (len g k) a b ys t (omega arith) ∙ run_all k (replicate (len g k) 0) f o (length-replicate (len g k) 0)

  pub flat_mem_of : length l ≡ total g → flat (mem_of g l) ≡ l
  unfolding mem_of flat
  flat_mem_of e = whole (lens g) l (omega arith)

same_lengths : (g : Geometry) (m : Mem) → Sizes g m → lengths (regions m) ≡ lens g
same_lengths g m z = rw (z.control, z.mutators, z.heap, z.segments, z.stacks, z.bitmaps, z.marks, z.trace) refl

-- a memory with regions of their lengths, joined: a slice of the right length, cut into that memory again
pub mem_of-flat : (g : Geometry) (m : Mem) → Sizes g m → mem_of g (flat m) ≡ m
unfolding mem_of flat
mem_of-flat g m z = ap (λ (ks : List ℕ). of_parts (parts ks (joined (regions m)))) (sym (same_lengths g m z)) ∙ ap of_parts (apart (regions m))

length-joined : (xs : List (List ℕ)) → length (joined xs) ≡ start (lengths xs) (length xs)
length-joined [] = refl
length-joined (x ∷ xs) = length-append x (joined xs) ∙ ap (λ n. length x + n) (length-joined xs)

pub length-flat : (g : Geometry) (m : Mem) → Sizes g m → length (flat m) ≡ total g
unfolding flat
length-flat g m z = length-joined (regions m) ∙ ap (λ (ks : List ℕ). start ks region_count) (same_lengths g m z)

or_false : (b : Bool) {x : Bool} → pick b true x ≡ false → (b ≡ false) × (x ≡ false)
or_false true e = absurd (true≢false e)
or_false false e = (refl, e)

-- one of the two sizes
pub a_size : (k : ℕ) → no_kib k ≡ false → IsSize k
a_size k e = go (eqb k small_kib) refl e
  where
    go : (t : Bool) → eqb k small_kib ≡ t → pick t false (not (eqb k large_kib)) ≡ false → IsSize k
    go true q f = let h = eqb-true k small_kib q in omega arith
    go false q f = let h = eqb-true k large_kib (not-false _ f) in omega arith

pub is_size : (k : ℕ) → IsSize k → no_kib k ≡ false
is_size k z = go (either_of k z)
  where
    go : (k ≡ small_kib) ⊎ (k ≡ large_kib) → no_kib k ≡ false
    go (inl e) = rw e refl
    go (inr e) = rw e refl

pub sized : (g : Geometry) (x : ℕ) → wrong_size g x ≡ false → Sized g x
unfolding wrong_size
sized g x e =
    let a = or_false (ltb g.segments 1) e in
    let b = or_false (ltb max_segments g.segments) a.1 in
    let d = or_false (no_kib g.kib) b.1 in
    let z = a_size g.kib d.0 in
    record {
      some = ltb-false g.segments 1 a.0;
      few = ltb-false max_segments g.segments b.0;
      whole = z.0;
      small = z.1;
      large = z.2;
      is = eqb-true x (total g) (not-false _ d.1);
    }

pub right_size : (g : Geometry) (x : ℕ) → Sized g x → wrong_size g x ≡ false
unfolding wrong_size
right_size g x s = rw (le-ltb g.segments 1 s.some, le-ltb max_segments g.segments s.few, is_size g.kib (s.whole, s.small, s.large), eq-eqb x (total g) s.is) refl

-- a slice of the same length
pub resized : (g : Geometry) (x y : ℕ) → Sized g x → y ≡ x → Sized g y
resized g x y s e = record { some = s.some; few = s.few; whole = s.whole; small = s.small; large = s.large; is = e ∙ s.is }
