-- A segment's bytes, and what follows for its words, blocks, bits and bitmap. Only the laws of the size look at how many they are.
use mathlib.Core.Path.{◌≡◌, refl, sym, ◌∙◌, ap, subst}
use mathlib.Core.Logic.{◌⊎◌, inl, inr}
use mathlib.Core.Bool.{Bool, true, false}
use Prim.Native.Nat.{ℕ, zero, suc, ◌+◌, ◌-◌, ◌*◌, ◌/◌, ◌%◌, ◌^◌, ◌≤◌, ◌<◌}
use native.Mathlib.Nat.{mul_assoc, mul-add, div-lt_iff_lt-mul, mul-add-div_right, div-eq_of_lt, mul-add-mod_self_right, mod-eq_of_lt, suc-mul, le_trans, mul-le-mul_left, mul-le-mul_right}
use native.Mathlib.Omega.{arith}
use lib.Dec.{eqb}
use borrow.Author.Tests.{eq-eqb, ne_eqb, eqb-true, eqb-false}
use Rattle.basics.specs.Pick.{pick}
use Rattle.words.specs.Levels.{Height, tree_words}
use Rattle.classes.specs.Class.{IsClass}
use Rattle.classes.specs.Shape.{segment_size, large_size, blocks_of, longest_of, shape_for}
use Rattle.classes.proofs.Filling.{divides, Filled, filled}
use Rattle.classes.proofs.Shapes.{fits, longest, blocks_most, shape_height}
use Rattle.layout.specs.declared.Geometry.{Geometry}
use Rattle.layout.specs.Geometry.{small_kib, large_kib, IsSize, Units, segment_bytes, segment_words, blocks_in, most_blocks, mark_words, bitmap_words, len, max_segments, segment_of}
use Rattle.layout.specs.Region as Region

-- ---- rows of w words

pub one_way : (w a i b j : ℕ) → i < w → j < w → a * w + i ≡ b * w + j → (a ≡ b) × (i ≡ j)
one_way w a i b j l h e =
    let p : 0 < w = omega arith in
    let q : (x r : ℕ) → r < w → (x * w + r) / w ≡ x = λ x r k. mul-add-div_right p x r ∙ ap (λ z. x + z) (div-eq_of_lt k) ∙ omega arith in
    let u : (x r : ℕ) → r < w → (x * w + r) % w ≡ r = λ x r k. mul-add-mod_self_right x w r ∙ mod-eq_of_lt k in
    (sym (q a i l) ∙ ap (λ z. z / w) e ∙ q b j h, sym (u a i l) ∙ ap (λ z. z % w) e ∙ u b j h)

pub within : (w a n i : ℕ) → a < n → i < w → a * w + i < n * w
within w a n i l h = let e : suc a * w ≤ n * w = mul-le-mul_right w l in let f = suc-mul a w in omega arith

-- ---- the size

-- by the number of KiB that the geometry names, as the source asks for it
pub large_bytes : (g : Geometry) → g.kib ≡ large_kib → segment_bytes g ≡ large_size
unfolding segment_bytes
large_bytes g e = rw (eq-eqb g.kib large_kib e)

pub small_bytes : (g : Geometry) → (g.kib ≡ large_kib → ⊥) → segment_bytes g ≡ segment_size
unfolding segment_bytes
small_bytes g e = rw (ne_eqb g.kib large_kib e)

-- one of the two sizes is 16 or 32
pub either_of : (k : ℕ) → IsSize k → (k ≡ small_kib) ⊎ (k ≡ large_kib)
either_of k z = go (eqb k small_kib) refl
  where
    go : (t : Bool) → eqb k small_kib ≡ t → (k ≡ small_kib) ⊎ (k ≡ large_kib)
    go true q = inl (eqb-true k small_kib q)
    go false q = let h = eqb-false k small_kib q in inr (omega arith)

-- what holds of a segment of either size holds of each geometry's
pub either_size : (P : ℕ → Type 0) → P segment_size → P large_size → (g : Geometry) → P (segment_bytes g)
unfolding segment_bytes
either_size P small large g = go (eqb g.kib large_kib)
  where
    go : (t : Bool) → P (pick t large_size segment_size)
    go true = large
    go false = small

-- by the number itself, where it is one of the two sizes
pub units_are : (g : Geometry) → IsSize g.kib → Units g (g.kib / small_kib)
units_are g z = go (either_of g.kib z)
  where
    go : (g.kib ≡ small_kib) ⊎ (g.kib ≡ large_kib) → Units g (g.kib / small_kib)
    go (inl e) = let b = small_bytes g (λ q. omega arith) in omega arith
    go (inr e) = let b = large_bytes g e in omega arith

-- a segment's bytes are 16 KiB (`segment_size`) some times over, and no more than three levels of bits reach
pub bytes_are : (g : Geometry) → (n : ℕ) × (segment_bytes g ≡ n * segment_size) × (1 ≤ n) × (n ≤ 2)
bytes_are = either_size (λ z. (n : ℕ) × (z ≡ n * segment_size) × (1 ≤ n) × (n ≤ 2)) (1, refl, omega arith, omega arith) (2, refl, omega arith, omega arith)

-- every class's bitmap is within the longest
pub class_fits : (g : Geometry) (c : ℕ) → IsClass c → tree_words ((shape_for (blocks_in g c)).levels - 1) (blocks_in g c) ≤ bitmap_words g
unfolding fits
class_fits g c k =
    either_size (λ z. tree_words ((shape_for (blocks_of z c)).levels - 1) (blocks_of z c) ≤ longest_of z) (longest segment_size tt c k) (longest large_size tt c k) g

-- ---- u times 16 KiB in each of n segments

pub times : {n u : ℕ} → n ≤ max_segments → u ≤ 2 → n * u ≤ 2 * max_segments
times {n} {u} l h = le_trans (mul-le-mul_right u l) (mul-le-mul_left max_segments h)

spread : (n u a b : ℕ) {z : ℕ} → z ≡ u * a + b → n * z ≡ n * u * a + n * b
spread n u a b e = ap (λ x. n * x) e ∙ mul-add n (u * a) b ∙ ap (λ x. x + n * b) (sym (mul_assoc n u a))

longest_units : (u : ℕ) → 1 ≤ u → u ≤ 2 → longest_of (u * segment_size) ≡ u * 66 + 1
longest_units zero l h = absurd (omega arith)
longest_units (suc zero) l h = refl
longest_units (suc (suc zero)) l h = refl
longest_units (suc (suc (suc u))) l h = absurd (omega arith)

-- the words, the blocks, the words of a bitmap and of marks
module _ (g : Geometry) (n u : ℕ) (z : Units g u) where
  pub words_spread : n * segment_words g ≡ n * u * 4096
  words_spread = let e = z.0 in spread n u 4096 0 (let f : segment_words g ≡ u * 4096 + 0 = omega arith in f) ∙ omega arith

  pub most_spread : n * most_blocks g ≡ n * u * 2048
  most_spread = let e = z.0 in spread n u 2048 0 (let f : most_blocks g ≡ u * 2048 + 0 = omega arith in f) ∙ omega arith

  pub bitmap_spread : n * bitmap_words g ≡ n * u * 66 + n
  bitmap_spread = spread n u 66 1 (ap longest_of z.0 ∙ longest_units u z.1 z.2) ∙ omega arith

  pub mark_spread : n * mark_words g ≡ n * u * 64
  mark_spread = let e = z.0 in spread n u 64 0 (let f : mark_words g ≡ u * 64 + 0 = omega arith in f) ∙ omega arith

-- ---- what follows

pub words_some : (g : Geometry) → 0 < segment_words g
words_some g = let z = bytes_are g in let e = z.1 in let l = z.2 in omega arith

-- a segment's blocks, of so many words each, fill it
pub whole : (g : Geometry) (c : ℕ) → IsClass c → Filled (segment_bytes g) c
unfolding divides
whole g c k = let z = bytes_are g in subst (λ b. Filled b c) (sym z.1) (filled segment_size tt z.0 c z.2 k)

-- the bitmap of a class ends in one word
pub class_height : (g : Geometry) (c : ℕ) → Height ((shape_for (blocks_in g c)).levels - 1) (blocks_in g c)
class_height g c = let z = bytes_are g in let e = z.1 in let l = z.3 in shape_height (blocks_in g c) (blocks_most (segment_bytes g) c (omega arith))

-- a word of marks for each 32 blocks
pub marks_are : (g : Geometry) (n : ℕ) → n * most_blocks g ≡ n * mark_words g * 32
marks_are g n = let z = bytes_are g in let e = z.1 in ap (λ x. n * x) (let f : most_blocks g ≡ mark_words g * 32 = omega arith in f) ∙ sym (mul_assoc n (mark_words g) 32)

-- a bit for each two words
pub marks_words : (g : Geometry) (n : ℕ) → n * segment_words g ≡ n * most_blocks g * 2
marks_words g n = let z = bytes_are g in let e = z.1 in ap (λ x. n * x) (let f : segment_words g ≡ most_blocks g * 2 = omega arith in f) ∙ sym (mul_assoc n (most_blocks g) 2)

-- the word of a bit of the marks
pub mark_word : (g : Geometry) (k : ℕ) → k < g.segments * most_blocks g → k / 32 < g.segments * mark_words g
mark_word g k l = let e = marks_are g g.segments in omega arith

-- the trace stack's entries can be counted in a word
pub trace_most : (g : Geometry) → g.segments ≤ max_segments → len g Region.trace ≤ 2 ^ 20
trace_most g h = let z = bytes_are g in let e = z.1 in let l = z.3 in let m : g.segments * most_blocks g ≤ max_segments * most_blocks g = mul-le-mul_right (most_blocks g) h in omega arith

-- a word of the heap can be named in a word, and a block
pub heap_most : (g : Geometry) → g.segments ≤ max_segments → len g Region.heap ≤ 2 ^ 21
heap_most g h = let z = bytes_are g in let e = z.1 in let l = z.3 in let m : g.segments * segment_words g ≤ max_segments * segment_words g = mul-le-mul_right (segment_words g) h in omega arith

pub most_small : (g : Geometry) → most_blocks g ≤ 2 ^ 12
most_small g = let z = bytes_are g in let e = z.1 in let l = z.3 in omega arith

pub segment_below : (g : Geometry) (at : ℕ) → at < g.segments * segment_words g → segment_of g at < g.segments
segment_below g at l = (div-lt_iff_lt-mul (words_some g)).1 l
