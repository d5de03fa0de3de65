-- The part of the lent slice that is a segment's bitmap, that is its marks, and that spans from the one to the other.
use mathlib.Core.Path.{◌≡◌, refl, sym, ap, ◌∙◌}
use mathlib.Core.Bool.{Bool, true, false}
use lib.Dec.{ltb}
use borrow.Author.Tests.{ltb-true}
use Rattle.basics.specs.Pick.{pick}
use Rattle.words.specs.Bits.{bit_at, ones_among}
use Rattle.words.proofs.Ones.{among_same}
use Rattle.classes.proofs.Filling.{two_words}
use Rattle.bitmap_write.proofs.Packed.{length-packed, packed_same}
use Rattle.bitmap_write.proofs.Gathered.{bit_inside}
use Rattle.model_laws.proofs.Blocks.{even_words_lem, blocks_step, blocks_some}
use Rattle.model_laws.proofs.Windows.{window_bit}
use mathlib.Core.List.{List, [], ◌∷◌, ◌++◌, append_assoc}
use Prim.Native.Nat.{ℕ, zero, suc, ◌+◌, ◌-◌, ◌*◌, ◌/◌, ◌^◌, ◌≤◌, ◌<◌}
use native.Mathlib.Nat.{suc-mul, mul-le-mul_right, mul_assoc}
use native.Mathlib.Numerals.{add-one}
use native.Mathlib.Omega.{arith}
use lib.ListN.{length, take, drop, length-drop, take-append-drop}
use lib.Seq.{take-nil, take-take, drop-drop, drop-append-le, length-take-le}
use borrow.Rule.Slice.PartMut.{mid_of, put_mid}
use Rattle.words.specs.Levels.{words_for, tree_words}
use Rattle.classes.specs.Class.{IsClass, block_words}
use Rattle.layout.specs.declared.Geometry.{Geometry}
use Rattle.layout.specs.Geometry.{large_kib, from, mark_words, bitmap_words, blocks_in, most_blocks, mark_bit, Sized}
use Rattle.layout.specs.Mem.{mem_of, read_run}
use Rattle.layout.proofs.Regions.{read_at, part_at}
use Rattle.layout.proofs.Sizes.{large_bytes, small_bytes, class_fits, marks_are, marks_words, most_small}
use Rattle.bitmap_write.specs.Completed.{adopted, gathered_bit, gathered}
use Rattle.bitmap_write.proofs.Copied.{length-adopted, adopted_bit}
use Rattle.bitmap_write.proofs.Local.{adopted_append}
use Rattle.model.specs.Segments.{above, bitmap, set_bitmap, marks_in}
use Rattle.model.specs.Records.{header_of, entered}
use Rattle.model_laws.proofs.Lengths.{sizes_of}
use Rattle.model_laws.proofs.Bitmaps.{tree_room}
use Rattle.bitmaps.specs.Given.{Unmarked}
use Rattle.layout.specs.Region as Region

-- ---- the marks of one segment by a number of words

pub marks_large : (g : Geometry) → g.kib ≡ large_kib → mark_words g ≡ 128
marks_large g e = let z = large_bytes g e in omega arith

pub marks_small : (g : Geometry) → (g.kib ≡ large_kib → ⊥) → mark_words g ≡ 64
marks_small g e = let z = small_bytes g e in omega arith

-- where they end
marks_next : (g : Geometry) (s a w : ℕ) → a ≡ from g Region.marks + s * mark_words g → mark_words g ≡ w → a + w ≡ from g Region.marks + (s + 1) * mark_words g
marks_next g s a w e f =
    let q : (s + 1) * mark_words g ≡ s * mark_words g + mark_words g = ap (λ z. z * mark_words g) (add-one s) ∙ suc-mul s (mark_words g) in
    omega arith

-- ---- lists

-- a part put back with only its first w elements changed
put_head : (a n w : ℕ) (l ys : List ℕ) → w ≤ length (mid_of a n l) → put_mid a n l (ys ++ drop w (mid_of a n l)) ≡ put_mid a w l ys
put_head a n w l ys h =
    ap (λ (x : List ℕ). take a l ++ x) (append_assoc ys (drop w (take n (drop a l))) (drop n (drop a l))
    ∙ ap (λ (x : List ℕ). ys ++ x) (sym (drop-append-le w (take n (drop a l)) (drop n (drop a l)) h) ∙ ap (drop w) (take-append-drop n (drop a l))))

drop-take : (k n : ℕ) (l : List ℕ) → drop k (take n l) ≡ take (n - k) (drop k l)
drop-take zero n l = let e : n - 0 ≡ n = omega arith in rw e
drop-take (suc k) zero l = let e : 0 - suc k ≡ 0 = omega arith in rw e
drop-take (suc k) (suc n) [] = sym (take-nil (suc n - suc k))
drop-take (suc k) (suc n) (x ∷ l) = let e : suc n - suc k ≡ n - k = omega arith in rw e (drop-take k n l)

-- ---- a segment's parts

pub step_small : (g : Geometry) (c : ℕ) → IsClass c → block_words c / 2 ≤ 2 ^ 12
step_small g c k =
    let a : 1 * (block_words c / 2) ≤ blocks_in g c * (block_words c / 2) = mul-le-mul_right (block_words c / 2) (blocks_some g c k) in
    let e = blocks_step g c k in
    let u = most_small g in
    omega arith

-- the part from a to b is the bitmap of segment s, and a tree of class c fits in it
pub record TreePart (g : Geometry) (l : List ℕ) (s c a b : ℕ) : Type 0 where
  pub ends : b ≡ a + bitmap_words g
  pub within : b ≤ length l
  pub is : mid_of a (b - a) l ≡ bitmap g (mem_of g l) s
  pub fits : tree_words (above g c) (blocks_in g c) ≤ length (mid_of a (b - a) l)

module _ (g : Geometry) (l : List ℕ) (z : Sized g (length l)) (s : ℕ) (h : s < g.segments) where
  -- a row of w words for each segment
  row : (w : ℕ) → s * w + w ≤ g.segments * w
  row w = let e : suc s * w ≤ g.segments * w = mul-le-mul_right w h in let f = suc-mul s w in omega arith

  next : (w : ℕ) → (s + 1) * w ≡ s * w + w
  next w = ap (λ (x : ℕ). x * w) (add-one s) ∙ suc-mul s w

  -- the bitmap
  module _ (a b : ℕ) (at : a ≡ from g Region.bitmaps + s * bitmap_words g) (end : b ≡ from g Region.bitmaps + (s + 1) * bitmap_words g) where
    tree_end : (b ≡ a + bitmap_words g) × (b ≤ length l)
    tree_end =
        let r = row (bitmap_words g) in
        let q = next (bitmap_words g) in
        let t = z.is in
        (omega arith, omega arith)

    tree_part : mid_of a (b - a) l ≡ bitmap g (mem_of g l) s
    tree_part = read_at g l Region.bitmaps (s * bitmap_words g) (bitmap_words g) a b (at, tree_end.0, row (bitmap_words g), omega arith)

    pub tree_at_lem : (c : ℕ) → IsClass c → TreePart g l s c a b
    tree_at_lem c k = record { ends = tree_end.0; within = tree_end.1; is = tree_part; fits = rw tree_part (tree_room g (mem_of g l) (sizes_of g l z) s h c k) }

    pub tree_put : (make : List ℕ → List ℕ) (ys : List ℕ) → ys ≡ make (mid_of a (b - a) l) → length ys ≡ length (mid_of a (b - a) l)
        → mem_of g (put_mid a (b - a) l ys) ≡ set_bitmap g (mem_of g l) s (make (bitmap g (mem_of g l) s))
    tree_put make ys t u = part_at g l Region.bitmaps (s * bitmap_words g) (bitmap_words g) a b make ys t u (at, tree_end.0, row (bitmap_words g), omega arith, tree_end.1)

  -- the words of its mark bits
  abbrev mark_run : List ℕ
  mark_run = read_run (mem_of g l) Region.marks (s * mark_words g) (mark_words g)

  -- every step-th of them is a block's
  module _ (c : ℕ) (k : IsClass c) where
    abbrev step : ℕ
    step = block_words c / 2

    bit_of : (b : ℕ) → b < blocks_in g c → bit_at mark_run (b * step) ≡ entered g (mem_of g l) (header_of g s c b)
    bit_of b q =
        let w = marks_are g s in
        let u = marks_are g 1 in
        let v = marks_words g s in
        let p = two_words c k in
        let n = bit_inside b (blocks_in g c) step (most_blocks g) q (let e = even_words_lem c k in omega arith) (let e = blocks_step g c k in omega arith) in
        let f : b * block_words c ≡ b * step * 2 = ap (λ z. b * z) (even_words_lem c k) ∙ sym (mul_assoc b step 2) in
        let e : s * mark_words g * 32 + b * step ≡ mark_bit (header_of g s c b) = omega arith in
        window_bit (mem_of g l).marks (s * mark_words g) (mark_words g) (b * step) (omega arith) ∙ ap (bit_at (mem_of g l).marks) e

    marks_gathered : gathered mark_run step (blocks_in g c) ≡ marks_in g (mem_of g l) s c
    unfolding gathered_bit
    marks_gathered =
        packed_same (gathered_bit mark_run step (blocks_in g c))
        (λ b. pick (ltb b (blocks_in g c)) (entered g (mem_of g l) (header_of g s c b)) 0) (λ b. go b (ltb b (blocks_in g c)) refl)
        (words_for (blocks_in g c)) 0
      where
        go : (b : ℕ) (x : Bool) → ltb b (blocks_in g c) ≡ x → pick x (bit_at mark_run (b * step)) 0 ≡ pick x (entered g (mem_of g l) (header_of g s c b)) 0
        go b true e = bit_of b (ltb-true _ _ e)
        go b false e = refl

  -- the marks
  module _ (a b : ℕ) (at : a ≡ from g Region.marks + s * mark_words g) (end : b ≡ from g Region.marks + (s + 1) * mark_words g) where
    pub marks_end : (b ≡ a + mark_words g) × (b ≤ length l)
    marks_end =
        let r = row (mark_words g) in
        let q = next (mark_words g) in
        let t = z.is in
        (omega arith, omega arith)

    marks_part : mid_of a (b - a) l ≡ mark_run
    marks_part = read_at g l Region.marks (s * mark_words g) (mark_words g) a b (at, marks_end.0, row (mark_words g), omega arith)

    -- none of them is 1
    pub unmarked_part : ((k : ℕ) → bit_at (mid_of a (b - a) l) k ≡ 0) → Unmarked g (mem_of g l) s
    unmarked_part f c i k h = sym (bit_of c k i h) ∙ ap (λ (ws : List ℕ). bit_at ws (i * (block_words c / 2))) (sym marks_part) ∙ f (i * (block_words c / 2))

  -- the same by their number of words
  module _ (a w : ℕ) (at : a ≡ from g Region.marks + s * mark_words g) (are : mark_words g ≡ w) where
    pub marks_inside : a + w ≤ length l
    marks_inside = (marks_end a (a + w) at (marks_next g s a w at are)).1

    pub unmarked_words : ((k : ℕ) → bit_at (mid_of a (a + w - a) l) k ≡ 0) → Unmarked g (mem_of g l) s
    unmarked_words = unmarked_part a (a + w) at (marks_next g s a w at are)

  -- from the bitmap to the end of the marks
  module _ (a m b : ℕ) (tree : a ≡ from g Region.bitmaps + s * bitmap_words g) (at : m ≡ from g Region.marks + s * mark_words g) (end : b ≡ from g Region.marks + (s + 1) * mark_words g) where
    pub span : (a + bitmap_words g ≤ m) × (b ≡ m + mark_words g) × (b ≤ length l)
    span =
        let r = row (bitmap_words g) in
        let e = (marks_end m b at end).0 in
        (omega arith, e, (marks_end m b at end).1)

    span_length : length (mid_of a (b - a) l) ≡ b - a
    span_length = let x = span.2 in length-take-le (b - a) (drop a l) (omega (arith, length-drop a l))

    pub span_fits : (c : ℕ) → IsClass c
        → (tree_words (above g c) (blocks_in g c) ≤ m - a) × (m - a ≤ length (mid_of a (b - a) l))
        × (blocks_in g c * (block_words c / 2) ≤ (length (mid_of a (b - a) l) - (m - a)) * 32) × (blocks_in g c * (block_words c / 2) ≤ 2 ^ 20)
        × (1 ≤ (block_words c / 2))
    span_fits c k =
        let x = span.0 in
        let y = span.1 in
        let f = class_fits g c k in
        let q = blocks_step g c k in
        let w = marks_are g 1 in
        let p = two_words c k in
        let u = most_small g in
        (omega arith, omega (arith, span_length), omega (arith, span_length), omega arith, omega arith)

    -- the marks stand behind the tree
    behind : drop (m - a) (mid_of a (b - a) l) ≡ mark_run
    behind =
        let x = span.0 in
        let e : b - a - (m - a) ≡ b - m = omega arith in
        let f : a + (m - a) ≡ m = omega arith in
        drop-take (m - a) (b - a) (drop a l) ∙ rw (drop-drop (m - a) a l, e, f) (marks_part m b at end)

    -- and the tree at the head
    head : take (bitmap_words g) (mid_of a (b - a) l) ≡ bitmap g (mem_of g l) s
    head =
        let x = span.0 in
        let y = span.1 in
        let e : a + bitmap_words g - a ≡ bitmap_words g = omega arith in
        take-take (bitmap_words g) (b - a) (drop a l) (omega arith)
        ∙ (rw e at (tree_part a (a + bitmap_words g) tree (let q = next (bitmap_words g) in omega arith)))

    pub span_put : (c : ℕ) → IsClass c → (ys : List ℕ) → ys ≡ adopted (above g c) (blocks_in g c) (gathered (drop (m - a) (mid_of a (b - a) l)) ((block_words c / 2)) (blocks_in g c)) (mid_of a (b - a) l)
        → mem_of g (put_mid a (b - a) l ys) ≡ set_bitmap g (mem_of g l) s (adopted (above g c) (blocks_in g c) (marks_in g (mem_of g l) s c) (bitmap g (mem_of g l) s))
    span_put c k ys t =
        let x = span.0 in
        let y = span.1 in
        let n = next (bitmap_words g) in
        let end' : a + bitmap_words g ≡ from g Region.bitmaps + (s + 1) * bitmap_words g = omega arith in
        let part = tree_part a (a + bitmap_words g) tree end' in
        let long = length-adopted (above g c) (blocks_in g c) (marks_in g (mem_of g l) s c) (bitmap g (mem_of g l) s) marks_long (tree_room g (mem_of g l) (sizes_of g l z) s h c k) in
        ap (λ (v : List ℕ). mem_of g (put_mid a (b - a) l v)) (t ∙ whole_tree)
        ∙ ap (mem_of g) (put_head a (b - a) (bitmap_words g) l (make (bitmap g (mem_of g l) s)) (omega (arith, span_length)))
        ∙ ap (λ (v : ℕ). mem_of g (put_mid a v l (make (bitmap g (mem_of g l) s)))) {x = bitmap_words g} {y = a + bitmap_words g - a} (omega arith)
        ∙ tree_put a (a + bitmap_words g) tree end' make (make (bitmap g (mem_of g l) s)) (ap make (sym part)) (long ∙ ap length (sym part))
      where
        make : List ℕ → List ℕ
        make = adopted (above g c) (blocks_in g c) (marks_in g (mem_of g l) s c)

        marks_long : words_for (blocks_in g c) ≤ length (marks_in g (mem_of g l) s c)
        marks_long = let e = length-packed (λ b. pick (ltb b (blocks_in g c)) (entered g (mem_of g l) (header_of g s c b)) 0) (words_for (blocks_in g c)) 0 in omega arith

        whole_tree : adopted (above g c) (blocks_in g c) (gathered (drop (m - a) (mid_of a (b - a) l)) ((block_words c / 2)) (blocks_in g c))
            (mid_of a (b - a) l) ≡ make (bitmap g (mem_of g l) s) ++ drop (bitmap_words g) (mid_of a (b - a) l)
        whole_tree =
            ap (λ (v : List ℕ). adopted (above g c) (blocks_in g c) v (mid_of a (b - a) l)) (ap (λ (v : List ℕ). gathered v ((block_words c / 2)) (blocks_in g c)) behind ∙ marks_gathered c k)
            ∙ ap make (sym (take-append-drop (bitmap_words g) (mid_of a (b - a) l)) ∙ ap (λ (v : List ℕ). v ++ drop (bitmap_words g) (mid_of a (b - a) l)) head)
            ∙ adopted_append (drop (bitmap_words g) (mid_of a (b - a) l)) (above g c) (blocks_in g c) (marks_in g (mem_of g l) s c)
            (bitmap g (mem_of g l) s) marks_long (tree_room g (mem_of g l) (sizes_of g l z) s h c k)

    -- how many bits of the tree's level 0 are 1
    pub span_ones : (c : ℕ) → IsClass c → (ys : List ℕ) → ys ≡ adopted (above g c) (blocks_in g c) (gathered (drop (m - a) (mid_of a (b - a) l)) (block_words c / 2) (blocks_in g c)) (mid_of a (b - a) l)
        → ones_among (bit_at ys) (blocks_in g c) ≡ ones_among (bit_at (marks_in g (mem_of g l) s c)) (blocks_in g c)
    span_ones c k ys t = among_same (bit_at ys) (bit_at (marks_in g (mem_of g l) s c)) (blocks_in g c) same
      where
        are : gathered (drop (m - a) (mid_of a (b - a) l)) (block_words c / 2) (blocks_in g c) ≡ marks_in g (mem_of g l) s c
        are = ap (λ (v : List ℕ). gathered v (block_words c / 2) (blocks_in g c)) behind ∙ marks_gathered c k

        same : (i : ℕ) → i < blocks_in g c → bit_at ys i ≡ bit_at (marks_in g (mem_of g l) s c) i
        same i q =
            let e = length-packed (λ b. pick (ltb b (blocks_in g c)) (entered g (mem_of g l) (header_of g s c b)) 0) (words_for (blocks_in g c)) 0 in
            let f = span_fits c k in
            ap (λ (v : List ℕ). bit_at v i) (t ∙ ap (λ (v : List ℕ). adopted (above g c) (blocks_in g c) v (mid_of a (b - a) l)) are)
            ∙ adopted_bit (above g c) (blocks_in g c) (marks_in g (mem_of g l) s c) (mid_of a (b - a) l) (omega arith) (omega (arith, f.0, f.1)) i q
