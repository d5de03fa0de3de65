-- The tree of a class, any number: its words are too few below the classes, and past them it has one level.
use mathlib.Core.Path.{◌≡◌, refl, sym, ◌∙◌, ap, subst}
use mathlib.Core.Bool.{Bool, false}
use mathlib.Core.List.{List}
use Prim.Native.Nat.{ℕ, zero, suc, ◌+◌, ◌-◌, ◌*◌, ◌^◌, ◌≤◌, ◌<◌}
use native.Mathlib.Nat.{div-lt_iff_lt-mul, pow-le-pow_right}
use native.Mathlib.Omega.{arith}
use lib.ListN.{length}
use borrow.Author.Tests.{le-leb}
use borrow.Rule.Slice.PartMut.{mid_of}
use Rattle.basics.specs.Decides.{Decides}
use Rattle.basics.proofs.Deciding.{fails}
use Rattle.words.specs.Levels.{words_for, tree_words}
use Rattle.words.specs.Tree.{Tree}
use Rattle.words.proofs.Trees.{tree_level}
use Rattle.classes.specs.Class.{first_class, class_count}
use Rattle.classes.specs.Shape.{segment_size, blocks_of, longest_of}
use Rattle.layout.specs.declared.Geometry.{Geometry}
use Rattle.layout.specs.Geometry.{Sized, bitmap_words, blocks_in, segment_bytes}
use Rattle.layout.specs.Mem.{mem_of}
use Rattle.layout.proofs.Sizes.{bytes_are}
use Rattle.model.specs.Segments.{above, bitmap}
use Rattle.model_laws.proofs.Bitmaps.{length-bitmap}
use Rattle.model_laws.proofs.Lengths.{sizes_of}
use Rattle.bitmaps.proofs.Lent.{TreePart}

-- ---- below the classes

long_once : (c : ℕ) → c < first_class → longest_of segment_size < words_for (blocks_of segment_size c)
long_once zero l = omega arith
long_once (suc zero) l = omega arith
long_once (suc (suc zero)) l = omega arith
long_once (suc (suc (suc c))) l = absurd (omega arith)

long_twice : (c : ℕ) → c < first_class → longest_of (2 * segment_size) < words_for (blocks_of (2 * segment_size) c)
long_twice zero l = omega arith
long_twice (suc zero) l = omega arith
long_twice (suc (suc zero)) l = omega arith
long_twice (suc (suc (suc c))) l = absurd (omega arith)

too_long : (n c : ℕ) → 1 ≤ n → n ≤ 2 → c < first_class → longest_of (n * segment_size) < words_for (blocks_of (n * segment_size) c)
too_long zero c a b l = absurd (omega arith)
too_long (suc zero) c a b l = long_once c l
too_long (suc (suc zero)) c a b l = long_twice c l
too_long (suc (suc (suc n))) c a b l = absurd (omega arith)

more_words : (g : Geometry) (c : ℕ) → c < first_class → bitmap_words g < words_for (blocks_in g c)
more_words g c l = let z = bytes_are g in subst (λ b. longest_of b < words_for (blocks_of b c)) (sym z.1) (too_long z.0 c z.2 z.3 l)

pub no_tree : (g : Geometry) (xs : List ℕ) → Sized g (length xs) → (s : ℕ) → s < g.segments → (c : ℕ) → c < first_class → Decides false (Tree (above g c) (blocks_in g c) (bitmap g (mem_of g xs) s))
no_tree g xs z s h c l = fails (λ t. let a = (tree_level _ _ _ t).room in let b = length-bitmap g (mem_of g xs) (sizes_of g xs z) s h in let d = more_words g c l in omega arith)

-- ---- past them

few_blocks : (g : Geometry) (c : ℕ) → first_class + class_count ≤ c → blocks_in g c ≤ 32
few_blocks g c l =
    let z = bytes_are g in
    let e = z.1 in
    let n = z.3 in
    let p : 2 ^ (first_class + class_count) ≤ 2 ^ c = pow-le-pow_right (omega arith) l in
    let q : blocks_in g c < 5 = (div-lt_iff_lt-mul {k = 2 ^ c} {x = segment_bytes g} {y = 5} (omega arith)).1 (omega arith) in
    omega arith

one_level : (g : Geometry) (c : ℕ) → first_class + class_count ≤ c → 0 ≡ above g c
one_level g c l = rw (le-leb (blocks_in g c) 32 (few_blocks g c l)) refl

some_word : (n : ℕ) → 1 ≤ n → n ≤ 2 → 1 ≤ longest_of (n * segment_size)
some_word zero a b = absurd (omega arith)
some_word (suc zero) a b = omega arith
some_word (suc (suc zero)) a b = omega arith
some_word (suc (suc (suc n))) a b = absurd (omega arith)

pub past_room : (g : Geometry) (c : ℕ) → first_class + class_count ≤ c → (n : ℕ) → n ≡ blocks_in g c → tree_words 0 n ≤ bitmap_words g
past_room g c l n e = let f = few_blocks g c l in let z = bytes_are g in let a : 1 ≤ bitmap_words g = subst (λ b. 1 ≤ longest_of b) (sym z.1) (some_word z.0 z.2 z.3) in omega arith

pub past_tree : (g : Geometry) (c : ℕ) → first_class + class_count ≤ c → (n : ℕ) → n ≡ blocks_in g c → (r : Bool) (ws : List ℕ) → Decides r (Tree 0 n ws) → Decides r (Tree (above g c) (blocks_in g c) ws)
past_tree g c l n e r ws d = subst (λ a. Decides r (Tree a (blocks_in g c) ws)) (one_level g c l) (subst (λ b. Decides r (Tree 0 b ws)) e d)

-- ---- the part that is lent

pub part_room : (g : Geometry) (xs : List ℕ) → Sized g (length xs) → (s : ℕ) → s < g.segments → (c a b : ℕ) → TreePart g xs s c a b → (k n : ℕ)
    → tree_words k n ≤ bitmap_words g → tree_words k n ≤ length (mid_of a (b - a) xs)
part_room g xs z s h c a b p k n l = subst (λ w. tree_words k n ≤ w) (sym (ap length p.is ∙ length-bitmap g (mem_of g xs) (sizes_of g xs z) s h)) l
