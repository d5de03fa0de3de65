-- The segment that a make takes, where the stacks are in order: the topmost part segment of a class, with its tree and a free block from its place on, and
-- the topmost free segment, with a tree of free blocks.
use mathlib.Core.Path.{◌≡◌, ◌∙◌, ap, subst}
use mathlib.Core.Bool.{true}
use mathlib.Core.List.{List}
use Prim.Native.Nat.{ℕ, ◌-◌, ◌*◌, ◌≤◌, ◌<◌}
use native.Mathlib.Omega.{arith}
use lib.Dec.{eqb}
use lib.ListN.{length}
use borrow.Author.Tests.{eqb-true}
use Rattle.words.specs.Bits.{bit_at}
use Rattle.words.specs.Levels.{tree_words}
use Rattle.words.specs.Tree.{Tree}
use Rattle.classes.specs.Class.{IsClass}
use Rattle.layout.specs.declared.Geometry.{Geometry}
use Rattle.layout.specs.Geometry.{blocks_in, bitmap_words}
use Rattle.layout.specs.Mem.{Mem, Sizes, spliced}
use Rattle.layout.proofs.Sizes.{class_height}
use Rattle.bitmap_write.specs.Completed.{fresh}
use Rattle.bitmap_write.proofs.Copied.{fresh_tree, fresh_bit, length-fresh}
use Rattle.model.specs.Fields.{tag, class, place}
use Rattle.model.specs.Segments.{free_stack, part_stack, count, top, above, bitmap}
use Rattle.model.specs.Consistent.{SegmentOk, StackOk, TreeOk, is_free, is_part}
use Rattle.model_laws.proofs.Bools.{and_left, and_right}
use Rattle.model_laws.proofs.Bitmaps.{bitmap_ends, length-bitmap, tree_room}
use Rattle.model_laws.proofs.Blocks.{blocks_some}
use Rattle.model_laws.proofs.Windows.{window_there}
use Rattle.model.specs.Tag as Tag

-- a block of class c of a segment that is free from a place on
abbrev pub FreeFrom : Geometry → List ℕ → ℕ → ℕ → Type 0
FreeFrom g ws c p = (b : ℕ) × (p ≤ b) × (b < blocks_in g c) × (bit_at ws b ≡ 0)

-- ---- a part segment of class c

module _ (g : Geometry) (m : Mem) (c : ℕ) (stack : StackOk g m (part_stack c) (is_part m c)) (some : 1 ≤ count g m (part_stack c)) where
  abbrev r : ℕ
  r = top g m (part_stack c)

  pub top_part : (r < g.segments) × (is_part m c r ≡ true)
  top_part = stack.members (count g m (part_stack c) - 1) (omega arith)

  pub part_tag : tag m r ≡ Tag.part
  part_tag = eqb-true (tag m r) 1 (and_left (eqb (tag m r) Tag.part) (eqb (class m r) c) top_part.1)

  pub part_class : class m r ≡ c
  part_class = eqb-true (class m r) c (and_right (eqb (tag m r) Tag.part) (eqb (class m r) c) top_part.1)

  pub part_tree : TreeOk g m r → Tree (above g c) (blocks_in g c) (bitmap g m r)
  part_tree t = subst (λ z. Tree (above g z) (blocks_in g z) (bitmap g m r)) part_class (t (λ e. let z = part_tag in omega arith))

  pub part_remains : SegmentOk g m r → FreeFrom g (bitmap g m r) c (place m r)
  part_remains o = let z = part_tag in let y = o.remains (omega arith) (omega arith) in (y.0, y.1, subst (λ w. y.0 < blocks_in g w) part_class y.2, y.3)

-- ---- a free segment

module _ (g : Geometry) (m : Mem) (stack : StackOk g m free_stack (is_free m)) (some : 1 ≤ count g m free_stack) where
  pub top_free : (top g m free_stack < g.segments) × (is_free m (top g m free_stack) ≡ true)
  top_free = stack.members (count g m free_stack - 1) (omega arith)

  pub free_tag : tag m (top g m free_stack) ≡ Tag.free
  free_tag = eqb-true (tag m (top g m free_stack)) 0 top_free.1

-- the fresh tree of a class in the window of segment r, and the bitmaps with it
module _ (g : Geometry) (m : Mem) (s : Sizes g m) (r : ℕ) (l : r < g.segments) (c : ℕ) (k : IsClass c) where
  abbrev pub clean : List ℕ
  clean = fresh (above g c) (blocks_in g c) (bitmap g m r)

  room : tree_words (above g c) (blocks_in g c) ≤ length (bitmap g m r)
  room = tree_room g m s r l c k

  pub long_clean : length clean ≡ bitmap_words g
  long_clean = length-fresh (above g c) (blocks_in g c) (bitmap g m r) room ∙ length-bitmap g m s r l

  -- of any memory with these bitmaps
  module _ (m' : Mem) (e : m'.bitmaps ≡ spliced m.bitmaps (r * bitmap_words g) clean) where
    pub reads_clean : bitmap g m' r ≡ clean
    reads_clean = rw e (window_there clean m.bitmaps (r * bitmap_words g) (bitmap_words g) long_clean (bitmap_ends g m s r l))

    pub clean_tree : Tree (above g c) (blocks_in g c) (bitmap g m' r)
    clean_tree = rw reads_clean (fresh_tree (above g c) (blocks_in g c) (bitmap g m r) room (class_height g c))

    pub clean_bit : (b : ℕ) → b < blocks_in g c → bit_at (bitmap g m' r) b ≡ 0
    clean_bit b h = ap (λ z. bit_at z b) reads_clean ∙ fresh_bit (above g c) (blocks_in g c) (bitmap g m r) room b h

    pub clean_free : FreeFrom g (bitmap g m' r) c 0
    clean_free = (0, omega arith, blocks_some g c k, clean_bit 0 (blocks_some g c k))
