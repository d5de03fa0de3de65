-- A segment's bitmap after its level 0 became the marks: its bits, that it is a tree, and that other segments' bitmaps stay.
use mathlib.Core.Path.{◌≡◌, sym, ◌∙◌, ap, subst}
use mathlib.Core.List.{List}
use Prim.Native.Nat.{ℕ, ◌*◌, ◌≤◌, ◌<◌}
use native.Mathlib.Omega.{arith}
use lib.ListN.{length}
use Rattle.words.specs.Bits.{bit_at}
use Rattle.words.specs.Levels.{words_for, tree_words}
use Rattle.words.specs.Tree.{Tree}
use Rattle.layout.specs.declared.Geometry.{Geometry}
use Rattle.layout.specs.Geometry.{blocks_in, bitmap_words, mark_bit}
use Rattle.layout.specs.Mem.{Mem, set_run, Sizes}
use Rattle.bitmap_write.specs.Completed.{adopted}
use Rattle.bitmap_write.proofs.Copied.{adopted_tree, adopted_bit, length-adopted}
use Rattle.model.specs.Fields.{class}
use Rattle.model.specs.Segments.{above, bitmap, marks_of}
use Rattle.model.specs.Records.{header_of, entered}
use Rattle.model.specs.Collector.{rebuilt_by}
use Rattle.classes.specs.Class.{IsClass}
use Rattle.layout.proofs.Sizes.{class_height}
use mathlib.Core.Bool.{Bool, true, false}
use lib.Dec.{ltb}
use borrow.Author.Tests.{lt-ltb}
use Rattle.basics.specs.Pick.{pick}
use Rattle.words.proofs.Lists.{at_lt}
use Rattle.bitmap_write.proofs.Packed.{length-packed, packed_bit}
use Rattle.model_laws.proofs.Windows.{window_there, window_other}
use Rattle.model_laws.proofs.Bitmaps.{bitmap_ends, length-bitmap, tree_room}

module _ (g : Geometry) (m : Mem) (s : Sizes g m) (r : ℕ) (l : r < g.segments) (k : IsClass (class m r)) where
  abbrev words : List ℕ
  words = adopted (above g (class m r)) (blocks_in g (class m r)) (marks_of g m r) (bitmap g m r)

  abbrev bit : ℕ → ℕ
  bit b = pick (ltb b (blocks_in g (class m r))) (entered g m (header_of g r (class m r) b)) 0

  bit_small : (b : ℕ) → bit b < 2
  bit_small b = go (ltb b (blocks_in g (class m r)))
    where
      go : (x : Bool) → pick x (entered g m (header_of g r (class m r) b)) 0 < 2
      go true = at_lt m.marks (mark_bit (header_of g r (class m r) b))
      go false = omega arith

  marks_room : words_for (blocks_in g (class m r)) ≤ length (marks_of g m r)
  marks_room = let e = length-packed bit (words_for (blocks_in g (class m r))) 0 in omega arith

  room : tree_words (above g (class m r)) (blocks_in g (class m r)) ≤ length (bitmap g m r)
  room = tree_room g m s r l (class m r) k

  length-words : length words ≡ bitmap_words g
  length-words = length-adopted (above g (class m r)) (blocks_in g (class m r)) (marks_of g m r) (bitmap g m r) marks_room room ∙ length-bitmap g m s r l

  there : bitmap g (rebuilt_by g m r) r ≡ words
  unfolding set_run
  there = window_there words m.bitmaps (r * bitmap_words g) (bitmap_words g) length-words (bitmap_ends g m s r l)

  pub rebuilt_other : (x : ℕ) → (x ≡ r → ⊥) → bitmap g (rebuilt_by g m r) x ≡ bitmap g m x
  unfolding set_run
  rebuilt_other x d = window_other (bitmap_words g) r x words m.bitmaps length-words d

  -- the bits of a segment's marks are those of its blocks' header words among all marks
  pub mark_bit_lem : (b : ℕ) → b < blocks_in g (class m r) → bit_at (marks_of g m r) b ≡ entered g m (header_of g r (class m r) b)
  mark_bit_lem b h = packed_bit bit bit_small (words_for (blocks_in g (class m r))) b (omega arith) ∙ ap (λ x. pick x (entered g m (header_of g r (class m r) b)) 0) (lt-ltb b (blocks_in g (class m r)) h)

  pub rebuilt_mark : (b : ℕ) → b < blocks_in g (class m r) → bit_at (bitmap g (rebuilt_by g m r) r) b ≡ bit_at (marks_of g m r) b
  rebuilt_mark b h =
      ap (λ (z : List ℕ). bit_at z b) there
      ∙ adopted_bit (above g (class m r)) (blocks_in g (class m r)) (marks_of g m r) (bitmap g m r) marks_room room b h

  pub rebuilt_bit : (b : ℕ) → b < blocks_in g (class m r) → bit_at (bitmap g (rebuilt_by g m r) r) b ≡ entered g m (header_of g r (class m r) b)
  rebuilt_bit b h = rebuilt_mark b h ∙ mark_bit_lem b h

  pub rebuilt_tree : Tree (above g (class m r)) (blocks_in g (class m r)) (bitmap g (rebuilt_by g m r) r)
  rebuilt_tree = subst (λ (z : List ℕ). Tree (above g (class m r)) (blocks_in g (class m r)) z) (sym there)
      (adopted_tree (above g (class m r)) (blocks_in g (class m r)) (marks_of g m r) (bitmap g m r) marks_room room (class_height g (class m r)))
