-- The test of a word: a block in use at whose head lies a record of the segment's class, and nothing else.
use mathlib.Core.Path.{◌≡◌, refl, sym, ◌∙◌, ap, subst}
use mathlib.Core.Bool.{Bool, true, false, true≢false}
use mathlib.Core.List.{List}
use Prim.Native.Nat.{ℕ, ◌+◌, ◌-◌, ◌*◌, ◌/◌, ◌%◌, ◌≤◌, ◌<◌}
use native.Mathlib.Nat.{mod-lt}
use native.Mathlib.Omega.{arith}
use lib.Dec.{eqb}
use lib.ListN.{length}
use borrow.Rule.Slice.PartMut.{mid_of}
use borrow.Author.Tests.{lt-ltb, le-ltb, eq-eqb, ne_eqb, eqb-true}
use Rattle.basics.specs.Decides.{Decides}
use Rattle.basics.proofs.Deciding.{holds, refuted}
use Rattle.words.specs.Bits.{bit_at}
use Rattle.words.proofs.Trees.{words_in}
use Rattle.classes.specs.Class.{block_words, first_class, class_test}
use Rattle.classes.specs.Record.{class_of_record}
use Rattle.std.specs.Prelude.{Some}
use Rattle.classes.proofs.Every.{class_passed, class_passes}
use Rattle.layout.specs.declared.Geometry.{Geometry}
use Rattle.layout.specs.Geometry.{Sized, len, from, segment_words, most_blocks, blocks_in, bitmap_words, segment_of, mark_bit}
use Rattle.layout.specs.Mem.{Mem}
use Rattle.model.specs.Fields.{tag, class, place}
use Rattle.model.specs.Segments.{above, bitmap, used_bit}
use Rattle.model.specs.Records.{shape_of, block_of, entered}
use Rattle.model.specs.Consistent.{RecordOk}
use Rattle.layout.proofs.Sizes.{words_some, segment_below}
use Rattle.model_laws.proofs.Blocks.{block_most, bit_below}
use Rattle.model_laws.proofs.Apart.{class_of}
use Rattle.bitmaps.proofs.Lent.{TreePart, tree_at_lem}
use Rattle.examine_record.specs.Tests.{Classed}
use Rattle.layout.specs.Region as Region
use Rattle.model.specs.Tag as Tag

-- ---- a block in use

module _ (g : Geometry) (m : Mem) (s b p : ℕ) (is : p ≡ place m s) where
  pub used_before : b < p → Decides true (used_bit g m s b ≡ 1)
  used_before l = holds (rw (lt-ltb b (place m s) (subst (λ z. b < z) is l)) refl)

  pub used_by : p ≤ b → (x : ℕ) → x ≡ bit_at (bitmap g m s) b → Decides (eqb x 1) (used_bit g m s b ≡ 1)
  used_by l x e =
      let f : used_bit g m s b ≡ x = rw (le-ltb b (place m s) (subst (λ z. z ≤ b) is l)) (sym e) in
      record { sound = λ t. f ∙ eqb-true x 1 t; complete = λ q. eq-eqb x 1 (sym f ∙ q) }

-- the bitmap that is lent
module _ (g : Geometry) (l : List ℕ) (z : Sized g (length l)) (s : ℕ) (h : s < g.segments) (a b : ℕ)
    (ea : a ≡ from g Region.bitmaps + s * bitmap_words g) (eb : b ≡ from g Region.bitmaps + (s + 1) * bitmap_words g) where
  pub lent : TreePart g l s first_class a b
  lent = tree_at_lem g l z s h a b ea eb first_class (omega arith, omega arith)

  pub lent_room : (k : ℕ) → k < most_blocks g → k / 32 < length (mid_of a (b - a) l)
  lent_room k q = let f = lent.fits in let w = words_in (above g first_class) (blocks_in g first_class) in omega arith

-- ---- the record at the head of a block

module _ (g : Geometry) (m : Mem) (at s c : ℕ) (es : s ≡ segment_of g at) (k : Classed m s c) (o w : ℕ) (eo : o ≡ at % segment_words g) (ew : w ≡ block_words c) where
  class_is : c ≡ class m (segment_of g at)
  class_is = k.is ∙ ap (class m) es

  head_is : o % w ≡ at % segment_words g % block_words (class m (segment_of g at))
  head_is = rw (eo, ew, class_is)

  used_is : used_bit g m s (o / w) ≡ used_bit g m (segment_of g at) (block_of g m at)
  used_is = rw (es, eo, ew, class_is)

  pub head_block : o / w < most_blocks g
  head_block = rw (eo, ew) (block_most g c k.class (at % segment_words g) (mod-lt at (words_some g)))

  pub head_segment : at < len g Region.heap → s < g.segments
  head_segment l = subst (λ z. z < g.segments) (sym es) (segment_below g at l)

  pub not_head : (o % w ≡ 0 → ⊥) → RecordOk g m at → ⊥
  not_head f r = f (head_is ∙ r.aligned)

  pub not_used : (used_bit g m s (o / w) ≡ 1 → ⊥) → RecordOk g m at → ⊥
  not_used f r = f (used_is ∙ r.block)

  pub not_sized : (class_of_record (shape_of m at) ≡ Some c → ⊥) → RecordOk g m at → ⊥
  not_sized f r = f (r.sized ∙ ap Some (sym class_is))

  pub passes : at < len g Region.heap → o % w ≡ 0 → used_bit g m s (o / w) ≡ 1 → class_of_record (shape_of m at) ≡ Some c → (b : ℕ) → b ≡ mark_bit at → RecordOk g m at × (b ≡ mark_bit at)
  passes l a u q b e = (
    record {
      inside = l;
      used = λ f. k.used (ap (tag m) es ∙ f);
      aligned = sym head_is ∙ a;
      block = sym used_is ∙ u;
      sized = q ∙ ap Some class_is;
    },
    e,
  )

-- ---- any word

-- d is the number of the heap's words, s the segment
pub segment_in : (g : Geometry) (at d s : ℕ) → d ≡ len g Region.heap → at < d → s ≡ segment_of g at → s < g.segments
segment_in g at d s z l e = subst (λ x. x < g.segments) (sym e) (segment_below g at (subst (λ x. at < x) z l))

module _ (g : Geometry) (m : Mem) (at d : ℕ) (z : d ≡ len g Region.heap) where
  pub off_heap : d ≤ at → RecordOk g m at → ⊥
  off_heap l r = let i : at < d = subst (λ x. at < x) (sym z) r.inside in omega arith

  pub in_heap : at < d → at < len g Region.heap
  in_heap l = subst (λ x. at < x) z l

module _ (g : Geometry) (m : Mem) (at s : ℕ) (es : s ≡ segment_of g at) where
  pub not_free : (t : ℕ) → t ≡ tag m s → t ≡ Tag.free → RecordOk g m at → ⊥
  not_free t e z r = r.used (ap (tag m) (sym es) ∙ sym e ∙ z)

  pub no_class : (c : ℕ) → c ≡ class m s → class_test c ≡ false → RecordOk g m at → ⊥
  no_class c e f r =
      let z : class_test c ≡ true = ap class_test (e ∙ ap (class m) es) ∙ class_passes _ (class_of g m at r) in true≢false (sym z ∙ f)

  pub classed : (t c : ℕ) → t ≡ tag m s → (t ≡ Tag.free → ⊥) → c ≡ class m s → class_test c ≡ true → Classed m s c
  classed t c et f e h = record { is = e; class = class_passed c h; used = λ q. f (et ∙ q) }

-- ---- the bit of a record

module _ (g : Geometry) (m : Mem) (at : ℕ) where
  pub bit_room : RecordOk g m at → mark_bit at < g.segments * most_blocks g
  bit_room r = bit_below g m at (class_of g m at r) r.inside

  -- the bit that a word has, tested
  pub entered_by : (k : ℕ) → k ≡ mark_bit at → (r : Bool) → Decides r (bit_at m.marks k ≡ 1) → r ≡ eqb (entered g m at) 1
  entered_by k e true d = sym (eq-eqb _ _ (ap (bit_at m.marks) (sym e) ∙ d.sound refl))
  entered_by k e false d = sym (ne_eqb _ _ (λ q. refuted d refl (ap (bit_at m.marks) e ∙ q)))

  -- the bit of a record that passes the test
  pub tested_small : (k : ℕ) → RecordOk g m at → k ≡ mark_bit at → k < g.segments * most_blocks g
  tested_small k ok e = subst (λ z. z < g.segments * most_blocks g) (sym e) (bit_room ok)
