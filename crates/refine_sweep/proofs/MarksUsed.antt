-- The marks of a condemned segment are of blocks in use, so that a sweep keeps no more blocks than were in use: by the marks, and not by the place.
use mathlib.Core.Path.{◌≡◌, refl, sym, ◌∙◌, ap, subst}
use mathlib.Core.Logic.{⊎_elim}
use mathlib.Core.Bool.{Bool}
use Prim.Native.Nat.{ℕ, ◌*◌, ◌≤◌, ◌<◌}
use native.Mathlib.Omega.{arith}
use borrow.Author.Tests.{ne_eqb}
use Rattle.basics.specs.Pick.{pick}
use Rattle.basics.proofs.Order.{same_or_not}
use Rattle.words.specs.Bits.{bit_at, ones_among}
use Rattle.words.proofs.Word.{one_of-not_zero}
use Rattle.words.proofs.Lists.{at_lt}
use Rattle.words.proofs.Ones.{among_most}
use Rattle.classes.specs.Class.{IsClass}
use Rattle.classes.proofs.Filling.{two_words}
use Rattle.layout.specs.declared.Geometry.{Geometry}
use Rattle.layout.specs.Geometry.{most_blocks, blocks_in, segment_of, mark_bit}
use Rattle.layout.specs.Mem.{Mem, Sizes}
use Rattle.theory.specs.Phases.{sweep}
use Rattle.model.specs.Fields.{phase, tag, class}
use Rattle.model.specs.Segments.{used_bit, marks_of, in_use}
use Rattle.model.specs.Records.{block_of, header_of, entered}
use Rattle.model.specs.Collector.{marked_blocks}
use Rattle.model.specs.Consistent.{HeadInUse, InPhase, bit_word}
use Rattle.refine_view.specs.Refines.{Ordered}
use Rattle.model_laws.proofs.Blocks.{header_segment, header_block, header_inside, header_is_class, header_head, head_word, bit_below}
use Rattle.model_laws.proofs.Rebuilding.{mark_bit_lem}
use Rattle.model.specs.Tag as Tag

module _ (g : Geometry) (m : Mem) (s : Sizes g m) (c : Ordered g m) (ph : phase m ≡ sweep) (r : ℕ) (l : r < g.segments) (t : tag m r ≡ Tag.condemned) where
  abbrev cl : ℕ
  cl = class m r

  is_class_lem : IsClass cl
  is_class_lem = (c.segments r l).classes (λ z. omega arith)

  module _ (b : ℕ) (h : b < blocks_in g cl) where
    abbrev at : ℕ
    at = header_of g r cl b

    there : segment_of g at ≡ r
    there = header_segment g cl is_class_lem r b h

    word : bit_word (mark_bit at) ≡ at
    word = head_word g m at (header_is_class g cl is_class_lem r b h m refl) (header_head g cl is_class_lem r b h m refl)

    within : mark_bit at < g.segments * most_blocks g
    within =
        let z = header_inside g cl is_class_lem r b h l in
        let w = two_words cl is_class_lem in
        bit_below g m at (header_is_class g cl is_class_lem r b h m refl) (omega arith)

    -- a block that has a mark is in use
    used : entered g m at ≡ 1 → used_bit g m r b ≡ 1
    used e =
        let head = (subst (λ p. InPhase p g m) ph c.cycle).1 (mark_bit at) within (ap (λ z. tag m (segment_of g z)) word ∙ ap (tag m) there ∙ t) e in
        let u = subst (HeadInUse g m) word head in
        sym (ap (λ z. used_bit g m z (block_of g m at)) there ∙ ap (used_bit g m r) (header_block g cl is_class_lem r b h m refl)) ∙ u.block

    mark_le : bit_at (marks_of g m r) b ≤ used_bit g m r b
    mark_le =
        let e = mark_bit_lem g m s r l is_class_lem b h in
        ⊎_elim (λ z. omega arith) (λ f. let o = one_of-not_zero (entered g m at) (at_lt m.marks (mark_bit at)) f in let u = used o in omega arith) (same_or_not (entered g m at) 0)

  pub marked_le : marked_blocks g m r ≤ in_use g m r
  marked_le =
      let a = among_most (bit_at (marks_of g m r)) (used_bit g m r) (blocks_in g cl) mark_le in
      subst (λ z. marked_blocks g m r ≤ z) (sym (ap (λ (x : Bool). pick x 0 (ones_among (used_bit g m r) (blocks_in g cl))) (ne_eqb (tag m r) Tag.free (λ z. omega arith)))) a
