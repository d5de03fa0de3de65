-- The record that a make has made: its fields, its block, its mark.
use mathlib.Core.Path.{◌≡◌, refl, ◌∙◌, ap}
use mathlib.Core.Bool.{Bool, true, false, ◌&&◌}
use Prim.Native.Nat.{ℕ, ◌+◌, ◌%◌, ◌<◌}
use native.Mathlib.Omega.{arith}
use lib.ListN.{replicate}
use borrow.Author.Tests.{eq-eqb, ne_eqb}
use Rattle.classes.specs.declared.RecordShape.{RecordShape}
use Rattle.classes.specs.Record.{pointer_count_of, value_count_of}
use Rattle.layout.specs.declared.Geometry.{Geometry}
use Rattle.layout.specs.Geometry.{segment_words, segment_of}
use Rattle.layout.specs.Mem.{Mem, heap_word}
use Rattle.theory.specs.Phases.{black}
use Rattle.theory.specs.TraceStack.{tab}
use Rattle.theory.proofs.Invariant.{Tracing}
use Rattle.model.specs.Fields.{phase, acks, tag, class}
use Rattle.model.specs.Segments.{used_bit}
use Rattle.classes.specs.Class.{block_words}
use Rattle.model.specs.Records.{header_shape, shape_of, pointer_count, value_count, pointer, value, marked, block_of, header_of}
use Rattle.model.specs.Reaching.{IsEntry, is_marked}
use Rattle.model_laws.proofs.Marked.{stacked?, off_stack, unentered}
use Rattle.refine_view.proofs.Seeing.{entry_was}
use mathlib.Core.Logic.{⊎_elim}
use Rattle.refine_view.specs.Refines.{Ordered}
use Rattle.refine_view.specs.View.{values_of, is_head, is_used}
use Rattle.model_laws.proofs.Bools.{and_both, ne_not}
use Rattle.model_laws.proofs.Headers.{shape_written}
use Rattle.model_laws.proofs.Blocks.{header_segment, header_block, header_class, header_head}
use Rattle.model_laws.proofs.Tables.{tab_zeros}
use Rattle.refine_making.proofs.Request.{Request}
use Rattle.refine_making.proofs.Result.{Result}
use Rattle.refine_making.proofs.Standing as standing
use Rattle.refine_making.proofs.Unused as unused
use Rattle.model.specs.Tag as Tag

module _ (g : Geometry) (m : Mem) (c : Ordered g m) (m' : Mem) (k d cl r b : ℕ) (shape : RecordShape) (q : Request g m k d cl r b shape) (a : Result g m m' k d cl r b shape) where
  abbrev h : ℕ
  h = header_of g r cl b

  -- ---- the new record

  pub shape_there : shape_of m' h ≡ shape
  shape_there = ap header_shape a.header ∙ shape_written shape cl q.sized

  pub pointers_there : pointer_count m' h ≡ pointer_count_of shape
  pointers_there = ap pointer_count_of shape_there

  values_there : value_count m' h ≡ value_count_of shape
  values_there = ap value_count_of shape_there

  pub pointer_there : (f : ℕ) → f < pointer_count_of shape → pointer m' h f ≡ 0
  pointer_there f l = a.fields f (omega arith)

  value_there : (f : ℕ) → f < value_count_of shape → value m' h f ≡ 0
  value_there f l =
      ap (λ z. heap_word m' (h + 1 + z + f)) pointers_there
      ∙ (let e : h + 1 + pointer_count_of shape + f ≡ h + 1 + (pointer_count_of shape + f) = omega arith in ap (heap_word m') e)
      ∙ a.fields (pointer_count_of shape + f) (omega arith)

  pub fields_there : values_of m' h ≡ replicate (value_count_of shape) 0
  fields_there = ap (λ z. tab z (value m' h)) values_there ∙ tab_zeros (value_count_of shape) (value m' h) value_there

  pub class_at : class m' (segment_of g h) ≡ cl
  class_at = header_class g cl q.is_class r b q.below m' (standing.class_there g m m' k d cl r b shape q a)

  pub aligned_there : h % segment_words g % block_words (class m' (segment_of g h)) ≡ 0
  aligned_there = header_head g cl q.is_class r b q.below m' (standing.class_there g m m' k d cl r b shape q a)

  pub used_there : used_bit g m' (segment_of g h) (block_of g m' h) ≡ 1
  used_there =
      ap (λ z. used_bit g m' z (block_of g m' h)) (header_segment g cl q.is_class r b q.below)
      ∙ ap (used_bit g m' r) (header_block g cl q.is_class r b q.below m' (standing.class_there g m m' k d cl r b shape q a))
      ∙ standing.used_there g m m' k d cl r b shape q a

  pub tag_at : tag m' (segment_of g h) ≡ Tag.free → ⊥
  tag_at e =
      let z : tag m' (segment_of g h) ≡ tag m' r = ap (tag m') (header_segment g cl q.is_class r b q.below) in
      let l = (standing.tag_there g m m' k d cl r b shape q a).0 in
      omega arith

  pub is_used-there : is_used g m' h ≡ true
  is_used-there = and_both _ _ (ne_not _ _ tag_at) (eq-eqb _ _ used_there)

  pub mark_there : Tracing (phase m) → (is_head g m' h && is_marked g m' h) ≡ black (phase m) (acks m k)
  mark_there t = rw (eq-eqb (h % segment_words g % block_words (class m' (segment_of g h))) 0 aligned_there) (go (black (phase m) (acks m k)) refl)
    where
      go : (x : Bool) → black (phase m) (acks m k) ≡ x → is_marked g m' h ≡ x
      go true e = eq-eqb (marked g m' h) 1 (⊎_elim (λ z. absurd (no_entry z)) (λ f. off_stack g m' h f ∙ a.born e) (stacked? g m' h))
        where
          no_entry : IsEntry m' h → ⊥
          no_entry z =
              let y = c.trace.bits h (entry_was m m' (standing.count_same g m m' k d cl r b shape q a) (standing.trace_same g m m' k d cl r b shape q a) h z) in
              let w = unused.not_marked g m c k d cl r b shape q t in
              omega arith
      go false e =
          let z : marked g m' h ≡ 0 = unentered g m' h (a.unborn e ∙ unused.not_marked g m c k d cl r b shape q t) in
          ne_eqb (marked g m' h) 1 (λ y. omega arith)
