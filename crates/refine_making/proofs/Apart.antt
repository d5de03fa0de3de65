-- The words of another record lie outside the block that is handed out.
use mathlib.Core.Path.{◌≡◌, sym, ◌∙◌, ap, subst}
use mathlib.Core.Logic.{◌⊎◌, inl, inr}
use Prim.Native.Nat.{ℕ, ◌+◌, ◌-◌, ◌≤◌, ◌<◌}
use native.Mathlib.Omega.{arith}
use Rattle.basics.proofs.Order.{le_or_lt}
use Rattle.classes.specs.declared.RecordShape.{RecordShape}
use Rattle.classes.specs.Record.{field_count_of}
use Rattle.layout.specs.Geometry.{segment_of}
use Rattle.layout.specs.declared.Geometry.{Geometry}
use Rattle.layout.specs.Mem.{Mem, heap_word}
use Rattle.model.specs.Fields.{class}
use Rattle.model.specs.Records.{pointer_count, value_count, pointer, header_of}
use Rattle.classes.specs.Class.{IsClass, block_words}
use Rattle.model.specs.Consistent.{RecordOk}
use Rattle.refine_view.specs.View.{values_of}
use Rattle.model_laws.proofs.Blocks.{header_class, header_is_class, header_head}
use Rattle.classes.proofs.Smallest.{class_holds}
use Rattle.model_laws.proofs.Apart.{heads_apart}
use Rattle.refine_view.proofs.Contents.{pointers_by, pointer_by, fields_by}
use Rattle.refine_making.proofs.Request.{Request}
use Rattle.refine_making.proofs.Result.{Result}

module _ (g : Geometry) (m m' : Mem) (k d cl r b : ℕ) (shape : RecordShape) (q : Request g m k d cl r b shape)
    (a : Result g m m' k d cl r b shape) (x : ℕ) (ok : RecordOk g m x) (of : IsClass (class m (segment_of g x)))
    (other : x ≡ header_of g r cl b → ⊥) where
  abbrev h : ℕ
  h = header_of g r cl b

  word_same : (i : ℕ) → i ≤ pointer_count m x + value_count m x → heap_word m' (x + i) ≡ heap_word m (x + i)
  word_same i l = go (le_or_lt h (x + i)) (le_or_lt (x + i) (h + (field_count_of shape)))
    where
      within : h ≤ x + i → x + i ≤ h + (field_count_of shape) → ⊥
      within u v =
          let y = class_holds (pointer_count m x + value_count m x) (class m (segment_of g x)) ok.sized in
          let w = q.fits in
          other
          (heads_apart g m x h of (header_is_class g cl q.is_class r b q.below m q.of_class) ok.aligned
          (header_head g cl q.is_class r b q.below m q.of_class) i (x + i - h) (omega arith)
          (subst (λ z. x + i - h < block_words z) (sym (header_class g cl q.is_class r b q.below m q.of_class)) (omega arith)) (omega arith))

      go : (h ≤ x + i) ⊎ (x + i < h) → (x + i ≤ h + (field_count_of shape)) ⊎ (h + field_count_of shape < x + i) → heap_word m' (x + i) ≡ heap_word m (x + i)
      go (inr u) v = a.before (x + i) u
      go (inl u) (inr v) = a.behind (x + i) v
      go (inl u) (inl v) = absurd (within u v)

  pub header_same : heap_word m' x ≡ heap_word m x
  header_same = let e : x ≡ x + 0 = omega arith in ap (heap_word m') e ∙ word_same 0 (omega arith) ∙ ap (heap_word m) (sym e)

  pub pointers_same : pointer_count m' x ≡ pointer_count m x
  pointers_same = pointers_by m m' x header_same

  pub pointer_same : (f : ℕ) → f < pointer_count m x → pointer m' x f ≡ pointer m x f
  pointer_same f l = pointer_by m m' x header_same f (word_same (1 + f) (omega arith))

  pub fields_same : values_of m' x ≡ values_of m x
  fields_same = fields_by m m' x header_same (λ f l. word_same (1 + pointer_count m x + f) (omega arith))
