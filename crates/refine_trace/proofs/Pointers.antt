-- A pointer of a record set: the other words of records stay.
use mathlib.Core.Path.{◌≡◌, ap}
use Prim.Native.Nat.{ℕ, ◌+◌, ◌<◌}
use native.Mathlib.Omega.{arith}
use lib.Seq.{get_or-set_same, get_or-set_other}
use Rattle.layout.specs.declared.Geometry.{Geometry}
use Rattle.layout.specs.Mem.{Mem, heap_word, set_heap, Sizes}
use Rattle.theory.specs.Update.{upd2}
use Rattle.model.specs.Records.{record?, pointer_count, pointer}
use Rattle.model.specs.Consistent.{RecordOk}
use Rattle.refine_view.specs.View.{values_of}
use Rattle.theory.proofs.Updates.{upd2_by}
use Rattle.refine_view.proofs.Contents.{pointers_by, fields_by}
use Rattle.model_laws.proofs.Apart.{fields_apart, field_inside}
use Rattle.refine_trace.proofs.Over.{Segments}

module _ (g : Geometry) (m : Mem) (s : Sizes g m) (f : Segments g m) (at p v : ℕ) (r : RecordOk g m at) (few : p < pointer_count m at) where
  abbrev after : Mem
  after = set_heap m (at + 1 + p) v

  word_other : (i : ℕ) → (i ≡ at + 1 + p → ⊥) → heap_word after i ≡ heap_word m i
  unfolding set_heap
  word_other i d = get_or-set_other m.heap (at + 1 + p) i v 0 d

  word_there : heap_word after (at + 1 + p) ≡ v
  unfolding set_heap
  word_there = let h = field_inside g m at r (1 + p) (omega arith) in let l = s.heap in get_or-set_same m.heap (at + 1 + p) v 0 (omega arith)

  module _ (x : ℕ) (o : RecordOk g m x) where
    pub header_kept : heap_word after x ≡ heap_word m x
    header_kept = word_other x (λ e. let z = fields_apart g m x at o r 0 (1 + p) (omega arith) (omega arith) (omega arith) in omega arith)

    pub pointers_kept : pointer_count after x ≡ pointer_count m x
    pointers_kept = pointers_by m after x header_kept

    pub values_kept : values_of after x ≡ values_of m x
    values_kept =
        fields_by m after x header_kept
        (λ i l. word_other (x + (1 + pointer_count m x + i))
        (λ e.
        let z = fields_apart g m x at o r (1 + pointer_count m x + i) (1 + p) (omega arith) (omega arith) (omega arith) in
        let y : pointer_count m x ≡ pointer_count m at = ap (pointer_count m) z in
        omega arith))

    pub pointer_kept : (i : ℕ) → i < pointer_count m x → record? (pointer after x i) ≡ upd2 (λ a b. record? (pointer m a b)) at p (record? v) x i
    pointer_kept i l = upd2_by (λ a b. record? (pointer m a b)) at p (record? v) x i (record? (pointer after x i))
        (λ e h. rw (e, h) (ap record? word_there))
        (λ d. ap record? (word_other (x + 1 + i) (λ e. let z = fields_apart g m x at o r (1 + i) (1 + p) (omega arith) (omega arith) (omega arith) in d z (omega arith))))
