-- Nothing hinders a push of a record in order where the entries are counted, nor any push of a fold of them; so in consistent memory.
use mathlib.Core.Path.{◌≡◌, refl, sym, ◌∙◌, ap}
use mathlib.Core.Logic.{◌⊎◌, inl, inr}
use Prim.Native.Nat.{ℕ, suc, ◌*◌, ◌≤◌, ◌<◌}
use native.Mathlib.Omega.{arith}
use lib.ListN.{length}
use borrow.Author.Tests.{lt-ltb}
use Rattle.std.specs.Prelude.{Some, None}
use Rattle.std.proofs.lemmas.Option.{none-some}
use Rattle.words.specs.Bits.{bit_at}
use Rattle.words.proofs.Word.{zero_of_not_one}
use Rattle.words.proofs.Counts.{zero_less}
use Rattle.words.proofs.Lists.{at_lt}
use Rattle.layout.specs.declared.Geometry.{Geometry}
use Rattle.layout.specs.Geometry.{most_blocks, mark_words, len, mark_bit}
use Rattle.layout.specs.Mem.{Mem}
use Rattle.model.specs.Fields.{trace_count}
use Rattle.model.specs.Records.{record?, entered}
use Rattle.model.specs.Tracing.{push}
use Rattle.model.specs.Consistent.{RecordOk, Consistent}
use Rattle.model_laws.proofs.Blocks.{bit_below}
use Rattle.model_laws.proofs.Apart.{class_of}
use Rattle.model_laws.proofs.Pushes.{Counted, PushReady, record_untouched, untouched_push, ready_push, fold_untouched, fold_ready}
use Rattle.marks.specs.Bits.{record_bit_at}
use Rattle.tracing.specs.Pushing.{PushFails}
use Rattle.layout.specs.Region as Region

-- ---- one push

module _ (g : Geometry) (m : Mem) (number : Counted g m) where
  module _ (at : ℕ) (r : RecordOk g m at) where
    pub has_bit : record_bit_at g at ≡ None → ⊥
    unfolding record_bit_at
    has_bit e = none-some _ (sym e ∙ placed)
      where
        placed : record_bit_at g at ≡ Some (mark_bit at)
        placed = rw (lt-ltb _ _ r.inside) refl

    room : (entered g m at ≡ 1 → ⊥) → trace_count m < len g Region.trace
    room f =
        let b = bit_below g m at (class_of g m at r) r.inside in
        let h = zero_less (bit_at m.marks) (at_lt m.marks) (g.segments * most_blocks g) (mark_bit at) b (zero_of_not_one _ (at_lt m.marks (mark_bit at)) f) in
        omega arith

  pub succeeds : (w : ℕ) → ((at : ℕ) → w ≡ suc at → RecordOk g m at) → PushFails g m w → ⊥
  succeeds w r h = go h.why
    where
      ok : RecordOk g m h.at
      ok = r h.at h.names

      go : (record_bit_at g h.at ≡ None) ⊎ ((entered g m h.at ≡ 1 → ⊥) × (len g Region.trace ≤ trace_count m)) → ⊥
      go (inl e) = has_bit h.at ok e
      go (inr p) = let l = room h.at ok p.0 in let q = p.1 in omega arith

-- ---- any push of a fold: h is the memory after so many, w the words pushed

module _ (g : Geometry) (h : ℕ → Mem) (w : ℕ → ℕ) (next : (n : ℕ) → h (suc n) ≡ push g (h n) (record? (w n))) (y : PushReady g (h 0)) where
  pub fold_succeeds : (n : ℕ) → ((i at : ℕ) → i ≤ n → w i ≡ suc at → RecordOk g (h 0) at) → PushFails g (h n) (w n) → ⊥
  fold_succeeds n ok =
      succeeds g (h n) (fold_ready g h w next y n (λ i at l. ok i at (omega arith))).number (w n)
      (λ at e. record_untouched g (h 0) (h n) (fold_untouched g h w next n) at (ok n at (omega arith) e))

-- ---- in consistent memory: one push, and a second

module _ (g : Geometry) (m : Mem) (c : Consistent g m) where
  pub push_succeeds : (w : ℕ) → ((at : ℕ) → w ≡ suc at → RecordOk g m at) → PushFails g m w → ⊥
  push_succeeds = succeeds g m c.sound.trace.number

  module _ (lc : 1 < length m.control) (lq : length m.marks ≡ g.segments * mark_words g) where
    pub push_succeeds_next : (v w : ℕ) → ((at : ℕ) → v ≡ suc at → RecordOk g m at) → ((at : ℕ) → w ≡ suc at → RecordOk g m at) → PushFails g (push g m (record? v)) w → ⊥
    push_succeeds_next v w ok also =
        let y : PushReady g m = record { control = lc; marks = lq; number = c.sound.trace.number } in
        succeeds g (push g m (record? v)) (ready_push g m y v ok).number w
        (λ at e. record_untouched g m (push g m (record? v)) (untouched_push g m v) at (also at e))
