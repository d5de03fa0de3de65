-- Order carried over from one memory to another by the words that stay: records, blocks in use, the trace stack, marks.
use mathlib.Core.Path.{◌≡◌, refl, sym, ◌∙◌, ap, subst}
use mathlib.Core.List.{List}
use Prim.Native.Nat.{ℕ, ◌/◌, ◌%◌, ◌≤◌, ◌<◌}
use Rattle.words.specs.Bits.{bit_at}
use Rattle.classes.specs.Class.{block_words}
use Rattle.std.specs.Prelude.{Some}
use Rattle.classes.specs.Record.{class_of_record}
use Rattle.model_laws.proofs.Headers.{shape_by}
use Rattle.layout.specs.declared.Geometry.{Geometry}
use Rattle.layout.specs.Geometry.{segment_words, segment_of, mark_bit}
use Rattle.layout.specs.Mem.{Mem, trace_word, heap_word}
use Rattle.theory.specs.Phases.{Phase, idle, sync1, sync2, mark, sweep}
use Rattle.model.specs.Fields.{trace_count, tag, class}
use Rattle.model.specs.Segments.{used_bit}
use Rattle.model.specs.Records.{block_of}
use Rattle.model.specs.Consistent.{RecordOk, HeadInUse, MarksOf}
use Rattle.refine_view.specs.Refines.{EntriesOk, MarksIn}
use Rattle.refine_view.proofs.Seeing.{entry_was}
use Rattle.model.specs.Tag as Tag

module _ (g : Geometry) (m m' : Mem) (at : ℕ) (c : class m' (segment_of g at) ≡ class m (segment_of g at)) where
  pub block_by : block_of g m' at ≡ block_of g m at
  block_by = ap (λ z. at % segment_words g / block_words z) c

  -- a record whose block stays in use
  pub record_by : RecordOk g m at → (tag m' (segment_of g at) ≡ Tag.free → ⊥) → used_bit g m' (segment_of g at) (block_of g m at) ≡ 1 → heap_word m' at ≡ heap_word m at → RecordOk g m' at
  record_by r t u h = record {
    inside = r.inside;
    used = t;
    aligned = ap (λ z. at % segment_words g % block_words z) c ∙ r.aligned;
    block = ap (used_bit g m' (segment_of g at)) block_by ∙ u;
    sized = ap class_of_record (shape_by m m' at h) ∙ r.sized ∙ ap Some (sym c);
  }

  pub use_by : HeadInUse g m at → (tag m' (segment_of g at) ≡ Tag.free → ⊥) → used_bit g m' (segment_of g at) (block_of g m at) ≡ 1 → HeadInUse g m' at
  use_by u t h = record { used = t; aligned = ap (λ z. at % segment_words g % block_words z) c ∙ u.aligned; block = ap (used_bit g m' (segment_of g at)) block_by ∙ h }

-- the trace stack's words stay, and the marks
pub entries_by : (g : Geometry) (m m' : Mem) → EntriesOk g m → trace_count m' ≡ trace_count m → ((i : ℕ) → trace_word m' i ≡ trace_word m i) → m'.marks ≡ m.marks → EntriesOk g m'
entries_by g m m' o n t q = record {
  named = λ i l. subst (λ z. 1 ≤ z) (sym (t i)) (o.named i (subst (λ z. i < z) n l));
  bits = λ at e. let x = entry_was m m' n t at e in ap (λ (l : List ℕ). bit_at l (mark_bit at)) q ∙ o.bits at x;
  number = rw (n, q) o.number;
}

-- by the phase: no segment came among the condemned, no mark before marking began, and marks are of blocks in use
pub marks_by : (g : Geometry) (m m' : Mem) → ((s : ℕ) → tag m' s ≡ Tag.condemned → tag m s ≡ Tag.condemned)
    → ((test : ℕ → Type 0) → MarksOf g m test → MarksOf g m' test) → (p : Phase)
    → (p ≡ sync1 → MarksIn sync1 g m → MarksIn sync1 g m') → MarksIn p g m → MarksIn p g m'
marks_by g m m' back of idle blank h = λ s l e. h s l (back s e)
marks_by g m m' back of sync1 blank h = blank refl h
marks_by g m m' back of sync2 blank h = of (λ s. Unit {0}) h
marks_by g m m' back of mark blank h = of (λ s. Unit {0}) h
marks_by g m m' back of sweep blank h = λ k l t. of (λ s. tag m s ≡ Tag.condemned) h k l (back _ t)
