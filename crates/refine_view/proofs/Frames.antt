-- A memory that keeps the segments' records, stacks and bitmaps of another, with other words elsewhere: what stays in order.
use mathlib.Core.Path.{◌≡◌, refl, sym, ◌∙◌, ap}
use mathlib.Core.Bool.{Bool}
use mathlib.Core.List.{List}
use Prim.Native.Nat.{ℕ, ◌≤◌, ◌<◌}
use native.Mathlib.Omega.{arith}
use lib.ListN.{get_or}
use Rattle.classes.specs.Class.{IsClass}
use Rattle.classes.specs.Record.{class_of_record}
use Rattle.model_laws.proofs.Headers.{shape_by}
use Rattle.model_laws.proofs.Words.{untouched_same}
use Rattle.model_laws.proofs.Segments.{segment_same, counts_by}
use Rattle.layout.specs.declared.Geometry.{Geometry}
use Rattle.layout.specs.Geometry.{mutator_count}
use Rattle.layout.specs.Mem.{Mem, heap_word}
use Rattle.theory.specs.Phases.{Phase}
use Rattle.model.specs.PhaseNumbers.{phase_of}
use Rattle.model.specs.Fields.{trace_count, absent, state, holding}
use Rattle.model.specs.Reaching.{Live}
use Rattle.model.specs.Consistent.{SegmentOk, MutatorOk, StackOk, Summed, RecordOk, HeadInUse, bit_word}
use Rattle.refine_view.specs.Refines.{Structure, EntriesOk, MarksIn}
use Rattle.refine_view.proofs.Carried.{marks_by}
use Rattle.refine_view.proofs.Seeing.{entry_was}

abbrev pub beside : Mem → List ℕ → List ℕ → List ℕ → List ℕ → List ℕ → Mem
beside m control mutators marks trace heap = record {
  control = control;
  mutators = mutators;
  segments = m.segments;
  stacks = m.stacks;
  bitmaps = m.bitmaps;
  marks = marks;
  trace = trace;
  heap = heap;
}

module _ (g : Geometry) (m : Mem) (co mu ma tr he : List ℕ) where
  abbrev now : Mem
  now = beside m co mu ma tr he

  -- attached mutators stay so, and hold what they held
  abbrev pub Held : Type 0
  Held = (k c : ℕ) → k < mutator_count → IsClass c → (state m k ≡ absent → ⊥) → (state now k ≡ absent → ⊥) × (holding now k c ≡ holding m k c)

  pub segment_beside : Held → (s : ℕ) → SegmentOk g m s → SegmentOk g now s
  segment_beside h s o = segment_same g m now s o (untouched_same m now s refl) refl
      (λ e. let q = o.held e in let z = h _ _ q.0 (o.classes (λ y. let w = sym y ∙ e in omega arith)) q.1 in (z.0, z.1 ∙ q.2))

  pub stack_beside : (t : ℕ) (test : ℕ → Bool) → StackOk g m t test → StackOk g now t test
  stack_beside t test o = record { number = o.number; members = o.members; once = o.once; all = o.all }

  pub summed_beside : Summed g m → Summed g now
  summed_beside o = record {
    trees = o.trees;
    counts = λ s l. counts_by g m now s (o.counts s l) (untouched_same m now s refl) refl;
    free_segments = stack_beside _ _ o.free_segments;
    part_segments = λ c i. stack_beside _ _ (o.part_segments c i);
  }

  pub record_beside : (at : ℕ) → heap_word now at ≡ heap_word m at → RecordOk g m at → RecordOk g now at
  record_beside at e r = record { inside = r.inside; used = r.used; aligned = r.aligned; block = r.block; sized = ap class_of_record (shape_by m now at e) ∙ r.sized }

  pub use_beside : (at : ℕ) → HeadInUse g m at → HeadInUse g now at
  use_beside at u = record { used = u.used; aligned = u.aligned; block = u.block }

  pub structure_beside : Structure g m → get_or co 0 0 ≤ 4 → Held → ((k : ℕ) → k < mutator_count → MutatorOk g now k)
      → ((at : ℕ) → Live now at → RecordOk g m at × (heap_word now at ≡ heap_word m at)) → EntriesOk g now
      → MarksIn (phase_of (get_or co 0 0)) g now → Structure g now
  structure_beside o p h u r q k = record {
    phases = p;
    segments = λ s l. segment_beside h s (o.segments s l);
    summed = summed_beside o.summed;
    mutators = u;
    records = λ at l. let z = r at l in record_beside at z.1 z.0;
    trace = q;
    marks = k;
  }

-- where the mutators' entries stay too
module _ (g : Geometry) (m : Mem) (co ma tr he : List ℕ) where
  pub held_self : Held g m co m.mutators ma tr he
  held_self k c l i a = (a, refl)

  pub mutator_beside : (k : ℕ) → MutatorOk g m k → MutatorOk g (beside m co m.mutators ma tr he) k
  mutator_beside k o = record { states = o.states; acknowledged = o.acknowledged; gone = o.gone; holds = o.holds }

-- where the marks and the trace stack stay
pub marks_beside : (g : Geometry) (m : Mem) (co mu he : List ℕ) → get_or co 1 0 ≡ trace_count m → (p : Phase) → MarksIn p g m → MarksIn p g (beside m co mu m.marks m.trace he)
marks_beside g m co mu he n p h =
    marks_by g m (beside m co mu m.marks m.trace he) (λ s e. e) (λ test o k l t e. use_beside g m co mu m.marks m.trace he (bit_word k) (o k l t e)) p
    (λ e z k l b. entry_was (beside m co mu m.marks m.trace he) m (sym n) (λ i. refl) (bit_word k) (z k l b)) h
