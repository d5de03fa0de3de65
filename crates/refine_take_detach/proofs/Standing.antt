-- A memory that differs from a consistent one in mutators' entries, segments' records, stacks and bitmaps only, and whose segments that were
-- not free stay as they were: what is live stays in order, and the machine sees the same records.
use mathlib.Core.Path.{◌≡◌, refl, sym, ◌∙◌, ap}
use mathlib.Core.Bool.{true, not, ◌&&◌}
use mathlib.Core.List.{List}
use Prim.Native.Nat.{ℕ, ◌%◌}
use native.Mathlib.Omega.{arith}
use lib.Dec.{eqb}
use borrow.Author.Tests.{eqb-true}
use Rattle.layout.specs.declared.Geometry.{Geometry}
use Rattle.layout.specs.Geometry.{segment_words, segment_of}
use Rattle.layout.specs.Mem.{Mem, Sizes}
use Rattle.model.specs.Fields.{phase, tag, class, place}
use Rattle.model.specs.Segments.{bitmap, used_bit}
use Rattle.classes.specs.Class.{block_words}
use Rattle.model.specs.Records.{block_of}
use Rattle.model.specs.Reaching.{IsRoot, Live, is_marked}
use Rattle.model.specs.Consistent.{RecordOk, MarksOf, bit_word}
use Rattle.refine_view.specs.View.{view}
use Rattle.refine_view.specs.Refines.{Ordered, EntriesOk, MarksIn, Steady}
use Rattle.model_laws.proofs.Bools.{ne_not, test_same}
use Rattle.refine_view.proofs.Seeing.{entry_was, edge_was, live_was}
use Rattle.model_laws.proofs.Segments.{used_same}
use Rattle.refine_view.proofs.Carried.{block_by, record_by, use_by, entries_by, marks_by}
use Rattle.refine_view.proofs.Invariants.{structure_of}
use Rattle.model.specs.Tag as Tag

-- a memory with other mutators' entries, segments' records, stacks and bitmaps
abbrev pub over : Mem → List ℕ → List ℕ → List ℕ → List ℕ → Mem
over m mutators segments stacks bitmaps =
    record { control = m.control; mutators = mutators; segments = segments; stacks = stacks; bitmaps = bitmaps; marks = m.marks; trace = m.trace; heap = m.heap }

-- a segment is not free, and has the class, the place and the bitmap that it had
pub record SegmentStays (g : Geometry) (m m₁ : Mem) (s : ℕ) : Type 0 where
  pub used : tag m₁ s ≡ Tag.free → ⊥
  pub class : class m₁ s ≡ class m s
  pub place : place m₁ s ≡ place m s
  pub bitmap : bitmap g m₁ s ≡ bitmap g m s

-- so has each that was not free, and the condemned ones are those that were
pub record SegmentsStay (g : Geometry) (m m₁ : Mem) : Type 0 where
  pub stood : (s : ℕ) → (tag m s ≡ Tag.free → ⊥) → SegmentStays g m m₁ s
  pub condemned : (s : ℕ) → tag m₁ s ≡ Tag.condemned → tag m s ≡ Tag.condemned
  pub still : (s : ℕ) → tag m s ≡ Tag.condemned → tag m₁ s ≡ Tag.condemned

module _ (g : Geometry) (m : Mem) (s : Sizes g m) (c : Ordered g m) (mu se st bi : List ℕ) (h : SegmentsStay g m (over m mu se st bi)) where
  abbrev m₁ : Mem
  m₁ = over m mu se st bi

  -- ---- a segment that was not free

  block_same : (at : ℕ) → (tag m (segment_of g at) ≡ Tag.free → ⊥) → block_of g m₁ at ≡ block_of g m at
  block_same at u = block_by g m m₁ at (h.stood (segment_of g at) u).class

  use_same : (q b : ℕ) → (tag m q ≡ Tag.free → ⊥) → used_bit g m₁ q b ≡ used_bit g m q b
  use_same q b u = let z = h.stood q u in used_same g m m₁ q b z.place z.bitmap

  -- ---- what the machine sees

  pub marked_same : (at : ℕ) → (tag m (segment_of g at) ≡ Tag.free → ⊥) → (view g m₁).marked at ≡ (view g m).marked at
  marked_same at u = ap (λ z. eqb (at % segment_words g % block_words z) 0 && is_marked g m₁ at) (h.stood (segment_of g at) u).class

  pub marked_live : (at : ℕ) → Live m at → (view g m₁).marked at ≡ (view g m).marked at
  marked_live at l = marked_same at (c.records at l).used

  pub marked_condemned : (at : ℕ) → (view g m).condemned (segment_of g at) ≡ true → (view g m₁).marked at ≡ (view g m).marked at
  marked_condemned at e = let z : tag m (segment_of g at) ≡ Tag.condemned = eqb-true (tag m (segment_of g at)) 4 e in marked_same at (λ q. omega arith)

  pub collect_same : (q : ℕ) → (view g m₁).condemned q ≡ (view g m).condemned q
  collect_same q = test_same (tag m q) (tag m₁ q) 4 (h.still q) (h.condemned q)

  pub used_live : (at : ℕ) → Live m at → (view g m₁).used at ≡ (view g m).used at
  used_live at l =
      let u = (c.records at l).used in
      let a : not (eqb (tag m₁ (segment_of g at)) Tag.free) ≡ not (eqb (tag m (segment_of g at)) Tag.free) = ne_not _ _ (h.stood (segment_of g at) u).used ∙ sym (ne_not _ _ u) in
      let b : used_bit g m₁ (segment_of g at) (block_of g m₁ at) ≡ used_bit g m (segment_of g at) (block_of g m at) =
      ap (used_bit g m₁ (segment_of g at)) (block_same at u) ∙ use_same (segment_of g at) (block_of g m at) u in
      ap (λ z. z && eqb (used_bit g m₁ (segment_of g at) (block_of g m₁ at)) 1) a ∙ ap (λ z. not (eqb (tag m (segment_of g at)) Tag.free) && eqb z 1) b

  pub steady : Steady g m m₁
  steady q l e = let z : tag m q ≡ Tag.condemned = h.condemned q e in (z, (h.stood q (λ y. omega arith)).class)

  -- ---- what is live, where each root was one

  module _ (roots : (at : ℕ) → IsRoot m₁ at → IsRoot m at) where
    pub live_before : {at : ℕ} → Live m₁ at → Live m at
    live_before p = live_was m m₁ roots (entry_was m m₁ refl (λ i. refl)) (edge_was m m₁ (λ i. refl)) p

    pub records_stand : (at : ℕ) → Live m₁ at → RecordOk g m₁ at
    records_stand at p =
        let r = c.records at (live_before p) in
        let z = h.stood (segment_of g at) r.used in
        record_by g m m₁ at z.class r z.used (use_same (segment_of g at) (block_of g m at) r.used ∙ r.block) refl

  pub trace_stands : EntriesOk g m₁
  trace_stands = entries_by g m m₁ (structure_of g m c).trace refl (λ i. refl) refl

  marks_of : (test : ℕ → Type 0) → MarksOf g m test → MarksOf g m₁ test
  marks_of test o k l w e =
      let u = o k l w e in
      let z = h.stood (segment_of g (bit_word k)) u.used in
      use_by g m m₁ (bit_word k) z.class u z.used (use_same (segment_of g (bit_word k)) (block_of g m (bit_word k)) u.used ∙ u.block)

  pub marks_stand : MarksIn (phase m₁) g m₁
  marks_stand = marks_by g m m₁ h.condemned marks_of (phase m) (λ e o k l b. entry_was m₁ m refl (λ i. refl) (bit_word k) (o k l b)) (structure_of g m c).marks
