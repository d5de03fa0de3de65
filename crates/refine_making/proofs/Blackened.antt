-- The record is marked where it is born black; with that, all the words that a make leaves.
use mathlib.Core.Path.{◌≡◌, refl, sym, ◌∙◌, ap}
use mathlib.Core.Bool.{Bool, true, false, true≢false}
use mathlib.Core.Logic.{◌⊎◌, inl, inr}
use mathlib.Core.List.{List}
use Prim.Native.Nat.{ℕ, suc, ◌+◌, ◌-◌, ◌*◌, ◌/◌, ◌<◌}
use native.Mathlib.Omega.{arith}
use lib.ListN.{length, get_or}
use Rattle.basics.specs.Pick.{pick}
use Rattle.words.specs.Bits.{bit_at, set_bit}
use Rattle.words.proofs.Lists.{set_there, set-elsewhere}
use Rattle.classes.specs.Class.{first_class}
use Rattle.classes.specs.declared.RecordShape.{RecordShape}
use Rattle.layout.specs.declared.Geometry.{Geometry}
use Rattle.layout.specs.Geometry.{mutator_words, mark_bit}
use Rattle.layout.specs.Mem.{Mem, set_mutator, set_heap, set_run, Sizes}
use Rattle.theory.specs.Phases.{black}
use Rattle.model.specs.Fields.{phase, held_from, acks, set_root, kept_count, handed_count}
use Rattle.model.specs.Records.{header_of, written, set_entered}
use Rattle.model.specs.Making.{blackened, handed_out}
use Rattle.layout.proofs.Sizes.{marks_are, marks_words}
use Rattle.classes.proofs.Filling.{two_words}
use Rattle.model_laws.proofs.Words.{Recorded, Counted, Untouched, untouched_same, untouched_as, counted_then, recorded_as}
use Rattle.model_laws.proofs.Blocks.{header_inside}
use Rattle.refine_view.proofs.Frames.{beside}
use Rattle.model_laws.proofs.Lengths.{sizes_mutator, sizes_heap, sizes_heap_run, sizes_entered}
use Rattle.refine_making.proofs.Request.{Request}
use Rattle.refine_making.proofs.Result.{Moved, StillHeld, NowFull, Result}
use Rattle.refine_making.proofs.Advanced.{moved}
use Rattle.refine_making.proofs.Written as words

module _ (g : Geometry) (m : Mem) (k d cl r b : ℕ) (shape : RecordShape) (q : Request g m k d cl r b shape) (m₁ : Mem) (v : Moved g m m₁ k cl r b) where
  abbrev h : ℕ
  h = header_of g r cl b

  abbrev m₂ : Mem
  m₂ = written m₁ h shape

  sizes₂ : Sizes g m₂
  sizes₂ = sizes_heap_run g _ (sizes_heap g m₁ v.sizes _ _) _ _

  -- ---- the marks, born black

  room : mark_bit h / 32 < length m₁.marks
  room =
      let z = v.sizes.marks in
      let w = marks_are g g.segments in
      let u = two_words cl q.is_class in
      let i = header_inside g cl q.is_class r b q.below q.inside in
      let y = marks_words g g.segments in
      omega arith

  marks₁ : (i : ℕ) → bit_at m₁.marks i ≡ bit_at m.marks i
  marks₁ i = ap (λ (ws : List ℕ). bit_at ws i) v.marks

  mark_there : bit_at (set_bit m₁.marks (mark_bit h)) (mark_bit h) ≡ 1
  mark_there = set_there m₁.marks (mark_bit h) room

  mark_other : (i : ℕ) → (i ≡ mark_bit h → ⊥) → bit_at (set_bit m₁.marks (mark_bit h)) i ≡ bit_at m.marks i
  mark_other i f = set-elsewhere m₁.marks (mark_bit h) room i f ∙ marks₁ i

  -- ---- the segment's record

  module _ (m₄ : Mem) (same : m₄.segments ≡ m₁.segments) (table : m₄.mutators ≡ words.rooted g m k d cl r b shape q m₁ v) where
    record_on : {x t c a o : ℕ} → Recorded m₁ x t c a o → Recorded m₄ x t c a o
    record_on z = recorded_as m₁ m₄ _ _ _ _ _ same z

    others_on : (x : ℕ) → (x ≡ r → ⊥) → Untouched m m₄ x
    others_on x f = untouched_as same (v.others x f)

    counts_on : Counted m₄ r (kept_count m r) (handed_count m r + 1)
    counts_on = counted_then v.counts (untouched_same m₁ m₄ r same).counts

    segment_on : StillHeld g m m₄ k cl r b ⊎ NowFull g m m₄ k cl r b
    segment_on = go v.segment
      where
        go : StillHeld g m m₁ k cl r b ⊎ NowFull g m m₁ k cl r b → StillHeld g m m₄ k cl r b ⊎ NowFull g m m₄ k cl r b
        go (inl x) = inl (record {
          recorded = record_on x.recorded;
          held = ap (λ (ws : List ℕ). get_or ws (k * mutator_words + held_from + (cl - first_class)) 0) table ∙ words.still_held g m k d cl r b shape q m₁ v ∙ x.held;
          next = x.next;
          after = x.after;
          below = x.below;
          unused = x.unused;
        })
        go (inr x) = inr (record {
          recorded = record_on x.recorded;
          held = ap (λ (ws : List ℕ). get_or ws (k * mutator_words + held_from + (cl - first_class)) 0) table ∙ words.still_held g m k d cl r b shape q m₁ v ∙ x.held;
          last = x.last;
        })

  -- ---- all the words that a make leaves

  -- with the marks that are left
  ended : (ma : List ℕ) → Sizes g (beside m₂ m₂.control m₂.mutators ma m₂.trace m₂.heap)
      → ((i : ℕ) → (i ≡ mark_bit h → ⊥) → bit_at ma i ≡ bit_at m.marks i)
      → (black (phase m) (acks m k) ≡ true → bit_at ma (mark_bit h) ≡ 1)
      → (black (phase m) (acks m k) ≡ false → bit_at ma (mark_bit h) ≡ bit_at m.marks (mark_bit h))
      → Result g m (set_root (beside m₂ m₂.control m₂.mutators ma m₂.trace m₂.heap) k d (suc h)) k d cl r b shape
  unfolding set_heap set_run set_mutator
  ended ma z o x y = record {
    sizes = sizes_mutator g _ z _ _;
    control = v.control;
    stacks = v.stacks;
    bitmaps = v.bitmaps;
    trace = v.trace;
    words = words.words_on g m k d cl r b shape q m₁ v;
    named = words.at_root g m k d cl r b shape q m₁ v;
    others = others_on _ refl refl;
    counts = counts_on _ refl refl;
    segment = segment_on _ refl refl;
    header = words.at_header g m k d cl r b shape q m₁ v;
    fields = words.at_field g m k d cl r b shape q m₁ v;
    before = words.at_before g m k d cl r b shape q m₁ v;
    behind = words.at_behind g m k d cl r b shape q m₁ v;
    marks = o;
    born = x;
    unborn = y;
  }

  finished : (t : Bool) → black (phase m₁) (acks m₁ k) ≡ t → Result g m (set_root (pick t (set_entered g m₂ h) m₂) k d (suc h)) k d cl r b shape
  unfolding set_heap set_run set_entered set_mutator
  finished true e = ended _ (sizes_entered g m₂ sizes₂ h) mark_other (λ x. mark_there) (λ x. absurd (true≢false (sym e ∙ words.black_same g m k d cl r b shape q m₁ v ∙ x)))
  finished false e = ended _ sizes₂ (λ i f. marks₁ i) (λ x. absurd (true≢false (sym x ∙ sym (words.black_same g m k d cl r b shape q m₁ v) ∙ e))) (λ x. marks₁ (mark_bit h))

  filled : Result g m (set_root (blackened g m₂ k h) k d (suc h)) k d cl r b shape
  unfolding set_heap set_run
  filled = finished (black (phase m₁) (acks m₁ k)) refl

-- the memory that is handed out
pub result : (g : Geometry) (m : Mem) → Sizes g m → (k d cl r b : ℕ) (shape : RecordShape) → Request g m k d cl r b shape → Result g m (handed_out g m k d cl r b shape) k d cl r b shape
unfolding handed_out
result g m s k d cl r b shape q = filled g m k d cl r b shape q _ (moved g m s k d cl r b shape q)
