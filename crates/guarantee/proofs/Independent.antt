-- Memories that differ in stacks, counts, upper levels and bits past ends only are sound together. Of a segment's record they share the four words of its
-- state.
use mathlib.Core.Path.{◌≡◌, refl, sym, ◌∙◌, ap, subst}
use mathlib.Core.Logic.{inl, inr}
use mathlib.Core.List.{List}
use Prim.Native.Nat.{ℕ, ◌<◌}
use native.Mathlib.Omega.{arith}
use lib.Dec.{ltb}
use Rattle.basics.specs.Pick.{pick}
use Rattle.layout.specs.declared.Geometry.{Geometry}
use Rattle.layout.specs.Geometry.{blocks_in, segment_of}
use Rattle.layout.specs.Mem.{Mem}
use Rattle.layout.proofs.Sizes.{segment_below, marks_words}
use Rattle.theory.specs.Phases.{Phase, idle, sync1, sync2, mark, sweep}
use Rattle.theory.specs.Reach.{root}
use Rattle.theory.proofs.Graph.{reach_map, safe_map}
use Rattle.model.specs.Fields.{phase, tag, class, place, owner}
use Rattle.words.specs.Bits.{bit_at}
use Rattle.model.specs.Segments.{used_bit, bitmap}
use Rattle.model.specs.Records.{block_of}
use Rattle.model.specs.Reaching.{IsRoot, IsEntry, PointsTo, Live, Reached, Covered, is_marked}
use Rattle.model.specs.Consistent.{SegmentOk, Occupied, MutatorOk, RecordOk, TraceOk, MarksOf, bit_word, Tricolour, InPhase, Sound}
use Rattle.model_laws.proofs.Blocks.{of_block}
use Rattle.model_laws.proofs.Words.{Recorded}
use Rattle.model_laws.proofs.Segments.{segment_by}
use Rattle.refine_view.proofs.Seeing.{entry_was, edge_was, live_was}
use Rattle.refine_view.proofs.Carried.{record_by, use_by}
use Rattle.guarantee.specs.Independent.{SameBlocks, SameButSummaries, SoundTogether}
use Rattle.model.specs.Tag as Tag

abbrev with : Mem → List ℕ → List ℕ → List ℕ → Mem
with m segments stacks bitmaps = record { control = m.control; mutators = m.mutators; heap = m.heap; segments = segments; stacks = stacks; bitmaps = bitmaps; marks = m.marks; trace = m.trace }

-- the words of every segment's state
abbrev SameStates : Mem → Mem → Type 0
SameStates m m' = (s : ℕ) → Recorded m' s (tag m s) (class m s) (place m s) (owner m s)

module _ (g : Geometry) (m : Mem) (sg st bi : List ℕ) (words : SameStates m (with m sg st bi)) (same : SameBlocks g m (with m sg st bi)) where
  abbrev m' : Mem
  m' = with m sg st bi

  used_same : (s b : ℕ) → s < g.segments → (tag m s ≡ Tag.free → ⊥) → b < blocks_in g (class m s) → used_bit g m' s b ≡ used_bit g m s b
  used_same s b l u h = ap (λ z. pick (ltb b z) 1 (bit_at (bitmap g m' s) b)) (words s).place ∙ ap (pick (ltb b (place m s)) 1) (same s b l u h)

  free_on : (s : ℕ) → (tag m s ≡ Tag.free → ⊥) → tag m' s ≡ Tag.free → ⊥
  free_on s u e = u (sym (words s).tag ∙ e)

  -- ---- what is reached and covered

  abbrev root_on : (x : ℕ) → IsRoot m' x → IsRoot m x
  root_on x r = record { mutator = r.mutator; index = r.index; few = r.few; within = r.within; attached = r.attached; names = r.names }

  entry_on : (x : ℕ) → IsEntry m' x → IsEntry m x
  entry_on = entry_was m m' refl (λ i. refl)

  edge_on : (x y : ℕ) → PointsTo m' x y → PointsTo m x y
  edge_on = edge_was m m' (λ i. refl)

  live_on : {x : ℕ} → Live m' x → Live m x
  live_on p = live_was m m' root_on entry_on edge_on p

  reached_on : {x : ℕ} → Reached m' x → Reached m x
  reached_on p = reach_map {R = IsRoot m'} {R' = IsRoot m} (λ x r. root (root_on x r)) (λ x y q e. inl (edge_on x y e)) p

  covered_back : {x : ℕ} → Covered g m x → Covered g m' x
  covered_back h = safe_map {G = IsEntry m} {G' = IsEntry m'} {m = is_marked g m} {m' = is_marked g m'} {E = PointsTo m} {E' = PointsTo m'} (λ x e. e)
      (λ x e. inr (root (entry_was m' m refl (λ i. refl) x e))) (λ x y q w e. inl (w, edge_was m' m (λ i. refl) x y e)) h

  -- ---- part by part

  segment_on : (s : ℕ) → s < g.segments → SegmentOk g m s → SegmentOk g m' s
  segment_on s l o = segment_by g m m' s o (words s) (λ b u h. same s b l u h) (λ e. let x = o.held e in (x.1, x.2))

  occupied_on : (s : ℕ) → s < g.segments → Occupied g m s → Occupied g m' s
  occupied_on s l o a b =
      let t = (words s).tag in
      let x = o (omega arith) (omega arith) in
      (x.0, subst (λ z. x.0 < blocks_in g z) (sym (words s).class) x.1, used_same s x.0 l (λ e. omega arith) x.1 ∙ x.2)

  mutator_on : (k : ℕ) → MutatorOk g m k → MutatorOk g m' k
  mutator_on k o = record {
    states = o.states;
    acknowledged = o.acknowledged;
    gone = o.gone;
    holds = λ c s i e. let x = o.holds c s i e in (x.0, (words s).tag ∙ x.1, (words s).class ∙ x.2, (words s).owner ∙ x.3);
  }

  trace_on : TraceOk g m → TraceOk g m'
  trace_on o = record { named = o.named; once = o.once; bits = λ at e. o.bits at (entry_on at e); number = o.number }

  marks_on : ((s : ℕ) → s < g.segments → SegmentOk g m s) → (test : ℕ → Type 0) → MarksOf g m test → MarksOf g m' test
  marks_on ok test o k l t e =
      let u = o k l t e in
      let s = segment_of g (bit_word k) in
      let x = marks_words g g.segments in
      let h = segment_below g (bit_word k) (omega arith) in
      use_by g m m' (bit_word k) (words s).class u (free_on s u.used) (used_same s (block_of g m (bit_word k)) h u.used (of_block g m (bit_word k) ((ok s h).classes u.used)) ∙ u.block)

  tricolour_on : Tricolour g m → Tricolour g m'
  tricolour_on t = record {
    roots = λ at r a. covered_back (t.roots at (root_on at r) a);
    edges = λ x y l e p. covered_back (t.edges x y (live_on l) e (edge_on x y p));
  }

  phase_on : ((s : ℕ) → s < g.segments → SegmentOk g m s) → (p : Phase) → InPhase p g m → InPhase p g m'
  phase_on ok idle h = (h.0, λ s l e. h.1 s l (sym (words s).tag ∙ e))
  phase_on ok sync1 h = λ k l b. entry_was m' m refl (λ i. refl) (bit_word k) (h k l b)
  phase_on ok sync2 h = (marks_on ok (λ s. Unit {0}) h.0, tricolour_on h.1)
  phase_on ok mark h = (marks_on ok (λ s. Unit {0}) h.0, tricolour_on h.1)
  phase_on ok sweep h =
      let was : (s : ℕ) → tag m' s ≡ Tag.condemned → tag m s ≡ Tag.condemned = λ s e. sym (words s).tag ∙ e in
      (h.0, λ k l t e. marks_on ok (λ s. tag m s ≡ Tag.condemned) h.1 k l (was _ t) e, λ at r e. h.2 at (reached_on r) (was _ e))

  sound_on : Sound g m → Sound g m'
  sound_on c = record {
    phases = c.phases;
    segments = λ s l. segment_on s l (c.segments s l);
    occupied = λ s l. occupied_on s l (c.occupied s l);
    behind = λ s l h e. c.behind s l h (sym (words s).tag ∙ e);
    mutators = λ k l. mutator_on k (c.mutators k l);
    acknowledgements = c.acknowledgements;
    records = λ at p. record_on at (c.records at (live_on p));
    trace = trace_on c.trace;
    cycle = phase_on c.segments (phase m) c.cycle;
  }
    where
      -- a record's block is one of its segment's
      record_on : (at : ℕ) → RecordOk g m at → RecordOk g m' at
      record_on at r =
          let l = segment_below g at r.inside in
          record_by g m m' at (words (segment_of g at)).class r (free_on (segment_of g at) r.used)
          (used_same (segment_of g at) (block_of g m at) l r.used (of_block g m at ((c.segments (segment_of g at) l).classes r.used)) ∙ r.block)
          refl

-- ---- any two such memories

module _ (g : Geometry) (m m' : Mem) (e : SameButSummaries g m m') where
  is_with : with m m'.segments m'.stacks m'.bitmaps ≡ m'
  is_with = λ i. record {
    control = sym e.control i;
    mutators = sym e.mutators i;
    heap = sym e.heap i;
    segments = m'.segments;
    stacks = m'.stacks;
    bitmaps = m'.bitmaps;
    marks = sym e.marks i;
    trace = sym e.trace i;
  }

  one_way : Sound g m → Sound g m'
  one_way c = subst (Sound g) is_with (sound_on g m m'.segments m'.stacks m'.bitmaps states e.blocks c)
    where
      states : SameStates m (with m m'.segments m'.stacks m'.bitmaps)
      states s = record { tag = e.tags s; class = e.classes s; place = e.places s; owner = e.owners s }

  other_way : SameButSummaries g m' m
  other_way = record {
    control = sym e.control;
    mutators = sym e.mutators;
    heap = sym e.heap;
    tags = λ s. sym (e.tags s);
    classes = λ s. sym (e.classes s);
    places = λ s. sym (e.places s);
    owners = λ s. sym (e.owners s);
    marks = sym e.marks;
    trace = sym e.trace;
    blocks = λ s b l u h. sym (e.blocks s b l (λ z. u (e.tags s ∙ z)) (subst (λ z. b < blocks_in g z) (e.classes s) h));
  }

pub sound_together : SoundTogether
sound_together g m m' e = (one_way g m m' e, one_way g m' m (other_way g m m' e))
