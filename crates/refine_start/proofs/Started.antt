-- A start keeps the words in order, agrees with the abstract machine's start, and condemns the segments that it collects.
use mathlib.Core.Path.{◌≡◌, refl, sym, ◌∙◌, ap, subst}
use mathlib.Core.Logic.{◌⊎◌, inl, inr}
use mathlib.Core.Bool.{Bool, true, false, not, ◌&&◌, true≢false}
use Prim.Native.Nat.{ℕ, ◌+◌, ◌*◌, ◌≤◌, ◌<◌}
use native.Mathlib.Omega.{arith}
use lib.Dec.{eqb}
use lib.ListN.{get_or}
use borrow.Author.Tests.{ne_eqb, eq-eqb}
use Rattle.basics.proofs.Order.{same_or_not}
use Rattle.basics.specs.Pick.{pick}
use Rattle.layout.specs.declared.Geometry.{Geometry}
use Rattle.layout.specs.Geometry.{mutator_words, entry_words, root_count, segment_of, mark_bit}
use Rattle.layout.specs.Mem.{Mem, mutator_word, heap_word, Sizes}
use Rattle.theory.specs.Phases.{idle, sync1}
use Rattle.theory.specs.Machine.{start}
use Rattle.theory.proofs.Agree.{Agree}
use Rattle.model.specs.PhaseNumbers.{phase_of}
use Rattle.model.specs.Fields.{phase, trace_count, absent, state_at, acks_at, state, tag, class, owner, root, holding}
use Rattle.model.specs.Segments.{free_stack, part_stack, used_bit}
use Rattle.model.specs.Records.{record?, block_of}
use Rattle.model.specs.Collector.{collects, started}
use Rattle.model.proofs.Collecting.{part_collected, other_spared, condemned_ok}
use Rattle.model.specs.Reaching.{Live, is_marked}
use Rattle.classes.specs.Class.{IsClass}
use Rattle.model.specs.Consistent.{InPhase, SegmentOk, Occupied, MutatorOk, Summed, RecordOk, is_free, is_part}
use Rattle.refine_view.specs.View.{view, stack_of, is_head, is_used}
use Rattle.refine_view.specs.Refines.{Ordered, EachOccupied, EntriesOk, MarksIn, Structure, StartRefines}
use Rattle.model_laws.proofs.Bools.{and_false, test_same}
use Rattle.refine_view.proofs.Contents.{pointers_by, fields_by}
use Rattle.refine_view.proofs.Seeing.{root_was, edge_was, live_was}
use Rattle.model_laws.proofs.Stacks.{stack_none}
use Rattle.model_laws.proofs.OtherStacks.{stack_words}
use Rattle.refine_view.proofs.Carried.{block_by, record_by}
use Rattle.model_laws.proofs.Marked.{unentered}
use Rattle.model_laws.proofs.Entries.{holding_by, table_below}
use Rattle.model_laws.proofs.Segments.{segment_same, tree_same, counts_same, occupied_same, used_same, in_range}
use Rattle.model_laws.proofs.Bitmaps.{bitmap_by}
use Rattle.model_laws.proofs.Words.{retagged_to}
use Rattle.refine_start.proofs.Beginning.{Begun, begun}
use Rattle.model.specs.Tag as Tag

module _ (g : Geometry) (m m' : Mem) (z : Sizes g m) (ok : Ordered g m) (quiet : phase m ≡ idle) (b : Begun g m m') where
  -- ---- before: the trace stack is empty, and no segment is condemned

  was_idle : InPhase idle g m
  was_idle = subst (λ p. InPhase p g m) quiet ok.cycle

  no_entries : trace_count m ≡ 0
  no_entries = was_idle.0

  none_left : trace_count m' ≡ 0
  none_left = b.traced ∙ no_entries

  -- ---- segments

  -- collected and condemned now, or as it was
  abbrev Changed : ℕ → Type 0
  Changed s = ((collects m s ≡ true) × (tag m' s ≡ Tag.condemned)) ⊎ ((collects m s ≡ false) × (tag m' s ≡ tag m s))

  changed : (s : ℕ) → Changed s
  changed s = go (collects m s) refl (b.segments s).tag
    where
      go : (t : Bool) → collects m s ≡ t → tag m' s ≡ pick t Tag.condemned (tag m s) → Changed s
      go true e h = inl (e, h)
      go false e h = inr (e, h)

  -- free and held stay so, and none is part
  tag_back : (s t : ℕ) → t ≤ Tag.held → tag m' s ≡ t → tag m s ≡ t
  tag_back s t l e = go (changed s)
    where
      go : Changed s → tag m s ≡ t
      go (inl q) = absurd (let x = q.1 in omega arith)
      go (inr q) = sym q.1 ∙ e

  tag_on : (s t : ℕ) → t ≤ Tag.held → (t ≡ Tag.part → ⊥) → tag m s ≡ t → tag m' s ≡ t
  tag_on s t l f e = go (changed s)
    where
      go : Changed s → tag m' s ≡ t
      go (inl q) = absurd (true≢false (sym q.0 ∙ other_spared m s (λ u. omega arith) (λ u. f (sym e ∙ u))))
      go (inr q) = q.1 ∙ e

  free_on : (s : ℕ) → tag m s ≡ Tag.free → tag m' s ≡ Tag.free
  free_on s = tag_on s Tag.free (omega arith) (λ e. omega arith)

  free_back : (s : ℕ) → tag m' s ≡ Tag.free → tag m s ≡ Tag.free
  free_back s = tag_back s Tag.free (omega arith)

  free_test : (s : ℕ) → eqb (tag m' s) Tag.free ≡ eqb (tag m s) Tag.free
  free_test s = test_same (tag m s) (tag m' s) Tag.free (free_on s) (free_back s)

  never_part : (s : ℕ) → tag m' s ≡ Tag.part → ⊥
  never_part s e = go (changed s)
    where
      go : Changed s → ⊥
      go (inl q) = let x = q.1 in omega arith
      go (inr q) = true≢false (sym (part_collected m s (sym q.1 ∙ e)) ∙ q.0)

  never_condemned : (s : ℕ) → tag m s ≡ Tag.condemned → ⊥
  never_condemned s e = was_idle.1 s (in_range g m z s (λ t. omega arith)) e

  -- the condemned ones are those that the start collects
  collected : (s : ℕ) → eqb (tag m' s) Tag.condemned ≡ collects m s
  collected s = go (changed s)
    where
      go : Changed s → eqb (tag m' s) Tag.condemned ≡ collects m s
      go (inl q) = eq-eqb _ _ q.1 ∙ sym q.0
      go (inr q) = ne_eqb _ _ (λ e. never_condemned s (sym q.1 ∙ e)) ∙ sym q.0

  -- ---- mutators

  state_same : (k : ℕ) → state m' k ≡ state m k
  state_same k = b.mutators k state_at (omega arith) (λ q. omega arith)

  root_same : (k i : ℕ) → i < root_count → root m' k i ≡ root m k i
  root_same k i l = b.mutators k i (omega arith) (λ q. omega arith)

  holding_same : (k c : ℕ) → IsClass c → holding m' k c ≡ holding m k c
  holding_same k c h = holding_by m m' k c (b.mutators k _ (table_below c h) (λ q. omega arith))

  begun_phase : phase m' ≡ sync1
  begun_phase = ap phase_of b.phase

  -- ---- segments

  segment_ok : (s : ℕ) → SegmentOk g m s → SegmentOk g m' s
  segment_ok s o = go (changed s)
    where
      go : Changed s → SegmentOk g m' s
      go (inr q) =
          let w = b.segments s in
          segment_same g m m' s o (retagged_to w (sym w.tag ∙ q.1)) (bitmap_by g m m' b.bitmaps s)
          (λ e. let h = o.held e in (λ n. h.1 (sym (state_same (owner m s)) ∙ n), holding_same (owner m s) (class m s) (o.classes (λ n. omega arith)) ∙ h.2))
      go (inl q) = let w = b.segments s in condemned_ok g m m' s o q.0 q.1 w.class w.place w.owner

  -- held stay so
  occupied_ok : EachOccupied g m → EachOccupied g m'
  occupied_ok u s l = go (changed s)
    where
      go : Changed s → Occupied g m' s
      go (inl q) = λ a b. let x = q.1 in absurd (omega arith)
      go (inr q) = let w = b.segments s in let x = q.1 in occupied_same g m m' s (u s l) (λ a b. (omega arith, omega arith)) w.class w.place (bitmap_by g m m' b.bitmaps s)

  -- ---- mutators

  mutator_ok : (k : ℕ) → MutatorOk g m k → MutatorOk g m' k
  mutator_ok k o = record {
    states = let e = state_same k in let l = o.states in omega arith;
    acknowledged = let e = b.acks k in omega arith;
    gone = λ e i l. blank e i l (same_or_not i acks_at);
    holds = λ c s h e.
        let q = o.holds c s h (sym (holding_same k c h) ∙ e) in
        (q.0, tag_on s Tag.held (omega arith) (λ u. omega arith) q.1, (b.segments s).class ∙ q.2, (b.segments s).owner ∙ q.3);
  }
    where
      blank : state m' k ≡ absent → (i : ℕ) → i < entry_words → (i ≡ acks_at) ⊎ (i ≡ acks_at → ⊥) → mutator_word m' (k * mutator_words + i) ≡ 0
      blank e i l (inl q) = ap (λ x. mutator_word m' (k * mutator_words + x)) q ∙ b.acks k
      blank e i l (inr f) = b.mutators k i (omega arith) f ∙ o.gone (sym (state_same k) ∙ e) i l

  -- ---- trees and stacks

  no_part : (c s : ℕ) → is_part m' c s ≡ false
  no_part c s = ap (λ x. x && eqb (class m' s) c) (ne_eqb _ _ (never_part s))

  summed_ok : Summed g m → Summed g m'
  summed_ok o = record {
    trees = λ s l. tree_same g m m' s (o.trees s l) (free_on s) (b.segments s).class (bitmap_by g m m' b.bitmaps s);
    counts = λ s l. let w = b.segments s in
        counts_same g m m' s (o.counts s l) (free_back s) (free_on s) w.class w.place w.counts (bitmap_by g m m' b.bitmaps s);
    free_segments = stack_words g m m' free_stack (is_free m) (is_free m') b.free o.free_segments (λ s l. free_test s);
    part_segments = λ c h. stack_none g m' (part_stack c) (is_part m' c) (λ s l. no_part c s) (b.parts c h);
  }

  -- ---- records

  word_same : (i : ℕ) → heap_word m' i ≡ heap_word m i
  word_same i = ap (λ l. get_or l i 0) b.heap

  live_before : (at : ℕ) → Live m' at → Live m at
  live_before at p = live_was m m' (root_was m m' (λ k e. state_same k ∙ e) (root_same)) (λ x e. absurd (let l = e.within in let n = none_left in omega arith)) (edge_was m m' word_same) p

  use_same : (s k : ℕ) → used_bit g m' s k ≡ used_bit g m s k
  use_same s k = used_same g m m' s k (b.segments s).place (bitmap_by g m m' b.bitmaps s)

  record_ok : (at : ℕ) → RecordOk g m at → RecordOk g m' at
  record_ok at r =
      record_by g m m' at (b.segments (segment_of g at)).class r (λ e. r.used (free_back (segment_of g at) e))
      (use_same (segment_of g at) (block_of g m at) ∙ r.block) (word_same at)

  -- ---- the trace stack

  trace_ok : EntriesOk g m'
  trace_ok = let n = none_left in record { named = λ i l. absurd (omega arith); bits = λ at e. absurd (let l = e.within in omega arith); number = omega arith }

  structure : Structure g m'
  structure = record {
    phases = let e = b.phase in omega arith;
    segments = λ s l. segment_ok s (ok.segments s l);
    summed = summed_ok ok.summed;
    mutators = λ k l. mutator_ok k (ok.mutators k l);
    records = λ at p. record_ok at (ok.records at (live_before at p));
    trace = trace_ok;
    marks = subst (λ p. MarksIn p g m') (sym begun_phase) (λ k l e. absurd (let q = b.marks k in omega arith));
  }

  -- ---- beside the machine's start

  no_mark : (at : ℕ) → (is_head g m' at && is_marked g m' at) ≡ false
  no_mark at =
      let e : is_marked g m' at ≡ false = ap (λ z. eqb z 1) (unentered g m' at (b.marks (mark_bit at))) in
      ap (λ x. is_head g m' at && x) e ∙ and_false (is_head g m' at)

  used_test : (at : ℕ) → is_used g m' at ≡ is_used g m at
  used_test at =
      let u : used_bit g m' (segment_of g at) (block_of g m' at) ≡ used_bit g m (segment_of g at) (block_of g m at) =
      use_same (segment_of g at) (block_of g m' at) ∙ ap (used_bit g m (segment_of g at)) (block_by g m m' at (b.segments (segment_of g at)).class) in
      ap (λ x. not x && eqb (used_bit g m' (segment_of g at) (block_of g m' at)) 1) (free_test (segment_of g at))
      ∙ ap (λ x. not (eqb (tag m (segment_of g at)) Tag.free) && eqb x 1) u

  agree : Agree (segment_of g) (start (view g m) (collects m)) (view g m')
  agree = record {
    phase = begun_phase;
    stack = ap (stack_of m') none_left ∙ sym (ap (stack_of m) no_entries);
    attached = λ i. ap (λ x. not (eqb x absent)) (state_same i);
    inside = λ i. ap (λ x. eqb x 1) (state_same i);
    acks = b.acks;
    root = λ i k a l. ap record? (root_same i k l);
    marked = λ t at l. no_mark at;
    condemned_marks = λ at e. no_mark at;
    condemned = collected;
    pointer_count = λ at l. pointers_by m m' at (word_same at);
    values = λ at l. fields_by m m' at (word_same at) (λ f h. word_same _);
    pointer = λ at f l h. ap record? (word_same (at + 1 + f));
    used = λ at l. used_test at;
  }

pub start_refines : (g : Geometry) (m : Mem) → Sizes g m → Ordered g m → phase m ≡ idle → StartRefines g m
start_refines g m z ok quiet =
    let b = begun g m z in
    record {
      structure = structure g m (started g m) z ok quiet b;
      occupied = occupied_ok g m (started g m) z ok quiet b;
      behind = λ x l h e. let y = b.cursor in omega arith;
      agree = agree g m (started g m) z ok quiet b;
      collected = λ s l e. (sym (collected g m (started g m) z ok quiet b s) ∙ eq-eqb _ _ e, (b.segments s).class);
    }
