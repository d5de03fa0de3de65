-- Consistency is the order of the words together with the machine's invariant.
use mathlib.Core.Path.{◌≡◌, refl, sym, ◌∙◌, ap, subst}
use mathlib.Core.Logic.{◌⊎◌, inl, inr, ⊎_elim}
use mathlib.Core.Bool.{Bool, true, false, ◌&&◌, true≢false}
use mathlib.Core.List.{[]}
use Prim.Native.Nat.{ℕ, zero, suc, ◌-◌, ◌≤◌, ◌<◌}
use native.Mathlib.Omega.{arith}
use lib.ListN.{get_or-eq_default}
use borrow.Author.Tests.{eq-eqb, ne_eqb, eqb-true}
use Rattle.basics.proofs.Order.{le_or_lt, same_or_not}
use Rattle.words.proofs.Word.{zero_of_not_one}
use Rattle.layout.specs.Geometry.{mutator_count, segment_of, mark_bit}
use Rattle.layout.specs.declared.Geometry.{Geometry}
use Rattle.layout.specs.Mem.{Mem, trace_word, Sizes}
use Rattle.theory.specs.Phases.{Phase, idle, sync1, sync2, mark, sweep}
use Rattle.theory.specs.Reach.{root, next}
use Rattle.theory.proofs.Invariant.{Inv, Core, Tracing, Quiet}
use Rattle.theory.proofs.Updates.{Nodup}
use Rattle.theory.proofs.Graph.{reach_map}
use Rattle.model.specs.Fields.{phase, trace_count, absent, acks_at, state, acks}
use Rattle.model.specs.Records.{marked}
use Rattle.model.specs.Calls.{is_attached}
use Rattle.model.specs.Reaching.{IsRoot, IsEntry, Live, Reached, Covered, is_marked}
use Rattle.model.specs.Consistent.{Consistent, Behind, InPhase, AcksIn, Tricolour, RecordOk}
use Rattle.refine_view.specs.View.{view, stack_of, is_head, is_used}
use Rattle.refine_view.specs.Refines.{Ordered, EachOccupied, Structure, MarksIn}
use Rattle.words.proofs.Counts.{lt_of}
use Rattle.model_laws.proofs.Bools.{not_eq, ne_not, and_both, and_right, and_false}
use Rattle.layout.proofs.Sizes.{segment_below}
use Rattle.model_laws.proofs.Blocks.{bit_below, head_word}
use Rattle.model_laws.proofs.Marked.{entry_unmarked, marked_entered, marked_lt}
use Rattle.refine_view.proofs.Seeing.{entry_of, entry_in, live_on, live_back, reached_on, reached_back, entry_back, edge_on, edge_back, naming, covered_on, covered_back, head_of, few_mutators}
use Rattle.model_laws.proofs.Rooted.{named}
use Rattle.theory.specs.Machine as machine

-- ---- the parts of consistency that bear on the words alone

marks_in : (p : Phase) (g : Geometry) (m : Mem) → InPhase p g m → MarksIn p g m
marks_in idle g m h = h.1
marks_in sync1 g m h = h
marks_in sync2 g m h = h.0
marks_in mark g m h = h.0
marks_in sweep g m h = h.1

pub consistent_ordered : (g : Geometry) (m : Mem) → Consistent g m → Ordered g m
consistent_ordered g m c =
    let s = c.sound in
    record {
      phases = s.phases;
      segments = s.segments;
      summed = c.summed;
      mutators = s.mutators;
      acknowledgements = s.acknowledgements;
      records = s.records;
      trace = s.trace;
      cycle = s.cycle;
    }

pub structure_of : (g : Geometry) (m : Mem) → Ordered g m → Structure g m
structure_of g m c = record {
  phases = c.phases;
  segments = c.segments;
  summed = c.summed;
  mutators = c.mutators;
  records = c.records;
  trace = record { named = c.trace.named; bits = c.trace.bits; number = c.trace.number };
  marks = marks_in (phase m) g m c.cycle;
}

-- ---- the trace stack without a repeated entry

nodup_of : (m : Mem) → (n : ℕ) → ((i : ℕ) → i < n → 1 ≤ trace_word m i) → ((i j : ℕ) → i < j → j < n → trace_word m i ≡ trace_word m j → ⊥) → Nodup (stack_of m n)
nodup_of m zero h o = tt
nodup_of m (suc n) h o = (λ q. new (entry_of m n (trace_word m n - 1) q), nodup_of m n (λ i l. h i (omega arith)) (λ i j l k. o i j l (omega arith)))
  where
    new : (i : ℕ) × (i < n) × (trace_word m i - 1 ≡ trace_word m n - 1) → ⊥
    new x = let l : x.0 < n = x.1 in let a = h x.0 (omega arith) in let b = h n (omega arith) in let e = x.2 in o x.0 n l (omega arith) (omega arith)

once_of : (m : Mem) → (n : ℕ) → ((i : ℕ) → i < n → 1 ≤ trace_word m i) → Nodup (stack_of m n) → (i j : ℕ) → i < j → j < n → trace_word m i ≡ trace_word m j → ⊥
once_of m zero h d i j l k e = omega arith
once_of m (suc n) h d i j l k e = go (same_or_not j n) (λ q. once_of m n (λ i l. h i (omega arith)) d.1 i j l q e)
  where
    go : (j ≡ n) ⊎ (j ≡ n → ⊥) → (j < n → ⊥) → ⊥
    go (inl q) ih =
        let a = h i (omega arith) in
        let z : trace_word m i ≡ suc (trace_word m n - 1) = (let y : trace_word m i ≡ trace_word m n = e ∙ ap (trace_word m) q in omega arith) in
        d.0 (entry_in m n i (trace_word m n - 1) (omega arith) z)
    go (inr q) ih = ih (lt_of k q)

-- ---- from consistency to the machine's invariant

marked_1 : (g : Geometry) (m : Mem) (at : ℕ) → is_marked g m at ≡ true → marked g m at ≡ 1
marked_1 g m at e = eqb-true _ _ e

not_marked : (g : Geometry) (m : Mem) (at : ℕ) → marked g m at ≡ 0 → is_marked g m at ≡ false
not_marked g m at e = ne_eqb (marked g m at) 1 (λ q. omega arith)

pub used_record : (g : Geometry) (m : Mem) (at : ℕ) → RecordOk g m at → is_used g m at ≡ true
used_record g m at r = and_both _ _ (ne_not _ _ r.used) (eq-eqb _ _ r.block)

module _ (g : Geometry) (m : Mem) (s : Sizes g m) (c : Ordered g m) where
  pub to_live : {at : ℕ} → machine.Live (view g m) at → Live m at
  to_live p = live_back g m s c.trace.named p

  -- what is live for the machine is a record in order
  pub to_record : (at : ℕ) → machine.Live (view g m) at → RecordOk g m at
  to_record at p = c.records at (to_live p)

  to_reached : {at : ℕ} → machine.Reached (view g m) at → Reached m at
  to_reached p = reached_back g m s p

  pub used_of : (at : ℕ) → Live m at → is_used g m at ≡ true
  used_of at l = used_record g m at (c.records at l)

  acks_in : (k : ℕ) → is_attached m k ≡ true → AcksIn (phase m) (acks m k)
  acks_in k a = c.acknowledgements k (few_mutators g m s k a) (not_eq _ _ a)

  acks_gone : (k : ℕ) → (is_attached m k ≡ true → ⊥) → acks m k ≡ 0
  acks_gone k f = go (le_or_lt mutator_count k)
    where
      inside? : (state m k ≡ 0) ⊎ (state m k ≡ 0 → ⊥) → k < mutator_count → acks m k ≡ 0
      inside? (inl e) l = (c.mutators k l).gone e acks_at (omega arith)
      inside? (inr n) l = absurd (f (ne_not _ _ n))

      go : (mutator_count ≤ k) ⊎ (k < mutator_count) → acks m k ≡ 0
      go (inl l) = let z = s.mutators in get_or-eq_default m.mutators 0 (omega arith)
      go (inr l) = inside? (same_or_not (state m k) 0) l

  to_covered : Tricolour g m → (t : Unit {0}) → Core (view g m)
  to_covered t u = record {
    roots_covered =
        λ k b a h.
        let r : IsRoot m b = record { mutator = k; index = h.0; few = few_mutators g m s k h.1; within = h.2; attached = not_eq _ _ h.1; names = named _ _ h.3 } in
        covered_on g m s c.trace.named c.records b (root (inl r)) (t.roots b r a);
    pointers_covered =
        λ x y p e q. covered_on g m s c.trace.named c.records y (next (to_live p) (edge_back g m x y q))
        (t.edges x y (to_live p) (marked_1 g m x (and_right (is_head g m x) _ e)) (edge_back g m x y q));
  }

  -- in the first handshake what has a bit is on the stack
  blank : InPhase sync1 g m → (x : ℕ) → Live m x → marked g m x ≡ 0
  blank h x l = go (same_or_not (marked g m x) 1)
    where
      go : (marked g m x ≡ 1) ⊎ (marked g m x ≡ 1 → ⊥) → marked g m x ≡ 0
      go (inr f) = zero_of_not_one _ (marked_lt g m x) f
      go (inl e) =
          let r = c.records x l in
          let i = r.inside in
          let k = (c.segments (segment_of g x) (segment_below g x i)).classes r.used in
          let q = subst (IsEntry m) (head_word g m x k r.aligned) (h (mark_bit x) (bit_below g m x k i) (marked_entered g m x e)) in
          entry_unmarked g m x q

  -- before anything is marked, nothing can hide
  to_core : (p : Phase) → phase m ≡ p → InPhase p g m → Tracing p → Core (view g m)
  to_core idle e h t = absurd t
  to_core sync1 e h t = record {
    roots_covered = λ k b a q. absurd (let z = subst (λ p. AcksIn p (acks m k)) e (acks_in k q.1) in omega arith);
    pointers_covered =
        λ x y p k q. absurd
        (let z : marked g m x ≡ 0 = blank_bit x (to_live p) in let u : marked g m x ≡ 1 = marked_1 g m x (and_right (is_head g m x) (is_marked g m x) k) in omega arith);
  }
    where
      blank_bit : (x : ℕ) → Live m x → marked g m x ≡ 0
      blank_bit x l = blank h x l
  to_core sync2 e h t = to_covered h.1 tt
  to_core mark e h t = to_covered h.1 tt
  to_core sweep e h t = absurd t

  to_quiet : (p : Phase) → InPhase p g m → Quiet p → trace_count m ≡ 0
  to_quiet idle h q = h.0
  to_quiet sync1 h q = absurd q
  to_quiet sync2 h q = absurd q
  to_quiet mark h q = absurd q
  to_quiet sweep h q = h.0

  in_phase : (p : Phase) → phase m ≡ p → InPhase p g m
  in_phase p e = subst (λ p. InPhase p g m) e c.cycle

  not_attached : (k : ℕ) → (is_attached m k ≡ true) ⊎ (is_attached m k ≡ true → ⊥)
  not_attached k = go (is_attached m k) refl
    where
      go : (b : Bool) → is_attached m k ≡ b → (is_attached m k ≡ true) ⊎ (is_attached m k ≡ true → ⊥)
      go true e = inl e
      go false e = inr (λ q. true≢false (sym q ∙ e))

  pub to_inv : Inv (segment_of g) (view g m)
  to_inv = record {
    valid = λ b p. used_of b (to_live p);
    stack = record {
      white = λ x h. ap (λ b. is_head g m x && b) (not_marked g m x (entry_unmarked g m x (entry_back g m s c.trace.named x h))) ∙ and_false (is_head g m x);
      nodup = nodup_of m (trace_count m) c.trace.named c.trace.once;
    };
    quiet = λ q. ap (stack_of m) (to_quiet (phase m) c.cycle q);
    blank = λ e b p. white_bit e b (to_live p);
    first = λ e k. ⊎_elim (λ a. subst (λ p. AcksIn p (acks m k)) e (acks_in k a)) (λ f. let z = acks_gone k f in omega arith) (not_attached k);
    second = λ e k a. subst (λ p. AcksIn p (acks m k)) e (acks_in k a);
    all = λ e k a. subst (λ p. AcksIn p (acks m k)) e (acks_in k a);
    core = λ t. to_core (phase m) refl c.cycle t;
    kept = λ e b p d. let r = to_reached p in let l = live_of r in and_both _ _ (head_of g m s c.trace.named c.records b l) (eq-eqb _ _ ((in_phase sweep e).2 b r (eqb-true _ _ d)));
  }
    where
      live_of : {x : ℕ} → Reached m x → Live m x
      live_of p = reach_map {R = IsRoot m} {R' = λ at. IsRoot m at ⊎ IsEntry m at} (λ x r. root (inl r)) (λ x y q e. inl e) p

      white_bit : phase m ≡ sync1 → (x : ℕ) → Live m x → (is_head g m x && is_marked g m x) ≡ false
      white_bit e x l = ap (λ b. is_head g m x && b) (not_marked g m x (blank (in_phase sync1 e) x l)) ∙ and_false (is_head g m x)

-- ---- from the machine's invariant to consistency: the words in order and the invariant are it

module _ (g : Geometry) (m : Mem) (s : Sizes g m) (o : Structure g m) (inv : Inv (segment_of g) (view g m)) where
  from_live : {at : ℕ} → Live m at → machine.Live (view g m) at
  from_live p = live_on g m p

  from_covered : {b : ℕ} → Live m b → machine.Covered (view g m) b → Covered g m b
  from_covered l h = covered_back g m s o.trace.named o.records _ l h

  from_core : Core (view g m) → Tricolour g m
  from_core t = record {
    roots = λ at r a. from_covered (root (inl r)) (t.roots_covered r.mutator at a (r.index, ne_not _ _ r.attached, r.within, naming _ _ r.names));
    edges = λ x y l e p. from_covered (next l p) (t.pointers_covered x y (from_live l) (and_both _ _ (head_of g m s o.trace.named o.records x l) (eq-eqb _ _ e)) (edge_on g m x y p));
  }

  no_entries : stack_of m (trace_count m) ≡ [] → trace_count m ≡ 0
  no_entries e = go (trace_count m) e
    where
      go : (n : ℕ) → stack_of m n ≡ [] → n ≡ 0
      go zero e = refl
      go (suc n) e = cc

  from_phase : (p : Phase) → phase m ≡ p → MarksIn p g m → InPhase p g m
  from_phase idle e h = (no_entries (inv.quiet (subst Quiet (sym e) tt)), h)
  from_phase sync1 e h = h
  from_phase sync2 e h = (h, from_core (inv.core (subst Tracing (sym e) tt)))
  from_phase mark e h = (h, from_core (inv.core (subst Tracing (sym e) tt)))
  from_phase sweep e h =
      (no_entries (inv.quiet (subst Quiet (sym e) tt)), h, λ at r d. eqb-true _ _ (and_right (is_head g m at) (is_marked g m at) (inv.kept e at (reached_on g m r) (eq-eqb _ _ d))))

  from_acks : (p : Phase) → phase m ≡ p → (k : ℕ) → (state m k ≡ absent → ⊥) → AcksIn p (acks m k)
  from_acks idle e k a = tt
  from_acks sync1 e k a = inv.first e k
  from_acks sync2 e k a = inv.second e k (ne_not _ _ a)
  from_acks mark e k a = inv.all e k (ne_not _ _ a)
  from_acks sweep e k a = tt

  pub ordered_of : Ordered g m
  ordered_of = record {
    phases = o.phases;
    segments = o.segments;
    summed = o.summed;
    mutators = o.mutators;
    acknowledgements = λ k l a. from_acks (phase m) refl k a;
    records = o.records;
    trace = record {
      named = o.trace.named;
      once = once_of m (trace_count m) o.trace.named inv.stack.nodup;
      bits = o.trace.bits;
      number = o.trace.number;
    };
    cycle = from_phase (phase m) refl o.marks;
  }

  pub consistent_of : EachOccupied g m → Behind g m → Consistent g m
  consistent_of u b = let c = ordered_of in record {
    summed = c.summed;
    sound = record {
      phases = c.phases;
      segments = c.segments;
      occupied = u;
      behind = b;
      mutators = c.mutators;
      acknowledgements = c.acknowledgements;
      records = c.records;
      trace = c.trace;
      cycle = c.cycle;
    };
  }
