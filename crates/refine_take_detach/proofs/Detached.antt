-- A mutator detached: its entry is 0 and what it held is part. The memory is in order, and agrees with the machine's detach.
use mathlib.Core.Path.{◌≡◌, refl, sym, ◌∙◌, ap, subst}
use mathlib.Core.Logic.{◌⊎◌, inl, inr}
use mathlib.Core.Bool.{true, false, not, true≢false}
use mathlib.Core.Option.{none}
use mathlib.Core.List.{List}
use Prim.Native.Nat.{ℕ, suc, ◌+◌, ◌*◌, ◌≤◌, ◌<◌}
use native.Mathlib.Omega.{arith}
use lib.Dec.{eqb}
use lib.ListN.{length, get_or, replicate, length-replicate, get_or-replicate}
use Rattle.basics.proofs.Order.{same_or_not}
use Rattle.classes.specs.Class.{class_count, IsClass}
use Rattle.layout.specs.declared.Geometry.{Geometry}
use Rattle.layout.specs.Geometry.{mutator_count, mutator_words, root_count, blocks_in, segment_of}
use Rattle.layout.specs.Mem.{Mem, mutator_word, set_run, Sizes, spliced}
use Rattle.theory.specs.Machine.{detach}
use Rattle.theory.specs.Update.{upd}
use Rattle.theory.proofs.Agree.{Agree}
use Rattle.theory.proofs.Updates.{upd_cases, upd_miss₁}
use Rattle.theory.proofs.CycleKeeps.{detach_live}
use Rattle.model.specs.Fields.{trace_count, absent, state_at, acks_at, state, acks, root, holding, tag, class, place, owner}
use Rattle.model.specs.Segments.{free_stack, part_stack}
use Rattle.model.specs.Records.{record?}
use Rattle.model.specs.Mutators.{released, detached}
use Rattle.model.specs.Calls.{is_attached, is_inside}
use Rattle.model.specs.Reaching.{IsRoot, Live}
use Rattle.model.specs.Consistent.{SegmentOk, Occupied, TreeOk, CountsOk, MutatorOk, is_free, is_part}
use Rattle.refine_view.specs.View.{view}
use Rattle.refine_view.specs.Refines.{Ordered, EachOccupied, Structure, Moves}
use Rattle.model_laws.proofs.Words.{Recorded, CountsStay, Untouched, untouched_same, untouched_as, counted_then, recorded_as}
use Rattle.theory.proofs.Updates.{upd_by}
use Rattle.model_laws.proofs.Entries.{holding_word, holding_by, table_below, entry_in, entry_out}
use Rattle.model_laws.proofs.Stacks.{stack_same}
use Rattle.model_laws.proofs.Segments.{segment_same, tree_same, counts_same, counts_by, occupied_same, occupied_by}
use Rattle.model_laws.proofs.Releasing.{Gone, gone?, Releasing}
use Rattle.model_laws.proofs.Released.{releasing}
use Rattle.refine_view.proofs.Seeing.{entries_same}
use Rattle.refine_view.proofs.Invariants.{to_live, to_inv}
use Rattle.refine_take_detach.proofs.Standing.{over, SegmentStays, SegmentsStay, marked_live, marked_condemned, collect_same, used_live, steady, records_stand, trace_stands, marks_stand}
use Rattle.refine_view.proofs.SelfSimulation.{behind_by}
use Rattle.theory.specs.Machine as machine
use Rattle.layout.specs.Region as Region
use Rattle.model.specs.Tag as Tag

module _ (g : Geometry) (m : Mem) (s : Sizes g m) (c : Ordered g m) (k : ℕ) (few : k < mutator_count) (zeros : List ℕ) (is_zeros : zeros ≡ replicate mutator_words 0) where
  abbrev parted : Mem
  parted = released g m k class_count

  parts : Releasing g m parted k class_count
  parts = releasing g m s (record { segments = c.segments; mutators = c.mutators; stacks = (c.summed.free_segments, c.summed.part_segments) }) k few class_count (omega arith)

  abbrev emptied : List ℕ
  emptied = spliced m.mutators (k * mutator_words) zeros

  abbrev m₁ : Mem
  m₁ = over m emptied parted.segments parted.stacks m.bitmaps

  -- ---- mutators' entries

  long : length zeros ≡ mutator_words
  long = ap length is_zeros ∙ length-replicate {A = ℕ} mutator_words 0

  word_there : (o : ℕ) → o < mutator_words → mutator_word m₁ (k * mutator_words + o) ≡ 0
  word_there o l = entry_in g m s k few zeros long o l ∙ ap (λ x. get_or x o 0) is_zeros ∙ get_or-replicate mutator_words o 0 0 l

  word_other : (j o : ℕ) → o < mutator_words → (j ≡ k → ⊥) → mutator_word m₁ (j * mutator_words + o) ≡ mutator_word m (j * mutator_words + o)
  word_other = entry_out g m s k few zeros long

  state_there : state m₁ k ≡ 0
  state_there = word_there state_at (omega arith)

  state_other : (j : ℕ) → (j ≡ k → ⊥) → state m₁ j ≡ state m j
  state_other j f = word_other j state_at (omega arith) f

  root_other : (j i : ℕ) → i < root_count → (j ≡ k → ⊥) → root m₁ j i ≡ root m j i
  root_other j i l f = word_other j i (omega arith) f

  holding_other : (j d : ℕ) → IsClass d → (j ≡ k → ⊥) → holding m₁ j d ≡ holding m j d
  holding_other j d i f = holding_by m m₁ j d (word_other j _ (table_below d i) f)

  -- ---- segments

  gone : (q : ℕ) → Gone m k class_count q → Recorded m₁ q Tag.part (class m q) (place m q) 0
  gone q z = recorded_as parted m₁ q Tag.part (class m q) (place m q) 0 refl (parts.gone q z)

  stay : (q : ℕ) → (Gone m k class_count q → ⊥) → Untouched m m₁ q
  stay q f = untouched_as refl (parts.stay q f)

  -- what another mutator holds stays
  others : (q j : ℕ) → owner m q ≡ j → (j ≡ k → ⊥) → Gone m k class_count q → ⊥
  others q j e f z = f (sym e ∙ z.1)

  segment_gone : (q : ℕ) → q < g.segments → Gone m k class_count q → SegmentOk g m₁ q
  segment_gone q l z = record {
    tags = let y = x.tag in omega arith;
    free = λ e. let y = x.tag in absurd (omega arith);
    unowned = λ f. x.owner;
    classes = λ f. subst IsClass (sym x.class) (o.classes used);
    remains =
        λ a b.
        let w = z.0 in
        let y = o.remains (omega arith) (omega arith) in
        (y.0, subst (λ w. w ≤ y.0) (sym x.place) y.1, subst (λ w. y.0 < blocks_in g w) (sym x.class) y.2, y.3);
    full = λ e. let y = x.tag in absurd (omega arith);
    condemned = λ e. let y = x.tag in absurd (omega arith);
    held = λ e. let y = x.tag in absurd (omega arith);
  }
    where
      o : SegmentOk g m q
      o = c.segments q l

      x : Recorded m₁ q Tag.part (class m q) (place m q) 0
      x = gone q z

      used : tag m q ≡ Tag.free → ⊥
      used e = let y = z.0 in omega arith

  segment_stay : (q : ℕ) → q < g.segments → (Gone m k class_count q → ⊥) → SegmentOk g m₁ q
  segment_stay q l f = segment_same g m m₁ q o (stay q f) refl keeps
    where
      o : SegmentOk g m q
      o = c.segments q l

      keeps : tag m q ≡ Tag.held → (state m₁ (owner m q) ≡ absent → ⊥) × (holding m₁ (owner m q) (class m q) ≡ suc q)
      keeps e =
          let i : IsClass (class m q) = o.classes (λ z. omega arith) in
          let n : owner m q ≡ k → ⊥ = λ z. f (e, z, i.1) in
          (λ z. (o.held e).1 (sym (state_other (owner m q) n) ∙ z), holding_other (owner m q) (class m q) i n ∙ (o.held e).2)

  segments_ok : (q : ℕ) → q < g.segments → SegmentOk g m₁ q
  segments_ok q l = go (gone? m k class_count q)
    where
      go : Gone m k class_count q ⊎ (Gone m k class_count q → ⊥) → SegmentOk g m₁ q
      go (inl z) = segment_gone q l z
      go (inr f) = segment_stay q l f

  trees_ok : (q : ℕ) → q < g.segments → TreeOk g m₁ q
  trees_ok q l = go (gone? m k class_count q)
    where
      go : Gone m k class_count q ⊎ (Gone m k class_count q → ⊥) → TreeOk g m₁ q
      go (inl z) = tree_same g m m₁ q (c.summed.trees q l) (λ e. let y = z.0 in absurd (omega arith)) (gone q z).class refl
      go (inr f) = tree_same g m m₁ q (c.summed.trees q l) (λ e. (stay q f).tag ∙ e) (stay q f).class refl

  counts_stay : (q : ℕ) → CountsStay m m₁ q
  counts_stay q = counted_then (parts.counts q) (untouched_same parted m₁ q refl).counts

  counts_ok : (q : ℕ) → q < g.segments → CountsOk g m₁ q
  counts_ok q l = go (gone? m k class_count q)
    where
      go : Gone m k class_count q ⊎ (Gone m k class_count q → ⊥) → CountsOk g m₁ q
      go (inl z) =
          let y = z.0 in
          let x = gone q z in
          let w = x.tag in
          counts_same g m m₁ q (c.summed.counts q l) (λ e. absurd (omega arith)) (λ e. absurd (omega arith)) x.class x.place (counts_stay q) refl
      go (inr f) = counts_by g m m₁ q (c.summed.counts q l) (stay q f) refl

  -- a held segment that goes to part keeps its block in use
  occupied_ok : EachOccupied g m → EachOccupied g m₁
  occupied_ok u q l = go (gone? m k class_count q)
    where
      go : Gone m k class_count q ⊎ (Gone m k class_count q → ⊥) → Occupied g m₁ q
      go (inl z) = let y = z.0 in let x = gone q z in occupied_same g m m₁ q (u q l) (λ a b. (omega arith, omega arith)) x.class x.place refl
      go (inr f) = occupied_by g m m₁ q (u q l) (stay q f) refl

  -- ---- mutators

  mutator_there : MutatorOk g m₁ k
  mutator_there = record {
    states = let z = state_there in omega arith;
    acknowledged = let z = word_there acks_at (omega arith) in omega arith;
    gone = λ e i l. word_there i (omega arith);
    holds = λ d q i e. let z = holding_word m₁ k d ∙ word_there _ (table_below d i) in absurd (omega arith);
  }

  mutator_other : (j : ℕ) → j < mutator_count → (j ≡ k → ⊥) → MutatorOk g m₁ j
  mutator_other j l f = record {
    states = let y = state_other j f in let z = o.states in omega arith;
    acknowledged = let y = word_other j acks_at (omega arith) f in let z = o.acknowledged in omega arith;
    gone = λ e i h. word_other j i (omega arith) f ∙ o.gone (sym (state_other j f) ∙ e) i h;
    holds = λ d q i e. let y = o.holds d q i (sym (holding_other j d i f) ∙ e) in let x = stay q (others q j y.3 f) in (y.0, x.tag ∙ y.1, x.class ∙ y.2, x.owner ∙ y.3);
  }
    where
      o : MutatorOk g m j
      o = c.mutators j l

  mutators_ok : (j : ℕ) → j < mutator_count → MutatorOk g m₁ j
  mutators_ok j l = go (same_or_not j k)
    where
      go : (j ≡ k) ⊎ (j ≡ k → ⊥) → MutatorOk g m₁ j
      go (inl e) = subst (MutatorOk g m₁) (sym e) mutator_there
      go (inr f) = mutator_other j l f

  -- ---- what was not free stays

  stands : SegmentsStay g m m₁
  stands = record {
    stood = λ q u. stood_at q u (gone? m k class_count q);
    condemned = λ q e. condemned_at q e (gone? m k class_count q);
    still = λ q e. (stay q (λ z. let y = z.0 in omega arith)).tag ∙ e;
  }
    where
      stood_at : (q : ℕ) → (tag m q ≡ Tag.free → ⊥) → Gone m k class_count q ⊎ (Gone m k class_count q → ⊥) → SegmentStays g m m₁ q
      stood_at q u (inl z) = let x = gone q z in record { used = λ e. let y = x.tag in omega arith; class = x.class; place = x.place; bitmap = refl }
      stood_at q u (inr f) = let x = stay q f in record { used = λ e. u (sym x.tag ∙ e); class = x.class; place = x.place; bitmap = refl }

      condemned_at : (q : ℕ) → tag m₁ q ≡ Tag.condemned → Gone m k class_count q ⊎ (Gone m k class_count q → ⊥) → tag m q ≡ Tag.condemned
      condemned_at q e (inl z) = let y = (gone q z).tag in absurd (omega arith)
      condemned_at q e (inr f) = sym (stay q f).tag ∙ e

  roots_before : (at : ℕ) → IsRoot m₁ at → IsRoot m at
  roots_before at x =
      let n : x.mutator ≡ k → ⊥ = λ e. x.attached (ap (state m₁) e ∙ state_there) in
      record {
        mutator = x.mutator;
        index = x.index;
        few = x.few;
        within = x.within;
        attached = λ e. x.attached (state_other x.mutator n ∙ e);
        names = sym (root_other x.mutator x.index x.within n) ∙ x.names;
      }

  structure : Structure g m₁
  structure = record {
    phases = c.phases;
    segments = segments_ok;
    summed = record {
      trees = trees_ok;
      counts = counts_ok;
      free_segments = stack_same g parted m₁ free_stack (is_free parted) (is_free m₁) parts.stacks.0 refl (λ i l. refl) (λ q l. refl);
      part_segments = λ d i. stack_same g parted m₁ (part_stack d) (is_part parted d) (is_part m₁ d) (parts.stacks.1 d i) refl (λ j l. refl) (λ q l. refl);
    };
    mutators = mutators_ok;
    records = records_stand g m s c emptied parted.segments parted.stacks m.bitmaps stands roots_before;
    trace = trace_stands g m s c emptied parted.segments parted.stacks m.bitmaps stands;
    marks = marks_stand g m s c emptied parted.segments parted.stacks m.bitmaps stands;
  }

  -- ---- the machine's detach

  was_live : {at : ℕ} → machine.Live (detach (view g m) k) at → Live m at
  was_live q = to_live g m s c (detach_live (segment_of g) (view g m) (to_inv g m s c) k q)

  -- a function of each mutator's words, changed at k only
  changed : {A : Type 0} (f : Mem → ℕ → A) (v : A) → f m₁ k ≡ v → ((j : ℕ) → (j ≡ k → ⊥) → f m₁ j ≡ f m j) → (j : ℕ) → f m₁ j ≡ upd (f m) k v j
  changed f v e h j = upd_by (f m) k v j (f m₁ j) (λ z. ap (f m₁) z ∙ e) (h j)

  still_there : (j : ℕ) → upd (is_attached m) k false j ≡ true → j ≡ k → ⊥
  still_there j a e = go (upd_cases (is_attached m) k false j)
    where
      go : ((j ≡ k) × (upd (is_attached m) k false j ≡ false)) ⊎ ((j ≡ k → ⊥) × (upd (is_attached m) k false j ≡ is_attached m j)) → ⊥
      go (inl z) = true≢false (sym a ∙ z.1)
      go (inr z) = z.0 e

  agree : Agree (segment_of g) (detach (view g m) k) (view g m₁)
  agree = record {
    phase = refl;
    stack = entries_same m m₁ (trace_count m) (λ i l. refl);
    attached = changed is_attached false (ap (λ z. not (eqb z 0)) state_there) (λ j f. ap (λ z. not (eqb z 0)) (state_other j f));
    inside = changed is_inside false (ap (λ z. eqb z 1) state_there) (λ j f. ap (λ z. eqb z 1) (state_other j f));
    acks = changed acks 0 (word_there acks_at (omega arith)) (λ j f. word_other j acks_at (omega arith) f);
    root = λ j i a l. let n = still_there j a in ap record? (root_other j i l n) ∙ sym (upd_miss₁ (λ x y. record? (root m x y)) k (λ _. none) j i n);
    marked = λ _ b l. marked_live g m s c emptied parted.segments parted.stacks m.bitmaps stands b (was_live l);
    condemned_marks = marked_condemned g m s c emptied parted.segments parted.stacks m.bitmaps stands;
    condemned = collect_same g m s c emptied parted.segments parted.stacks m.bitmaps stands;
    pointer_count = λ b l. refl;
    values = λ b l. refl;
    pointer = λ b f l h. refl;
    used = λ b l. used_live g m s c emptied parted.segments parted.stacks m.bitmaps stands b (was_live l);
  }

  moves_over : Moves g m m₁ (detach (view g m) k)
  moves_over = record {
    structure = structure;
    occupied = occupied_ok;
    behind = behind_by g m m₁ (steady g m s c emptied parted.segments parted.stacks m.bitmaps stands) refl;
    agree = agree;
    steady = steady g m s c emptied parted.segments parted.stacks m.bitmaps stands;
  }

  same : set_run parted Region.mutators (k * mutator_words) zeros ≡ m₁
  unfolding set_run
  same = ap (λ z. over z (spliced z.mutators (k * mutator_words) zeros) parted.segments parted.stacks z.bitmaps) parts.frame

  moves_run : Moves g m (set_run parted Region.mutators (k * mutator_words) zeros) (detach (view g m) k)
  moves_run = subst (λ z. Moves g m z (detach (view g m) k)) (sym same) moves_over

pub detached_moves : (g : Geometry) (m : Mem) → Sizes g m → Ordered g m → (k : ℕ) → k < mutator_count → Moves g m (detached g m k) (detach (view g m) k)
unfolding detached
detached_moves g m s c k few = moves_run g m s c k few (replicate mutator_words 0) refl
