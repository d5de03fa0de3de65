-- A segment that was free or part comes to be held, and nothing else changes: the memory is in order but for the stacks, which are asked for,
-- and the machine sees no difference.
use mathlib.Core.Path.{◌≡◌, refl, sym, ◌∙◌, ap, subst, fun_ext}
use mathlib.Core.Logic.{◌⊎◌, inl, inr}
use mathlib.Core.Bool.{Bool, true, false, not}
use mathlib.Core.Option.{Option, map}
use mathlib.Core.List.{List}
use Prim.Native.Nat.{ℕ, suc, ◌+◌, ◌-◌, ◌*◌, ◌≤◌, ◌<◌}
use native.Mathlib.Omega.{arith}
use lib.Dec.{eqb, ltb}
use borrow.Author.Tests.{ltb-true}
use Rattle.basics.proofs.Order.{same_or_not}
use Rattle.words.specs.Bits.{bit_at}
use Rattle.words.specs.Tree.{Tree}
use Rattle.classes.specs.Class.{first_class, IsClass}
use Rattle.classes.specs.declared.RecordShape.{RecordShape}
use Rattle.layout.specs.declared.Geometry.{Geometry}
use Rattle.layout.specs.Geometry.{mutator_count, mutator_words, root_count, blocks_in, segment_of}
use Rattle.layout.specs.Mem.{Mem, mutator_word, Sizes}
use Rattle.theory.specs.Calls.{shape_if}
use Rattle.theory.proofs.Agree.{Agree}
use Rattle.model.specs.Fields.{trace_count, absent, state_at, acks_at, state, acks, root, holding, held_from, tag, class, owner}
use Rattle.model.specs.Segments.{free_stack, part_stack, above, bitmap}
use Rattle.model.specs.Records.{record?}
use Rattle.model.specs.Calls.{is_attached, is_inside}
use Rattle.model.specs.Reaching.{IsRoot}
use Rattle.model.specs.Consistent.{SegmentOk, TreeOk, CountsOk, MutatorOk, StackOk, is_free, is_part}
use Rattle.refine_view.specs.Refines.{Ordered}
use Rattle.refine_view.specs.View.{view}
use Rattle.model_laws.proofs.Bools.{not_eq}
use Rattle.model_laws.proofs.Words.{Recorded, CountsStay, Untouched}
use Rattle.model_laws.proofs.Entries.{holding_by, table_below, mutators_table}
use Rattle.model_laws.proofs.Segments.{segment_same, tree_same, counts_by, occupied_by}
use Rattle.refine_view.proofs.Seeing.{entries_same, root_was}
use Rattle.refine_view.proofs.Invariants.{to_live}
use Rattle.refine_take_detach.proofs.Standing.{over, SegmentStays, SegmentsStay, marked_live, marked_condemned, collect_same, used_live, steady, records_stand, trace_stands, marks_stand}
use Rattle.refine_take_detach.proofs.SegmentTaken.{SegmentTaken}
use Rattle.refine_view.proofs.SelfSimulation.{behind_by}
use Rattle.theory.specs.MachineCalls as calls
use Rattle.model.specs.Tag as Tag

-- segment r, which was free or part, is held by mutator k as its one of class cl, from place p on, and no other segment changes
pub record Took (g : Geometry) (m m₁ : Mem) (k cl r p : ℕ) : Type 0 where
  pub sizes : Sizes g m₁
  pub below : r < g.segments
  pub there : Recorded m₁ r 2 cl p k
  pub other : (q : ℕ) → (q ≡ r → ⊥) → Untouched m m₁ q
  pub bitmaps : (q : ℕ) → (q ≡ r → ⊥) → bitmap g m₁ q ≡ bitmap g m q
  pub tree : Tree (above g cl) (blocks_in g cl) (bitmap g m₁ r)
  pub remains : (b : ℕ) × (p ≤ b) × (b < blocks_in g cl) × (bit_at (bitmap g m₁ r) b ≡ 0)
  pub counts : CountsStay m m₁ r
  pub counted : CountsOk g m₁ r
  pub holds : holding m₁ k cl ≡ suc r
  pub entries : (k' o : ℕ) → o < mutator_words → (k' ≡ k → o ≡ held_from + (cl - first_class) → ⊥) → mutator_word m₁ (k' * mutator_words + o) ≡ mutator_word m (k' * mutator_words + o)
  pub before : tag m r ≤ Tag.part
  pub stood : (tag m r ≡ Tag.free → ⊥) → SegmentStays g m m₁ r

module _ (g : Geometry) (m : Mem) (s : Sizes g m) (c : Ordered g m) (mu se st bi : List ℕ) (k cl r p : ℕ) (few : k < mutator_count)
    (here : is_attached m k ≡ true) (ic : IsClass cl) (none : holding m k cl ≡ 0) (t : Took g m (over m mu se st bi) k cl r p) where
  abbrev m₁ : Mem
  m₁ = over m mu se st bi

  -- ---- mutators' entries

  state_same : (k' : ℕ) → state m₁ k' ≡ state m k'
  state_same k' = t.entries k' state_at (omega arith) (λ e f. omega arith)

  acks_same : (k' : ℕ) → acks m₁ k' ≡ acks m k'
  acks_same k' = t.entries k' acks_at (omega arith) (λ e f. omega arith)

  root_same : (k' i : ℕ) → i < root_count → root m₁ k' i ≡ root m k' i
  root_same k' i l = t.entries k' i (omega arith) (λ e f. omega arith)

  holding_other : (k' c' : ℕ) → IsClass c' → (k' ≡ k → c' ≡ cl → ⊥) → holding m₁ k' c' ≡ holding m k' c'
  holding_other k' c' i f = let a = i.0 in let d = ic.0 in holding_by m m₁ k' c' (t.entries k' (held_from + (c' - first_class)) (table_below c' i) (λ e h. f e (omega arith)))

  attached_same : (k' : ℕ) → is_attached m₁ k' ≡ is_attached m k'
  attached_same k' = ap (λ z. not (eqb z 0)) (state_same k')

  inside_same : (k' : ℕ) → is_inside m₁ k' ≡ is_inside m k'
  inside_same k' = ap (λ z. eqb z 1) (state_same k')

  -- ---- segments

  segment_there : SegmentOk g m₁ r
  segment_there = record {
    tags = let y = x.tag in omega arith;
    free = λ e. let y = x.tag in absurd (omega arith);
    unowned = λ f. absurd (f x.tag);
    classes = λ f. subst IsClass (sym x.class) ic;
    remains = λ a b. let y = t.remains in (y.0, subst (λ z. z ≤ y.0) (sym x.place) y.1, subst (λ z. y.0 < blocks_in g z) (sym x.class) y.2, y.3);
    full = λ e. let y = x.tag in absurd (omega arith);
    condemned = λ e. let y = x.tag in absurd (omega arith);
    held =
        λ e. (
          subst (λ z. z < mutator_count) (sym x.owner) few,
          λ f. not_eq _ _ here (sym (state_same k) ∙ ap (state m₁) (sym x.owner) ∙ f),
          ap (λ z. holding m₁ z (class m₁ r)) x.owner ∙ ap (holding m₁ k) x.class ∙ t.holds,
        );
  }
    where
      x : Recorded m₁ r 2 cl p k
      x = t.there

  segment_other : (q : ℕ) → q < g.segments → (q ≡ r → ⊥) → SegmentOk g m₁ q
  segment_other q l f = segment_same g m m₁ q o (t.other q f) (t.bitmaps q f) keeps
    where
      o : SegmentOk g m q
      o = c.segments q l

      keeps : tag m q ≡ Tag.held → (state m₁ (owner m q) ≡ absent → ⊥) × (holding m₁ (owner m q) (class m q) ≡ suc q)
      keeps e =
          let y = o.held e in
          let clash : owner m q ≡ k → class m q ≡ cl → ⊥ = λ a b. let z : holding m k cl ≡ suc q = ap (λ w. holding m w cl) (sym a) ∙ ap (holding m (owner m q)) (sym b) ∙ y.2 in omega arith in
          (λ z. y.1 (sym (state_same (owner m q)) ∙ z), holding_other (owner m q) (class m q) (o.classes (λ z. omega arith)) clash ∙ y.2)

  pub segments_ok : (q : ℕ) → q < g.segments → SegmentOk g m₁ q
  segments_ok q l = go (same_or_not q r)
    where
      go : (q ≡ r) ⊎ (q ≡ r → ⊥) → SegmentOk g m₁ q
      go (inl e) = subst (SegmentOk g m₁) (sym e) segment_there
      go (inr f) = segment_other q l f

  trees_ok : (q : ℕ) → q < g.segments → TreeOk g m₁ q
  trees_ok q l = go (same_or_not q r)
    where
      there : TreeOk g m₁ r
      there f = subst (λ z. Tree (above g z) (blocks_in g z) (bitmap g m₁ r)) (sym t.there.class) t.tree

      go : (q ≡ r) ⊎ (q ≡ r → ⊥) → TreeOk g m₁ q
      go (inl e) = subst (TreeOk g m₁) (sym e) there
      go (inr f) = let x = t.other q f in tree_same g m m₁ q (c.summed.trees q l) (λ e. x.tag ∙ e) x.class (t.bitmaps q f)

  counts_ok : (q : ℕ) → q < g.segments → CountsOk g m₁ q
  counts_ok q l = go (same_or_not q r)
    where
      go : (q ≡ r) ⊎ (q ≡ r → ⊥) → CountsOk g m₁ q
      go (inl e) = subst (CountsOk g m₁) (sym e) t.counted
      go (inr f) = counts_by g m m₁ q (c.summed.counts q l) (t.other q f) (t.bitmaps q f)

  counts_stay : (q : ℕ) → CountsStay m m₁ q
  counts_stay q = go (same_or_not q r)
    where
      go : (q ≡ r) ⊎ (q ≡ r → ⊥) → CountsStay m m₁ q
      go (inl e) = subst (CountsStay m m₁) (sym e) t.counts
      go (inr f) = (t.other q f).counts

  -- ---- mutators

  new : (q : ℕ) → holding m₁ k cl ≡ suc q → (q < g.segments) × (tag m₁ q ≡ Tag.held) × (class m₁ q ≡ cl) × (owner m₁ q ≡ k)
  new q e =
      let z : suc q ≡ suc r = sym e ∙ t.holds in
      let y : q ≡ r = omega arith in
      let x = t.there in
      (subst (λ w. w < g.segments) (sym y) t.below, ap (tag m₁) y ∙ x.tag, ap (class m₁) y ∙ x.class, ap (owner m₁) y ∙ x.owner)

  pub mutators_ok : (k' : ℕ) → k' < mutator_count → MutatorOk g m₁ k'
  mutators_ok = mutators_table g m m₁ c.mutators k cl state_same acks_same (λ j e i h. t.entries j i (omega arith) (λ a b. not_eq _ _ here (ap (state m) (sym a) ∙ e))) holding_other
      (λ j d q f u _ _. t.other q (λ w. let a : tag m r ≡ Tag.held = ap (tag m) (sym w) ∙ u in let b = t.before in omega arith)) new

  -- ---- what was not free stays

  stands : SegmentsStay g m m₁
  stands = record {
    stood = λ q u. stood_at q u (same_or_not q r);
    condemned = λ q e. condemned_at q e (same_or_not q r);
    still = λ q e. (t.other q (λ w. let a : tag m r ≡ Tag.condemned = ap (tag m) (sym w) ∙ e in let b = t.before in omega arith)).tag ∙ e;
  }
    where
      stood_at : (q : ℕ) → (tag m q ≡ Tag.free → ⊥) → (q ≡ r) ⊎ (q ≡ r → ⊥) → SegmentStays g m m₁ q
      stood_at q u (inl e) = subst (SegmentStays g m m₁) (sym e) (t.stood (λ z. u (ap (tag m) e ∙ z)))
      stood_at q u (inr f) = let x = t.other q f in record { used = λ z. u (sym x.tag ∙ z); class = x.class; place = x.place; bitmap = t.bitmaps q f }

      condemned_at : (q : ℕ) → tag m₁ q ≡ Tag.condemned → (q ≡ r) ⊎ (q ≡ r → ⊥) → tag m q ≡ Tag.condemned
      condemned_at q e (inl w) = let a : tag m₁ q ≡ Tag.held = ap (tag m₁) w ∙ t.there.tag in absurd (omega arith)
      condemned_at q e (inr f) = sym (t.other q f).tag ∙ e

  roots_before : (at : ℕ) → IsRoot m₁ at → IsRoot m at
  roots_before = root_was m m₁ (λ j e. state_same j ∙ e) root_same

  agree : Agree (segment_of g) (view g m) (view g m₁)
  agree = record {
    phase = refl;
    stack = entries_same m m₁ (trace_count m) (λ i l. refl);
    attached = attached_same;
    inside = inside_same;
    acks = acks_same;
    root = λ i j a l. ap record? (root_same i j l);
    marked = λ _ b l. marked_live g m s c mu se st bi stands b (to_live g m s c l);
    condemned_marks = marked_condemned g m s c mu se st bi stands;
    condemned = collect_same g m s c mu se st bi stands;
    pointer_count = λ b l. refl;
    values = λ b l. refl;
    pointer = λ b f l h. refl;
    used = λ b l. used_live g m s c mu se st bi stands b (to_live g m s c l);
  }

  -- ---- what both show

  shape_same : (k' i : ℕ) → (calls.observe (view g m₁)).shape k' i ≡ (calls.observe (view g m)).shape k' i
  shape_same k' i = go (ltb i root_count) refl
    where
      none_past : (a b : Bool) (x y : Option RecordShape) → shape_if a false x ≡ shape_if b false y
      none_past true true x y = refl
      none_past true false x y = refl
      none_past false true x y = refl
      none_past false false x y = refl

      go : (b : Bool) → ltb i root_count ≡ b
          → shape_if (is_attached m₁ k') b (map (calls.shape_at (view g m)) (record? (root m₁ k' i))) ≡ shape_if (is_attached m k') b
          (map (calls.shape_at (view g m)) (record? (root m k' i)))
      go true e =
          ap (λ z. shape_if z true (map (calls.shape_at (view g m)) (record? (root m₁ k' i)))) (attached_same k')
          ∙ ap (λ z. shape_if (is_attached m k') true (map (calls.shape_at (view g m)) (record? z))) (root_same k' i (ltb-true _ _ e))
      go false e = none_past (is_attached m₁ k') (is_attached m k') _ _

  face_same : calls.observe (view g m₁) ≡ calls.observe (view g m)
  face_same = λ i. record { attached = fun_ext attached_same i; inside = fun_ext inside_same i; shape = fun_ext (λ k'. fun_ext (λ j. shape_same k' j)) i }

  pub taken_by : StackOk g m₁ free_stack (is_free m₁) → ((c' : ℕ) → IsClass c' → StackOk g m₁ (part_stack c') (is_part m₁ c')) → SegmentTaken g m m₁ k cl r
  taken_by free part = record {
    sizes = t.sizes;
    structure = record {
      phases = c.phases;
      segments = segments_ok;
      summed = record { trees = trees_ok; counts = counts_ok; free_segments = free; part_segments = part };
      mutators = mutators_ok;
      records = records_stand g m s c mu se st bi stands roots_before;
      trace = trace_stands g m s c mu se st bi stands;
      marks = marks_stand g m s c mu se st bi stands;
    };
    occupied = λ u q l f. occupied_by g m m₁ q (u q l) (t.other q f) (t.bitmaps q f);
    behind = behind_by g m m₁ (steady g m s c mu se st bi stands) refl;
    prepared = agree;
    shows = face_same;
    steady = steady g m s c mu se st bi stands;
    counts = counts_stay;
    holds = t.holds;
    known = attached_same k ∙ here;
  }
