-- The words that a make leaves are in order: mutators, stacks, records, trace stack and marks.
use mathlib.Core.Path.{◌≡◌, refl, sym, ◌∙◌, ap, subst}
use mathlib.Core.Logic.{◌⊎◌, inl, inr, ◌≢◌}
use Prim.Native.Nat.{ℕ, suc, ◌*◌, ◌≤◌, ◌<◌}
use native.Mathlib.Omega.{arith}
use Rattle.basics.proofs.Order.{same_or_not}
use Rattle.words.specs.Bits.{bit_at}
use Rattle.classes.specs.Class.{IsClass}
use Rattle.std.specs.Prelude.{Some}
use Rattle.classes.specs.declared.RecordShape.{RecordShape}
use Rattle.classes.specs.Record.{class_of_record}
use Rattle.layout.specs.declared.Geometry.{Geometry}
use Rattle.layout.specs.Geometry.{mutator_count, most_blocks, segment_of, mark_bit}
use Rattle.layout.specs.Mem.{Mem, Sizes}
use Rattle.theory.specs.Phases.{sync1, black}
use Rattle.theory.proofs.Agree.{live_back}
use Rattle.model.specs.Fields.{phase, state, acks, holding, tag, class, owner}
use Rattle.model.specs.Segments.{free_stack, part_stack}
use Rattle.model.specs.Records.{block_of, header_of, entered}
use Rattle.model.specs.Reaching.{IsEntry, Live}
use Rattle.model.specs.Consistent.{MutatorOk, StackOk, is_free, is_part, RecordOk, HeadInUse, MarksOf, bit_word}
use Rattle.refine_view.specs.View.{view}
use Rattle.refine_view.specs.Refines.{Ordered, EntriesOk, MarksIn, Structure}
use Rattle.model_laws.proofs.Blocks.{header_inside, bit_below, head_word}
use Rattle.model_laws.proofs.Apart.{class_of}
use Rattle.words.proofs.Counts.{among_change}
use Rattle.words.proofs.Lists.{at_lt}
use mathlib.Core.Bool.{Bool, true, false}
use Rattle.model_laws.proofs.Entries.{mutators_table}
use Rattle.model_laws.proofs.OtherStacks.{stack_by}
use Rattle.model_laws.proofs.Segments.{part_same}
use Rattle.refine_view.proofs.Carried.{record_by, use_by, marks_by}
use Rattle.refine_view.proofs.Seeing.{live_on, entry_was}
use Rattle.refine_view.proofs.Invariants.{structure_of}
use Rattle.refine_making.proofs.Request.{Request}
use Rattle.refine_making.proofs.Result.{StillHeld, NowFull, Result}
use Rattle.refine_making.proofs.Agreeing.{after, agree, old_or_new, header_on}
use Rattle.refine_making.proofs.Segments.{segments_ok, trees_ok, counts_ok}
use Rattle.refine_making.proofs.Standing as standing
use Rattle.refine_making.proofs.Newborn as newborn
use Rattle.model.specs.Tag as Tag

module _ (g : Geometry) (m : Mem) (s : Sizes g m) (c : Ordered g m) (m' : Mem) (k d cl r b : ℕ) (shape : RecordShape) (q : Request g m k d cl r b shape) (a : Result g m m' k d cl r b shape) where
  abbrev h : ℕ
  h = header_of g r cl b

  -- ---- mutators

  new : (y : ℕ) → holding m' k cl ≡ suc y → StillHeld g m m' k cl r b ⊎ NowFull g m m' k cl r b → (y < g.segments) × (tag m' y ≡ Tag.held) × (class m' y ≡ cl) × (owner m' y ≡ k)
  new y e (inl w) =
      let t = w.held in
      let y_is : y ≡ r = omega arith in
      let o = w.recorded in
      (subst (λ t. t < g.segments) (sym y_is) q.inside, ap (tag m') y_is ∙ o.tag, ap (class m') y_is ∙ o.class, ap (owner m') y_is ∙ o.owner)
  new y e (inr w) = let t = w.held in absurd (omega arith)

  mutators_ok : (j : ℕ) → j < mutator_count → MutatorOk g m' j
  mutators_ok = mutators_table g m m' c.mutators k cl (standing.state_same g m m' k d cl r b shape q a) (standing.acks_same g m m' k d cl r b shape q a)
      (λ j z i w. let away : j ≡ k → ⊥ = λ u. q.attached (ap (state m) (sym u) ∙ z) in a.words j i (omega arith) (λ u v. away u) (λ u v. away u))
      (standing.holding_same g m m' k d cl r b shape q a)
      (λ j x y f t u v. a.others y (λ w. f (sym v ∙ ap (owner m) w ∙ q.of_mutator) (sym u ∙ ap (class m) w ∙ q.of_class)))
      (λ y e. new y e a.segment)

  -- ---- stacks of segments

  free_ok : StackOk g m' free_stack (is_free m')
  free_ok = stack_by g m m' free_stack (is_free m) (is_free m') a.stacks c.summed.free_segments (λ x l. standing.tag_test g m m' k d cl r b shape q a 0 x (λ z. omega arith) (λ z. omega arith))

  part_ok : (x : ℕ) → IsClass x → StackOk g m' (part_stack x) (is_part m' x)
  part_ok x i = stack_by g m m' (part_stack x) (is_part m x) (is_part m' x) a.stacks (c.summed.part_segments x i)
      (λ y l. part_same m m' x y (standing.tag_test g m m' k d cl r b shape q a 1 y (λ z. omega arith) (λ z. omega arith)) (standing.class_same g m m' k d cl r b shape q a y))

  -- ---- records

  old_record : (x : ℕ) → Live m x → x ≢ h → RecordOk g m' x
  old_record x l f =
      let o = c.records x l in
      record_by g m m' x (standing.class_same g m m' k d cl r b shape q a (segment_of g x)) o
      (standing.tag_used g m m' k d cl r b shape q a (segment_of g x) o.used)
      (standing.used_on g m m' k d cl r b shape q a (segment_of g x) (block_of g m x) o.block)
      (header_on g m s c m' k d cl r b shape q a x l f)

  new_record : RecordOk g m' h
  new_record = record {
    inside = let z = header_inside g cl q.is_class r b q.below q.inside in let w = q.fits in omega arith;
    used = newborn.tag_at g m c m' k d cl r b shape q a;
    aligned = newborn.aligned_there g m c m' k d cl r b shape q a;
    block = newborn.used_there g m c m' k d cl r b shape q a;
    sized = ap class_of_record (newborn.shape_there g m c m' k d cl r b shape q a) ∙ q.sized ∙ ap Some (sym (newborn.class_at g m c m' k d cl r b shape q a));
  }

  records_ok : (x : ℕ) → Live m' x → RecordOk g m' x
  records_ok x l =
      go
      (old_or_new g m s c m' k d cl r b shape q a x (live_back (segment_of g) (after g m s c m' k d cl r b shape q a) (view g m') (agree g m s c m' k d cl r b shape q a) (live_on g m' l)))
    where
      go : (Live m x × (x ≢ h)) ⊎ (x ≡ h) → RecordOk g m' x
      go (inl y) = old_record x y.0 y.1
      go (inr e) = subst (RecordOk g m') (sym e) new_record

  -- ---- the trace stack

  -- the new record's bit may be set, and no other changes
  bit_up : (i : ℕ) → bit_at m.marks i ≤ bit_at m'.marks i
  bit_up i = go (same_or_not i (mark_bit h))
    where
      there : (x : Bool) → black (phase m) (acks m k) ≡ x → entered g m h ≤ entered g m' h
      there true e = let z = a.born e in let w = at_lt m.marks (mark_bit h) in omega arith
      there false e = let z = a.unborn e in omega arith

      go : (i ≡ mark_bit h) ⊎ (i ≡ mark_bit h → ⊥) → bit_at m.marks i ≤ bit_at m'.marks i
      go (inl e) = subst (λ z. bit_at m.marks z ≤ bit_at m'.marks z) (sym e) (there (black (phase m) (acks m k)) refl)
      go (inr f) = let z = a.marks i f in omega arith

  entry_back : (x : ℕ) → IsEntry m' x → IsEntry m x
  entry_back = entry_was m m' (standing.count_same g m m' k d cl r b shape q a) (standing.trace_same g m m' k d cl r b shape q a)

  head_bit : mark_bit h < g.segments * most_blocks g
  head_bit = bit_below g m' h (class_of g m' h new_record) new_record.inside

  trace_ok : EntriesOk g m'
  trace_ok = let o = c.trace in record {
    named = λ i l. subst (λ z. 1 ≤ z) (sym (standing.trace_same g m m' k d cl r b shape q a i)) (o.named i (subst (λ z. i < z) (standing.count_same g m m' k d cl r b shape q a) l));
    bits = λ x e. let z = o.bits x (entry_back x e) in let y = bit_up (mark_bit x) in let w = at_lt m'.marks (mark_bit x) in omega arith;
    number =
        let z = among_change (bit_at m.marks) (bit_at m'.marks) (g.segments * most_blocks g) (mark_bit h) head_bit (λ i l f. a.marks i f) in
        let y = bit_up (mark_bit h) in
        let w = o.number in
        let u = standing.count_same g m m' k d cl r b shape q a in
        omega arith;
  }

  -- ---- marks

  use_on : (x : ℕ) → HeadInUse g m x → HeadInUse g m' x
  use_on x u =
      use_by g m m' x (standing.class_same g m m' k d cl r b shape q a (segment_of g x)) u
      (standing.tag_used g m m' k d cl r b shape q a (segment_of g x) u.used)
      (standing.used_on g m m' k d cl r b shape q a (segment_of g x) (block_of g m x) u.block)

  use_new : HeadInUse g m' h
  use_new = record { used = new_record.used; aligned = new_record.aligned; block = new_record.block }

  head_is : bit_word (mark_bit h) ≡ h
  head_is = head_word g m' h (class_of g m' h new_record) new_record.aligned

  marks_of : (test : ℕ → Type 0) → MarksOf g m test → MarksOf g m' test
  marks_of test o i l t e = go (same_or_not i (mark_bit h))
    where
      go : (i ≡ mark_bit h) ⊎ (i ≡ mark_bit h → ⊥) → HeadInUse g m' (bit_word i)
      go (inl z) = subst (HeadInUse g m') (sym (ap bit_word z ∙ head_is)) use_new
      go (inr z) = use_on (bit_word i) (o i l t (sym (a.marks i z) ∙ e))

  -- nothing is born black before the second handshake
  blank : phase m ≡ sync1 → MarksIn sync1 g m → MarksIn sync1 g m'
  blank e o i l u =
      entry_was m' m (sym (standing.count_same g m m' k d cl r b shape q a))
      (λ j. sym (standing.trace_same g m m' k d cl r b shape q a j)) (bit_word i) (o i l (go (same_or_not i (mark_bit h))))
    where
      go : (i ≡ mark_bit h) ⊎ (i ≡ mark_bit h → ⊥) → bit_at m.marks i ≡ 1
      go (inl z) = ap (bit_at m.marks) z ∙ sym (a.unborn (ap (λ w. black w (acks m k)) e)) ∙ ap (bit_at m'.marks) (sym z) ∙ u
      go (inr z) = sym (a.marks i z) ∙ u

  pub structure : Structure g m'
  structure = record {
    phases = subst (λ z. z ≤ 4) (sym (standing.phase_word g m m' k d cl r b shape q a)) c.phases;
    segments = segments_ok g m c m' k d cl r b shape q a;
    summed = record { trees = trees_ok g m c m' k d cl r b shape q a; counts = counts_ok g m c m' k d cl r b shape q a; free_segments = free_ok; part_segments = part_ok };
    mutators = mutators_ok;
    records = records_ok;
    trace = trace_ok;
    marks =
        subst (λ ph. MarksIn ph g m') (sym (standing.phase_same g m m' k d cl r b shape q a))
        (marks_by g m m' (λ x t. (standing.tag_back g m m' k d cl r b shape q a x t).0) marks_of (phase m) blank (structure_of g m c).marks);
  }
