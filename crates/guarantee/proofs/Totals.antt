-- The blocks in use, all that makes handed out and all that sweeps freed: call by call, and along every list.
use mathlib.Core.Path.{◌≡◌, refl, sym, ◌∙◌, ap, subst}
use mathlib.Core.Logic.{inl, inr}
use mathlib.Core.Bool.{Bool}
use mathlib.Core.Option.{Option, none, some}
use mathlib.Core.List.{List, [], ◌∷◌}
use Prim.Native.Nat.{ℕ, zero, suc, ◌+◌, ◌-◌, ◌*◌, ◌≤◌, ◌<◌}
use native.Mathlib.Omega.{arith}
use lib.ListN.{length}
use borrow.Author.Tests.{eq-eqb}
use Rattle.std.specs.Prelude.{Result, Ok, Err}
use Rattle.basics.specs.Pick.{pick}
use Rattle.words.specs.Bits.{ones_among}
use Rattle.words.proofs.Ones.{among_same}
use Rattle.words.proofs.Counts.{among_change, no_ones}
use Rattle.layout.specs.declared.Geometry.{Geometry}
use Rattle.layout.specs.Geometry.{mutator_count, segment_record_words, blocks_in}
use Rattle.layout.specs.Mem.{Mem, mem_of, Sizes, set_control}
use Rattle.layout.proofs.Regions.{sized, right_size}
use Rattle.theory.specs.Phases.{Phase, idle, sync1, sync2, mark, sweep}
use Rattle.theory.specs.Calls.{CallKind, coming, working, asks_number, asks_flag, asks_shape, making, kind_of}
use Rattle.theory.specs.Calls.{a_ok, a_moved, a_traced, a_done, a_idle, a_num, a_flag, a_shape, a_no, a_waiting, a_swept}
use Rattle.theory.proofs.Invariant.{none_some}
use Rattle.model.specs.declared.Answer.{Answer}
use Rattle.model.specs.declared.Answer.TheVariants.{Done, Number, Same, Shape}
use Rattle.model.specs.declared.Refusal.{Refusal}
use Rattle.model.specs.declared.Step.{Step}
use Rattle.model.specs.Answers.{answer_of, step_answer_of, refusal_in}
use Rattle.model.specs.PhaseNumbers.{phase_number}
use Rattle.model.specs.Fields.{phase, trace_count, tag_at, tag, class, kept_count, handed_count}
use Rattle.model.specs.Segments.{used_bit, in_use}
use Rattle.model.specs.Opening.{opened}
use Rattle.model.specs.Calls.{exec}
use Rattle.model.specs.Collector.{outside_answered, waiting, moved_or_waiting, traces, lowest, swept, sweeps, step_in, step_of}
use Rattle.model.specs.Consistent.{Consistent}
use Rattle.model.proofs.InUse.{counts_in_use}
use Rattle.model.specs.Lists.{Event, mutator_call, start_call, step_call, opening_call, look_call, event_number, next_words, Opened, by_opening}
use Rattle.model_laws.proofs.Words.{CountsStay, untouched_same, untouched_as}
use Rattle.model_laws.proofs.Segments.{in_use-by}
use Rattle.model_laws.proofs.Bitmaps.{bitmap_by}
use Rattle.model_laws.proofs.Lengths.{sizes_of}
use Rattle.model_laws.proofs.Lowest.{found_condemned}
use Rattle.model_laws.proofs.Swept.{swept_use}
use Rattle.refine_view.specs.Refines.{Ordered}
use Rattle.refine_view.proofs.Invariants.{consistent_ordered}
use Rattle.refine_sweep.proofs.SweepStep.{settled_outcome}
use Rattle.refine_sweep.proofs.MarksUsed.{marked_le}
use Rattle.refine_start.proofs.Beginning.{begun}
use Rattle.refine_start.proofs.Opened.{opened_segment}
use Rattle.idle_twin.specs.SameHeap.{SameHeap}
use Rattle.idle_twin.proofs.Same.{same_self, leaves_control}
use Rattle.idle_twin.proofs.Cycle.{leaves_unswept}
use Rattle.guarantee.specs.Elements.{Acts, wrong, looks, calls, starts, start_refused, steps}
use Rattle.guarantee.specs.Totals.{sum_over, blocks_in_use, ok_count, made_by, freed_by, made_at, freed_at, Balance, Totals, EveryStored}
use Rattle.guarantee.proofs.Elements.{every_element}
use Rattle.guarantee.proofs.Beginning.{opened_point}
use Rattle.guarantee.proofs.Counting.{AllStay, OneMore, ok_of, MakesOne, CountsBy, counts_exec}
use Rattle.model.specs.declared.Step.TheVariants as step
use Rattle.model.specs.Tag as Tag
use Rattle.theory.specs.Calls as theory

-- ---- sums over segments

pub sum_is : (f : ℕ → ℕ) (n : ℕ) → sum_over f n ≡ ones_among f n
unfolding sum_over ones_among
sum_is f zero = refl
sum_is f (suc n) = ap (λ x. x + f n) (sum_is f n)

pub sum_same : (f h : ℕ → ℕ) (n : ℕ) → ((s : ℕ) → s < n → h s ≡ f s) → sum_over h n ≡ sum_over f n
sum_same f h n e = sum_is h n ∙ among_same h f n e ∙ sym (sum_is f n)

-- at one segment only
pub sum-change : (f h : ℕ → ℕ) (n k : ℕ) → k < n → ((s : ℕ) → s < n → (s ≡ k → ⊥) → h s ≡ f s) → sum_over h n + f k ≡ sum_over f n + h k
sum-change f h n k l e = ap (λ x. x + f k) (sum_is h n) ∙ among_change f h n k l e ∙ ap (λ x. x + h k) (sym (sum_is f n))

-- ---- the two counts

pub stored : EveryStored
stored g m c = record { segment = one; all = sum_same _ (in_use g m) g.segments one }
  where
    one : (s : ℕ) → s < g.segments → in_use g m s ≡ kept_count m s + handed_count m s
    one s l = counts_in_use g m s (c.summed.counts s l) (c.sound.segments s l).classes

module _ (g : Geometry) (m m' : Mem) (c : Consistent g m) (c' : Consistent g m') where
  abbrev figures : Mem → ℕ → ℕ
  figures x s = kept_count x s + handed_count x s

  -- where the counts stay, so do the blocks in use
  by_stay : AllStay m m' → blocks_in_use g m ≡ blocks_in_use g m'
  by_stay h =
      (stored g m c).all ∙ sum_same (figures m') (figures m) g.segments (λ s l. let x = h s in let a = x.kept in let b = x.handed in omega arith) ∙ sym (stored g m' c').all

  -- and with one block more counted there is one more
  by_one : OneMore g m m' → blocks_in_use g m + 1 ≡ blocks_in_use g m'
  by_one o =
      let k = o.segment in
      let z = sum-change (figures m) (figures m') g.segments k o.inside (λ s l f. let x = o.others s f in let a = x.kept in let b = x.handed in omega arith) in
      let a = o.there.kept in
      let b = o.there.handed in
      let u = (stored g m c).all in
      let v = (stored g m' c').all in
      omega arith

-- ---- the answers as document 01 has them

ok_is : (r : Result Answer Refusal) → ok_count r ≡ ok_of (answer_of r)
ok_is (Ok Done) = refl
ok_is (Ok (Number v)) = refl
ok_is (Ok (Same b)) = refl
ok_is (Ok (Shape s)) = refl
ok_is (Err e) = refl

abbrev freed_of : theory.Answer → ℕ
freed_of a_ok = 0
freed_of a_moved = 0
freed_of a_traced = 0
freed_of a_done = 0
freed_of a_idle = 0
freed_of (a_num v) = 0
freed_of (a_flag b) = 0
freed_of (a_shape s) = 0
freed_of (a_no n) = 0
freed_of (a_waiting n) = 0
freed_of (a_swept s f) = f

freed_is : (r : Step) → freed_by r ≡ freed_of (step_answer_of r)
freed_is (step.Waiting n) = refl
freed_is step.Moved = refl
freed_is step.Traced = refl
freed_is (step.Swept s f) = refl
freed_is step.Done = refl
freed_is step.Idle = refl
freed_is (step.Refused n) = refl

-- a refusal hands out nothing and frees nothing
no_made : (r : Result Answer Refusal) (n : ℕ) → refusal_in (answer_of r) ≡ some n → ok_count r ≡ 0
no_made (Ok Done) n e = none_some e
no_made (Ok (Number v)) n e = refl
no_made (Ok (Same b)) n e = refl
no_made (Ok (Shape s)) n e = refl
no_made (Err x) n e = refl

kind_none : (k : CallKind) (r : Result Answer Refusal) → ok_count r ≡ 0 → made_by k r ≡ 0
kind_none coming r e = refl
kind_none working r e = refl
kind_none asks_number r e = refl
kind_none asks_flag r e = refl
kind_none asks_shape r e = refl
kind_none (making k d) r e = e

no_freed : (r : Step) (n : ℕ) → refusal_in (step_answer_of r) ≡ some n → freed_by r ≡ 0
no_freed (step.Waiting x) n e = refl
no_freed step.Moved n e = refl
no_freed step.Traced n e = refl
no_freed (step.Swept s f) n e = none_some e
no_freed step.Done n e = refl
no_freed step.Idle n e = refl
no_freed (step.Refused x) n e = refl

refused_none : (v : Event) (n : ℕ) → event_number v ≡ some n → (made_at v ≡ 0) × (freed_at v ≡ 0)
refused_none (mutator_call c r) n e = (kind_none (kind_of c) r (no_made r n e), refl)
refused_none (start_call r) n e = (refl, refl)
refused_none (step_call r) n e = (refl, no_freed r n e)
refused_none (opening_call r) n e = (refl, refl)
refused_none (look_call l) n e = (refl, refl)

-- ---- a step

moves_free : (n : ℕ) (m : Mem) (p : Phase) → freed_of (moved_or_waiting n m p).0 ≡ 0
moves_free zero m p = refl
moves_free (suc n) m p = refl

traces_free : (g : Geometry) (n : ℕ) (m : Mem) → freed_of (traces g n m).0 ≡ 0
traces_free g zero m = refl
traces_free g (suc n) m = refl

module _ (g : Geometry) (m : Mem) (s : Sizes g m) (c : Consistent g m) where
  same_use : (m' : Mem) → SameHeap m m' → blocks_in_use g m ≡ blocks_in_use g m'
  same_use m' e = sum_same (in_use g m') (in_use g m) g.segments
      (λ q l. sym (in_use-by g m m' q (untouched_same m m' q e.segments) (bitmap_by g m m' e.bitmaps q)))

  -- the sweep of segment r
  module _ (ph : phase m ≡ sweep) (r : ℕ) (e : lowest m g.segments ≡ some r) where
    order : Ordered g m
    order = consistent_ordered g m c

    found : (r < g.segments) × (tag m r ≡ Tag.condemned)
    found = found_condemned m g.segments r e

    others : (q : ℕ) → q < g.segments → (q ≡ r → ⊥) → in_use g (swept g m r) q ≡ in_use g m q
    unfolding swept set_control
    others q l f = let o = (settled_outcome g m s order r found.0 found.1).left in in_use-by g m (swept g m r) q (untouched_as refl (o.other q f)) (o.bitmaps q f)

    fewer : in_use g (swept g m r) r ≤ in_use g m r
    fewer =
        let u = swept_use g m s r found.0 ((c.sound.segments r found.0).classes (λ z. let t = found.1 in omega arith)) in
        let k = marked_le g m s order ph r found.0 found.1 in
        omega arith

    swept_balance : blocks_in_use g m ≡ blocks_in_use g (swept g m r) + (in_use g m r - in_use g (swept g m r) r)
    swept_balance =
        let z = sum-change (in_use g m) (in_use g (swept g m r)) g.segments r found.0 others in
        let l = fewer in
        omega arith

  -- the answer of a step and what it leaves, by the phase
  abbrev Frees : theory.Answer × Mem → Type 0
  Frees r = blocks_in_use g m ≡ blocks_in_use g r.1 + freed_of r.0

  frees_none : (r : theory.Answer × Mem) → SameHeap m r.1 → freed_of r.0 ≡ 0 → Frees r
  frees_none r e f = let u = same_use r.1 e in omega arith

  by_segment : phase m ≡ sweep → (o : Option ℕ) → lowest m g.segments ≡ o → Frees (sweeps g o m)
  by_segment ph none e = frees_none (sweeps g none m) (leaves_control m 0 (phase_number idle)) refl
  by_segment ph (some r) e = swept_balance ph r e

  step_balance : Frees (step_of g m)
  unfolding step_of
  step_balance = go (phase m) refl
    where
      quiet : (p : Phase) → phase m ≡ p → (p ≡ sweep → ⊥) → freed_of (step_in p g m).0 ≡ 0 → Frees (step_in p g m)
      quiet p e f z = frees_none (step_in p g m) (subst (λ x. SameHeap m (step_in x g m).1) e (leaves_unswept g m (λ y. absurd (f (sym e ∙ y))))) z

      go : (p : Phase) → phase m ≡ p → Frees (step_in p g m)
      go idle e = frees_none (step_in idle g m) (same_self m) refl
      go sync1 e =
          quiet sync1 e (λ z. let w : ◌≡◌ {A = ℕ} 1 4 = ap phase_number z in omega arith)
          (moves_free (waiting (outside_answered g m mutator_count) mutator_count) (outside_answered g m mutator_count) sync2)
      go sync2 e =
          quiet sync2 e (λ z. let w : ◌≡◌ {A = ℕ} 2 4 = ap phase_number z in omega arith)
          (moves_free (waiting (outside_answered g m mutator_count) mutator_count) (outside_answered g m mutator_count) mark)
      go mark e = quiet mark e (λ z. let w : ◌≡◌ {A = ℕ} 3 4 = ap phase_number z in omega arith) (traces_free g (trace_count m) m)
      go sweep e = by_segment e (lowest m g.segments) refl

-- ---- every element

-- what an event takes from the blocks in use before and gives to those after
abbrev Balanced : Geometry → Mem → Mem → Event → Type 0
Balanced g m m' v = blocks_in_use g m + made_at v ≡ blocks_in_use g m' + freed_at v

by_kind : (g : Geometry) (m m' : Mem) → Consistent g m → Consistent g m' → (k : CallKind) (r : Result Answer Refusal) (x : theory.Answer × Mem) → answer_of r ≡ x.0 → m' ≡ x.1
    → CountsBy k g m x → blocks_in_use g m + made_by k r ≡ blocks_in_use g m' + 0
by_kind g m m' c c' k r x e f h = go k h
  where
    stays : AllStay m x.1 → blocks_in_use g m + 0 ≡ blocks_in_use g m' + 0
    stays q = ap (λ z. z + 0) (by_stay g m m' c c' (subst (AllStay m) (sym f) q))

    ok : ok_count r ≡ ok_of x.0
    ok = ok_is r ∙ ap ok_of e

    one : MakesOne g m x → blocks_in_use g m + ok_count r ≡ blocks_in_use g m' + 0
    one (inl (a, q)) = let y = by_one g m m' c c' (subst (OneMore g m) (sym f) q) in let z = ok in omega arith
    one (inr (a, q)) = let y = ap (blocks_in_use g) (f ∙ q) in let z = ok in omega arith

    go : (k : CallKind) → CountsBy k g m x → blocks_in_use g m + made_by k r ≡ blocks_in_use g m' + 0
    go coming q = stays q
    go working q = stays q
    go asks_number q = stays q
    go asks_flag q = stays q
    go asks_shape q = stays q
    go (making i d) q = one q

acts_balance : (g : Geometry) (m m' : Mem) → Sizes g m → Consistent g m → Consistent g m' → (v : Event) → Acts g m m' v → Balanced g m m' v
acts_balance g m m' s c c' v (wrong e h) = let a = refused_none v 1 e in let x = a.0 in let y = a.1 in let z = ap (blocks_in_use g) h in omega arith
acts_balance g m m' s c c' v (looks h) = ap (λ x. blocks_in_use g x + 0) (sym h)
acts_balance g m m' s c c' v (calls {c = k} {r = r} e h) = by_kind g m m' c c' (kind_of k) r (exec g m k) e h (counts_exec g m s c k)
acts_balance g m m' s c c' v (starts i o h) = ap (λ x. x + 0) (by_stay g m m' c c' (λ q. subst (λ x. CountsStay m x q) (sym h) ((begun g m s).segments q).counts))
acts_balance g m m' s c c' v (start_refused e h) = ap (λ x. blocks_in_use g x + 0) (sym h)
acts_balance g m m' s c c' v (steps {r = r} e h) =
    let a = step_balance g m s c in
    let b = freed_is r ∙ ap freed_of e in
    let d = ap (blocks_in_use g) h in
    omega arith

-- ---- lists

pub balance : Balance
balance g words [] right c k = refl
balance g words (e ∷ es) right c (meets, long, gets, rest) =
    let n = every_element g words e right c meets long gets in
    let one = acts_balance g (mem_of g words) (mem_of g (next_words words e)) (sizes_of g words (sized g (length words) right)) c n.consistent e.event n.acts in
    let others = balance g (next_words words e) es n.sized n.consistent rest in
    omega arith

-- an opening leaves every segment free
none_in_use : (g : Geometry) (content words : List ℕ) → Opened g content words → blocks_in_use g (mem_of g words) ≡ 0
none_in_use g content words o = ap (blocks_in_use g) (o.opening.exact o.sized).1 ∙ sum_is (in_use g m) g.segments ∙ no_ones (in_use g m) g.segments none_used
  where
    m : Mem
    m = opened g (mem_of g content)

    none_used : (s : ℕ) → s < g.segments → in_use g m s ≡ 0
    none_used s l = ap (λ (x : Bool). pick x 0 (ones_among (used_bit g m s) (blocks_in g (class m s)))) (eq-eqb (tag m s) Tag.free (opened_segment g (mem_of g content) (s * segment_record_words + tag_at)))

pub totals : Totals
totals g words w es (by_opening {content = content} o) k =
    let p = opened_point g content words o in
    let b = balance g words es (right_size g (length words) p.long) p.consistent k in
    let z = none_in_use g content words o in
    omega arith
