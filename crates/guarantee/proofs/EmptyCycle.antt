-- The cycle over no segments: from its start on no segment is condemned, and the heap is the one that the mutators' calls would have made in idle.
use mathlib.Core.Path.{◌≡◌, refl, sym, ◌∙◌, ap, subst}
use mathlib.Core.Logic.{◌⊎◌, inl, inr}
use mathlib.Core.Bool.{Bool, true, false, ◌&&◌, true≢false}
use mathlib.Core.Option.{Option, none, some, map, none-ne-some, some-injective}
use mathlib.Core.List.{List, [], ◌∷◌, ◌++◌}
use Prim.Native.Nat.{ℕ, zero, suc, ◌-◌}
use native.Mathlib.Omega.{arith}
use lib.Dec.{eqb}
use lib.ListN.{length}
use borrow.Author.Tests.{eqb-true, eq-eqb, ne_eqb}
use Rattle.std.specs.Prelude.{Result, Ok}
use Rattle.basics.specs.Pick.{pick}
use Rattle.classes.specs.Class.{IsClass}
use Rattle.layout.specs.declared.Geometry.{Geometry}
use Rattle.layout.specs.Geometry.{wrong_size, mutator_count}
use Rattle.layout.specs.Mem.{Mem, mem_of, Sizes, trace_word}
use Rattle.layout.proofs.Regions.{sized}
use Rattle.theory.specs.Phases.{Phase, idle, sync1, sync2, mark, sweep, in_handshake}
use Rattle.theory.specs.Calls.{Call, a_ok, a_done}
use Rattle.model.specs.declared.Answer.{Answer}
use Rattle.model.specs.declared.Refusal.{Refusal}
use Rattle.model.specs.declared.Step.{Step}
use Rattle.model.specs.declared.Step.TheVariants.{Waiting, Moved, Traced, Swept, Done, Idle, Refused}
use Rattle.model.specs.Answers.{answer_of, refusal_of}
use Rattle.model.specs.Fields.{phase, trace_count, tag, class}
use Rattle.model.specs.Segments.{part_stack, count}
use Rattle.model.specs.Calls.{exec}
use Rattle.model.specs.Collector.{collects, started, start_in, start_of, outside_answered, waiting, moved_or_waiting, traces, lowest, sweeps, step_in, step_of}
use Rattle.model.specs.Consistent.{Consistent, is_part}
use Rattle.model.specs.Lists.{Event, mutator_call, start_call, step_call, opening_call, look_call, Element, start_element, Promised, Meets, KeepsLength}
use Rattle.model.specs.Lists.{Gets, wrong_sized, event_number, next_words, Chain, words_after, prepend, struck, remaining_call, remaining_calls, remaining_answers}
use Rattle.model.specs.Run.{declared_step}
use Rattle.model.proofs.Collecting.{collected_used, part_collected}
use Rattle.model_laws.proofs.Lengths.{sizes_of}
use Rattle.model_laws.proofs.Lowest.{found_condemned}
use Rattle.model_laws.proofs.Segments.{in_range}
use Rattle.model_laws.proofs.Stacks.{none_stacked}
use Rattle.refine_run.proofs.Collecting.{sizes_answered}
use Rattle.refine_run.proofs.Elements.{size_number, is_over, ahead}
use Rattle.idle_twin.specs.SameHeap.{SameHeap, AsInIdle, not_now, same}
use Rattle.idle_twin.proofs.Same.{same_self, same_then, same_back}
use Rattle.idle_twin.proofs.Calls.{every_call}
use Rattle.idle_twin.proofs.Cycle.{leaves_started, leaves_step}
use Rattle.idle_twin.proofs.Phase.{phase_stays, phase_outside, phase_traced, phase_set}
use Rattle.guarantee.specs.Elements.{Acts, wrong, looks, calls, starts, start_refused, steps}
use Rattle.guarantee.specs.Keeping.{NeverSwept}
use Rattle.guarantee.specs.EmptyCycle.{heap_answers, left_out, OverNothing, StepsIn, following, stepped_to, phase_by, phase_after, EveryEmptyCycle, IdleAccepts}
use Rattle.theory.proofs.Invariant.{none_some}
use Rattle.guarantee.proofs.AllRefine.{all_refine}
use Rattle.guarantee.proofs.Numbers.{to_number, of_number, is_ok}
use Rattle.guarantee.proofs.Refused.{exec_same}
use Rattle.guarantee.proofs.NotNow.{handshakes_only}
use Rattle.guarantee.proofs.Elements.{every_element, not_refused}
use Rattle.guarantee.proofs.Cycle.{accepted}
use Rattle.guarantee.proofs.Condemned.{step_of_lem, stays_condemned, swept_condemned, start_condemned}
use Rattle.guarantee.proofs.Stepping.{step_fits}
use Rattle.guarantee.proofs.Growing.{Grows, grows_self, grows_then, grows_frees, grows_same, grows_exec}
use Rattle.guarantee.proofs.SweptOnce.{IsSweep, never_none, never_more, NoStart, no_start_lem, no_later}
use Rattle.model.specs.Tag as Tag
use Rattle.model.specs.declared.Answer.TheVariants as call_answer

module _ (g : Geometry) where
  -- ---- one memory: nothing is condemned, and the heap is that of a memory in idle

  abbrev NoneCondemned : Mem → Type 0
  NoneCondemned m = (s : ℕ) → tag m s ≡ Tag.condemned → ⊥

  nothing_lowest : (m : Mem) → NoneCondemned m → lowest m g.segments ≡ none
  nothing_lowest m n = go (lowest m g.segments) refl
    where
      go : (o : Option ℕ) → lowest m g.segments ≡ o → lowest m g.segments ≡ none
      go none e = e
      go (some s) e = absurd (n s (found_condemned m g.segments s e).1)

  record Quiet (words : List ℕ) (idle_mem : Mem) : Type 0 where
    right : wrong_size g (length words) ≡ false
    consistent : Consistent g (mem_of g words)
    uncondemned : NoneCondemned (mem_of g words)
    heap : SameHeap (mem_of g words) idle_mem
    phase : phase idle_mem ≡ idle

  sizes : (words : List ℕ) → wrong_size g (length words) ≡ false → Sizes g (mem_of g words)
  sizes words r = sizes_of g words (sized g (length words) r)

  -- ---- one event

  -- the memory in idle after a call that is compared
  abbrev after? : Mem → Option (Call × Result Answer Refusal) → Mem
  after? h none = h
  after? h (some x) = (exec g h x.0).1

  record Follows (m m' h : Mem) (v : Event) : Type 0 where
    heap : SameHeap m' (after? h (remaining_call left_out v))
    phase : phase (after? h (remaining_call left_out v)) ≡ idle
    answer : (x : Call × Result Answer Refusal) → remaining_call left_out v ≡ some x → answer_of x.1 ≡ (exec g h x.0).0
    grows : Grows g m m'

  module _ (m h : Mem) (z : Sizes g m) (k : Consistent g m) (n : NoneCondemned m) (e : SameHeap m h) (i : phase h ≡ idle) where
    -- an event that is not compared and leaves the same heap
    aside : (m' : Mem) (v : Event) → remaining_call left_out v ≡ none → SameHeap m m' → Follows m m' h v
    aside m' v q x = record {
      heap = subst (λ o. SameHeap m' (after? h o)) (sym q) (same_then m' m h (same_back m m' x) e);
      phase = subst (λ o. phase (after? h o) ≡ idle) (sym q) i;
      answer = λ x f. absurd (none-ne-some x (sym q ∙ f));
      grows = grows_same g m m' x;
    }

    unmoved : (m' : Mem) (v : Event) → remaining_call left_out v ≡ none → m' ≡ m → Follows m m' h v
    unmoved m' v q x = aside m' v q (subst (SameHeap m) (sym x) (same_self m))

    -- refused 1
    out_1 : (v : Event) → event_number v ≡ some 1 → remaining_call left_out v ≡ none
    out_1 (mutator_call c r) q = ap (λ o. pick (struck left_out o) none (some (c, r))) q
    out_1 (start_call r) q = refl
    out_1 (step_call r) q = refl
    out_1 (opening_call r) q = refl
    out_1 (look_call l) q = refl

    module _ (c : Call) (r : Result Answer Refusal) (m' : Mem) (a : answer_of r ≡ (exec g m c).0) (x : m' ≡ (exec g m c).1) where
      -- a number that is left out changes nothing
      left_out_lem : (j : ℕ) → refusal_of r ≡ some j → left_out j ≡ true → Follows m m' h (mutator_call c r)
      left_out_lem j q t =
          unmoved m' (mutator_call c r) (ap (λ o. pick (struck left_out o) none (some (c, r))) q ∙ ap (λ b. pick b none (some (c, r))) t)
          (x ∙ exec_same g m c j (sym a ∙ of_number r j q))

      compared : (exec g m c).0 ≡ (exec g h c).0 → SameHeap (exec g m c).1 (exec g h c).1 → struck left_out (refusal_of r) ≡ false → Follows m m' h (mutator_call c r)
      compared b y t =
          let q : remaining_call left_out (mutator_call c r) ≡ some (c, r) = ap (λ b. pick b none (some (c, r))) t in
          record {
            heap = subst (λ o. SameHeap m' (after? h o)) (sym q) (subst (λ w. SameHeap w (exec g h c).1) (sym x) y);
            phase = subst (λ o. phase (after? h o) ≡ idle) (sym q) (phase_stays g h c ∙ i);
            answer = λ w f. subst (λ w. answer_of w.1 ≡ (exec g h w.0).0) (some-injective (c, r) w (sym q ∙ f)) (a ∙ b);
            grows = subst (Grows g m) (sym x) (grows_exec g m z k c);
          }

      called : AsInIdle g m h c → Follows m m' h (mutator_call c r)
      called (not_now b y) = left_out_lem 11 (to_number r 11 (a ∙ ap (λ w. w.0) y)) refl
      called (same b y) = go (refusal_of r) refl
        where
          number : (j : ℕ) → refusal_of r ≡ some j → (t : Bool) → left_out j ≡ t → Follows m m' h (mutator_call c r)
          number j q true t = left_out_lem j q t
          number j q false t = compared b y (ap (struck left_out) q ∙ t)

          go : (o : Option ℕ) → refusal_of r ≡ o → Follows m m' h (mutator_call c r)
          go none q = compared b y (ap (struck left_out) q)
          go (some j) q = number j q (left_out j) refl

    follows : (m' : Mem) (v : Event) → Acts g m m' v → (v ≡ start_call (Ok call_answer.Done) → ⊥) → Follows m m' h v
    follows m' v (wrong q x) f = unmoved m' v (out_1 v q) x
    follows m' v (looks x) f = unmoved m' _ refl x
    follows m' v (calls {c = c} {r = r} a x) f = called c r m' a x (every_call g m h z e i c)
    follows m' v (starts p o x) f = absurd (f refl)
    follows m' v (start_refused q x) f = unmoved m' _ refl x
    follows m' v (steps a x) f = aside m' _ refl (subst (SameHeap m) (sym x) (leaves_step g m (nothing_lowest m n)))

    -- the phase after a step, by its answer
    step_phase : phase (step_of g m).1 ≡ stepped_to (phase m) (declared_step (step_of g m).0)
    unfolding step_of
    step_phase = go (phase m) refl
      where
        answered : Mem
        answered = outside_answered g m mutator_count

        handshake : (p : Phase) → phase m ≡ p → (n : ℕ) → phase (moved_or_waiting n answered (following p)).1 ≡ stepped_to p (declared_step (moved_or_waiting n answered (following p)).0)
        handshake p q zero = phase_set g answered (sizes_answered g m z mutator_count) (following p)
        handshake p q (suc n) = phase_outside g m mutator_count ∙ q

        marking : phase m ≡ mark → (n : ℕ) → phase (traces g n m).1 ≡ stepped_to mark (declared_step (traces g n m).0)
        marking q zero = phase_set g m z sweep
        marking q (suc n) = phase_traced g m (trace_word m n - 1) ∙ q

        go : (p : Phase) → phase m ≡ p → phase (step_in p g m).1 ≡ stepped_to p (declared_step (step_in p g m).0)
        go idle q = q
        go sync1 q = handshake sync1 q (waiting answered mutator_count)
        go sync2 q = handshake sync2 q (waiting answered mutator_count)
        go mark q = marking q (trace_count m)
        go sweep q = subst (λ o. phase (sweeps g o m).1 ≡ stepped_to sweep (declared_step (sweeps g o m).0)) (sym (nothing_lowest m n)) (phase_set g m z idle)

    -- refused, an event changes no phase
    refused_phase : (v : Event) (x : ℕ) → event_number v ≡ some x → (p : Phase) → p ≡ phase_by p v
    refused_phase (mutator_call c r) x q p = refl
    refused_phase (start_call r) x q p = refl
    refused_phase (opening_call r) x q p = refl
    refused_phase (look_call l) x q p = refl
    refused_phase (step_call (Waiting n)) x q p = refl
    refused_phase (step_call Moved) x q p = none_some q
    refused_phase (step_call Traced) x q p = refl
    refused_phase (step_call (Swept s f)) x q p = refl
    refused_phase (step_call Done) x q p = none_some q
    refused_phase (step_call Idle) x q p = refl
    refused_phase (step_call (Refused n)) x q p = refl

    next_phase : (m' : Mem) (v : Event) → Acts g m m' v → (v ≡ start_call (Ok call_answer.Done) → ⊥) → phase m' ≡ phase_by (phase m) v
    next_phase m' v (wrong q x) f = ap phase x ∙ refused_phase v 1 q (phase m)
    next_phase m' v (looks x) f = ap phase x
    next_phase m' v (calls {c = c} a x) f = ap phase x ∙ phase_stays g m c
    next_phase m' v (starts b o x) f = absurd (f refl)
    next_phase m' v (start_refused q x) f = ap phase x
    next_phase m' v (steps {r = r} a x) f = ap phase x ∙ step_phase ∙ ap (stepped_to (phase m)) (ap declared_step (sym a) ∙ step_of_lem r)

    never_sweep : (m' : Mem) (v : Event) → Acts g m m' v → (s f : ℕ) → v ≡ step_call (Swept s f) → ⊥
    never_sweep m' v a s f q = n s (eqb-true _ _ (swept_condemned g m z k s m' f (subst (Acts g m m') q a)).0)

    still_none : (m' : Mem) (v : Event) → Acts g m m' v → (v ≡ start_call (Ok call_answer.Done) → ⊥) → NoneCondemned m'
    still_none m' v a f s q = n s (eqb-true _ _ (sym (stays_condemned g m z k s m' v a f (λ b y. never_sweep m' v a s b y)) ∙ eq-eqb _ _ q))

  -- ---- one element

  record Passes (words : List ℕ) (h : Mem) (e : Element) : Type 0 where
    quiet : Quiet (next_words words e) (after? h (remaining_call left_out e.event))
    answer : (x : Call × Result Answer Refusal) → remaining_call left_out e.event ≡ some x → answer_of x.1 ≡ (exec g h x.0).0
    grows : Grows g (mem_of g words) (mem_of g (next_words words e))
    unswept : (s : ℕ) → IsSweep s e → ⊥
    next : phase (mem_of g (next_words words e)) ≡ phase_by (phase (mem_of g words)) e.event

  pass : (words : List ℕ) (h : Mem) (e : Element) → Quiet words h → Meets e → KeepsLength e → (wrong_sized e ≡ true) ⊎ Gets g words e
      → (e.event ≡ start_call (Ok call_answer.Done) → ⊥) → Passes words h e
  pass words h e q a l x f =
      let o = every_element g words e q.right q.consistent a l x in
      let z = sizes words q.right in
      let w = follows (mem_of g words) h z q.consistent q.uncondemned q.heap q.phase (mem_of g (next_words words e)) e.event o.acts f in
      record {
        quiet = record {
          right = o.sized;
          consistent = o.consistent;
          uncondemned = still_none (mem_of g words) h z q.consistent q.uncondemned q.heap q.phase (mem_of g (next_words words e)) e.event o.acts f;
          heap = w.heap;
          phase = w.phase;
        };
        answer = w.answer;
        grows = w.grows;
        unswept = λ s y. never_sweep (mem_of g words) h z q.consistent q.uncondemned q.heap q.phase (mem_of g (next_words words e)) e.event o.acts s y.0 y.1;
        next = next_phase (mem_of g words) h z q.consistent q.uncondemned q.heap q.phase (mem_of g (next_words words e)) e.event o.acts f;
      }

  -- ---- along a list

  -- the memory in idle after the calls that are compared
  abbrev idle_after : Mem → List Element → Mem
  idle_after h [] = h
  idle_after h (e ∷ es) = idle_after (after? h (remaining_call left_out e.event)) es

  record Walked (words : List ℕ) (h : Mem) (xs ys : List Element) : Type 0 where
    quiet : Quiet (words_after words xs) (idle_after h xs)
    chain : Chain g (words_after words xs) ys
    no_start : NoStart g ys
    grows : Grows g (mem_of g words) (mem_of g (words_after words xs))
    phases : phase (mem_of g (words_after words xs)) ≡ phase_after (phase (mem_of g words)) xs

  walk_quiet : (xs ys : List Element) (words : List ℕ) (h : Mem) → Quiet words h → NoStart g (xs ++ ys) → Chain g words (xs ++ ys) → Walked words h xs ys
  walk_quiet [] ys words h q n c = record { quiet = q; chain = c; no_start = n; grows = grows_self g (mem_of g words); phases = refl }
  walk_quiet (e ∷ xs) ys words h q n c =
      let p = pass words h e q c.0 c.1 c.2 (no_start_lem g words e (xs ++ ys) n c.0 c.2) in
      let w = walk_quiet xs ys (next_words words e) (after? h (remaining_call left_out e.event)) p.quiet (no_later g e (xs ++ ys) n) c.3 in
      record {
        quiet = w.quiet;
        chain = w.chain;
        no_start = w.no_start;
        grows = grows_then g (mem_of g words) (mem_of g (next_words words e)) (mem_of g (words_after (next_words words e) xs)) p.grows w.grows;
        phases = w.phases ∙ ap (λ p. phase_after p xs) p.next;
      }

  answers_quiet : (ds : List Element) (words : List ℕ) (h : Mem) → Quiet words h → NoStart g ds → Chain g words ds → remaining_answers left_out ds ≡ heap_answers g h (remaining_calls left_out ds)
  answers_quiet [] words h q n c = refl
  answers_quiet (e ∷ ds) words h q n c =
      let p = pass words h e q c.0 c.1 c.2 (no_start_lem g words e ds n c.0 c.2) in
      one (remaining_call left_out e.event) p.answer (answers_quiet ds (next_words words e) (after? h (remaining_call left_out e.event)) p.quiet (no_later g e ds n) c.3)
    where
      one : (o : Option (Call × Result Answer Refusal)) → ((x : Call × Result Answer Refusal) → o ≡ some x → answer_of x.1 ≡ (exec g h x.0).0)
          → remaining_answers left_out ds ≡ heap_answers g (after? h o) (remaining_calls left_out ds)
          → prepend (map (λ x. answer_of x.1) o) (remaining_answers left_out ds) ≡ heap_answers g h (prepend (map (λ x. x.0) o) (remaining_calls left_out ds))
      one none f ih = ih
      one (some x) f ih = λ j. f x refl j ∷ ih j

  never_quiet : (s : ℕ) (ds : List Element) (words : List ℕ) (h : Mem) → Quiet words h → NoStart g ds → Chain g words ds → NeverSwept s ds
  never_quiet s [] words h q n c = never_none s
  never_quiet s (e ∷ ds) words h q n c =
      let p = pass words h e q c.0 c.1 c.2 (no_start_lem g words e ds n c.0 c.2) in
      never_more s e ds (p.unswept s) (never_quiet s ds (next_words words e) (after? h (remaining_call left_out e.event)) p.quiet (no_later g e ds n) c.3)

  -- ---- the start

  record Started (words after : List ℕ) (ds : List Element) : Type 0 where
    memory : mem_of g after ≡ started g (mem_of g words)
    first : phase (mem_of g after) ≡ sync1
    quiet : Quiet after (mem_of g words)
    chain : Chain g after ds
    grows : Grows g (mem_of g words) (mem_of g after)
    next_words-is : next_words words (start_element g words (Ok call_answer.Done) after) ≡ after

  begun : (words after : List ℕ) (ds : List Element) → OverNothing g words after ds → Started words after ds
  begun words after ds p =
      let m : Mem = mem_of g words in
      let e : Element = start_element g words (Ok call_answer.Done) after in
      let c = p.chain in
      let w : next_words words e ≡ after = ahead g words e c.0 (not_refused g words e c.0 refl c.2) in
      let o = every_element g words e p.sized p.consistent c.0 c.1 c.2 in
      let z = sizes words p.sized in
      let a = accepted g m _ o.acts in
      let y : mem_of g after ≡ started g m = ap (mem_of g) (sym w) ∙ a.1 in
      let q : SameHeap m (mem_of g after) = subst (SameHeap m) (sym y) (leaves_started g m p.nothing no_parts) in
      record {
        memory = y;
        first = ap phase y ∙ (all_refine.starts g m z p.consistent a.0).agree.phase;
        quiet = record {
          right = subst (λ x. wrong_size g (length x) ≡ false) w o.sized;
          consistent = subst (λ x. Consistent g (mem_of g x)) w o.consistent;
          uncondemned = λ s t. none_collected s (sym (start_condemned g m z p.consistent s a.0) ∙ ap (λ x. eqb (tag x s) Tag.condemned) (sym y) ∙ eq-eqb _ _ t);
          heap = same_back m (mem_of g after) q;
          phase = a.0;
        };
        chain = subst (λ x. Chain g x ds) w c.3;
        grows = grows_same g m (mem_of g after) q;
        next_words-is = w;
      }
    where
      none_collected : (s : ℕ) → collects (mem_of g words) s ≡ true → ⊥
      none_collected s t = true≢false (sym t ∙ p.nothing s (in_range g (mem_of g words) (sizes words p.sized) s (collected_used (mem_of g words) s t)))

      -- so no part stack has an entry
      no_parts : (c : ℕ) → IsClass c → count g (mem_of g words) (part_stack c) ≡ 0
      no_parts c k =
          none_stacked g (mem_of g words) (part_stack c) (is_part (mem_of g words) c)
          (λ s l. ap (λ x. x && eqb (class (mem_of g words) s) c) (ne_eqb _ _ (λ t. true≢false (sym (part_collected (mem_of g words) s t) ∙ p.nothing s l))))
          (p.consistent.summed.part_segments c k)

  -- ---- a step in sweep, and a refusal 11

  lent : (words : List ℕ) (e : Element) → (wrong_sized e ≡ true → ⊥) → (wrong_sized e ≡ true) ⊎ Gets g words e → Gets g words e
  lent words e f (inl h) = absurd (f h)
  lent words e f (inr h) = h

  promised : (words : List ℕ) (e : Element) (v : Event) → e.event ≡ v → Meets e → Gets g words e → Promised v g words e.after
  promised words e v i q h = subst (λ v. Promised v g words e.after) i (subst Meets (is_over g words e h) q)

  sweep_done : (m : Mem) → NoneCondemned m → phase m ≡ sweep → (step_of g m).0 ≡ a_done
  unfolding step_of
  sweep_done m n p = ap (λ p. (step_in p g m).0) p ∙ ap (λ o. (sweeps g o m).0) (nothing_lowest m n)

  idle_starts : (m : Mem) → phase m ≡ idle → (start_of g m).0 ≡ a_ok
  unfolding start_of
  idle_starts m p = ap (λ p. (start_in p g m).0) p

  module _ (words after : List ℕ) (ds : List Element) (p : OverNothing g words after ds) where
    at_point : (xs ys : List Element) → ds ≡ xs ++ ys → Walked after (mem_of g words) xs ys
    at_point xs ys i = let o = begun words after ds p in walk_quiet xs ys after (mem_of g words) o.quiet (subst (NoStart g) i p.one_start) (subst (Chain g after) i o.chain)

    phases_held : (xs ys : List Element) → ds ≡ xs ++ ys → phase (mem_of g (words_after after xs)) ≡ phase_after sync1 xs
    phases_held xs ys i = (at_point xs ys i).phases ∙ ap (λ p. phase_after p xs) (begun words after ds p).first

    -- a step that is lent the list's memory answers as the definition does
    lent_step : (xs ys : List Element) (e : Element) (r : Step) → ds ≡ xs ++ (e ∷ ys) → e.event ≡ step_call r → wrong_sized e ≡ false → declared_step (step_of g (mem_of g (words_after after xs))).0 ≡ r
    lent_step xs ys e r i j k =
        let w = at_point xs (e ∷ ys) i in
        let h = lent (words_after after xs) e (λ t. true≢false (sym t ∙ k)) w.chain.2 in
        let a = (promised (words_after after xs) e (step_call r) j w.chain.0 h).exact w.quiet.right w.quiet.consistent in
        ap declared_step (sym a.0) ∙ step_of_lem r

    steps_held : (xs ys : List Element) (e : Element) (r : Step) → ds ≡ xs ++ (e ∷ ys) → e.event ≡ step_call r → wrong_sized e ≡ false
        → StepsIn (mem_of g (words_after after xs)) (phase (mem_of g (words_after after xs))) r
    steps_held xs ys e r i j k =
        let q = (at_point xs (e ∷ ys) i).quiet in
        let m : Mem = mem_of g (words_after after xs) in
        subst (StepsIn m (phase m)) (lent_step xs ys e r i j k) (step_fits g m (sizes (words_after after xs) q.right) (nothing_lowest m q.uncondemned))

    step_done : (xs ys : List Element) (e : Element) (r : Step) → ds ≡ xs ++ (e ∷ ys) → e.event ≡ step_call r → wrong_sized e ≡ false → phase (mem_of g (words_after after xs)) ≡ sweep → r ≡ Done
    step_done xs ys e r i j k l = sym (lent_step xs ys e r i j k) ∙ ap declared_step (sweep_done (mem_of g (words_after after xs)) (at_point xs (e ∷ ys) i).quiet.uncondemned l)

    refused_11 : (xs ys : List Element) (e : Element) (c : Call) (r : Result Answer Refusal) → ds ≡ xs ++ (e ∷ ys) → e.event ≡ mutator_call c r
        → refusal_of r ≡ some 11 → in_handshake (phase (mem_of g (words_after after xs))) ≡ true
    refused_11 xs ys e c r i j k =
        let w = at_point xs (e ∷ ys) i in
        let h = lent (words_after after xs) e (λ t. let y = some-injective 1 11 (sym (size_number e w.chain.0 t) ∙ ap event_number j ∙ k) in omega arith) w.chain.2 in
        let q = promised (words_after after xs) e (mutator_call c r) j w.chain.0 h in
        let a = q.exact w.quiet.right w.quiet.consistent in
        handshakes_only g (mem_of g (words_after after xs)) c (q.allowed 11 k) (sym a.0 ∙ of_number r 11 k)

    grows_between : (xs ys zs : List Element) → start_element g words (Ok call_answer.Done) after ∷ ds ≡ xs ++ (ys ++ zs)
        → Grows g (mem_of g (words_after words xs)) (mem_of g (words_after (words_after words xs) ys))
    grows_between [] [] zs i = grows_self g (mem_of g words)
    grows_between [] (y ∷ ys) zs i =
        let a : start_element g words (Ok call_answer.Done) after ≡ y = cc in
        let b : ds ≡ ys ++ zs = cc in
        let o = begun words after ds p in
        let t : next_words words y ≡ after = ap (next_words words) (sym a) ∙ o.next_words-is in
        subst (λ u. Grows g (mem_of g words) (mem_of g (words_after u ys))) (sym t) (grows_then g (mem_of g words) (mem_of g after) (mem_of g (words_after after ys)) o.grows (at_point ys zs b).grows)
    grows_between (x ∷ xs) ys zs i =
        let a : start_element g words (Ok call_answer.Done) after ≡ x = cc in
        let b : ds ≡ xs ++ (ys ++ zs) = cc in
        let w = at_point xs (ys ++ zs) b in
        let t : next_words words x ≡ after = ap (next_words words) (sym a) ∙ (begun words after ds p).next_words-is in
        subst (λ u. Grows g (mem_of g (words_after u xs)) (mem_of g (words_after (words_after u xs) ys))) (sym t)
        (walk_quiet ys zs (words_after after xs) (idle_after (mem_of g words) xs) w.quiet w.no_start w.chain).grows

pub empty_cycle : EveryEmptyCycle
empty_cycle g words after ds p =
    let o = begun g words after ds p in
    record {
      opens = (o.quiet.phase, o.memory);
      steps = steps_held g words after ds p;
      phases = phases_held g words after ds p;
      done = step_done g words after ds p;
      no_swept = λ s. never_quiet g s ds after (mem_of g words) o.quiet p.one_start o.chain;
      frees = λ xs ys zs i. grows_frees g _ _ (grows_between g words after ds p xs ys zs i);
      as_in_idle = answers_quiet g ds after (mem_of g words) o.quiet p.one_start o.chain;
      not_now = refused_11 g words after ds p;
    }

pub idle_accepts : IdleAccepts
idle_accepts g words after r z k i q = is_ok r ((q.exact z k).0 ∙ idle_starts g (mem_of g words) i)
