-- What an element of a list does to a cycle, from one memory to the next: it leaves phase and condemned segments as they are, and in mark no block more
-- unmarked, or it is a step that moves the cycle on.
use mathlib.Core.Path.{◌≡◌, refl, sym, ◌∙◌, ap, subst}
use mathlib.Core.Option.{Option, none, some}
use Prim.Native.Nat.{ℕ, zero, suc, ◌+◌, ◌-◌, ◌≤◌, ◌<◌}
use native.Mathlib.Omega.{arith}
use Rattle.std.specs.Prelude.{Ok}
use Rattle.basics.specs.Pick.{one_if}
use Rattle.layout.specs.declared.Geometry.{Geometry}
use Rattle.layout.specs.Geometry.{mutator_count, segment_of}
use Rattle.layout.specs.Mem.{Mem, Sizes, trace_word}
use Rattle.theory.specs.Phases.{Phase, idle, sync1, sync2, mark, sweep}
use Rattle.theory.specs.MachineCalls.{sweep_step, step_by}
use Rattle.theory.proofs.Invariant.{none_some}
use Rattle.model.specs.declared.Step.{Step}
use Rattle.model.specs.declared.Step.TheVariants.{Waiting, Moved, Traced, Swept, Done, Idle, Refused}
use Rattle.model.specs.Answers.{step_answer_of}
use Rattle.model.specs.Fields.{phase, trace_count, tag, class}
use Rattle.model.specs.Segments.{used_bit}
use Rattle.model.specs.Records.{marked}
use Rattle.model.specs.Tracing.{traced}
use Rattle.model.specs.Collector.{outside_answered, waiting, moved_or_waiting, lowest, step_in, step_of}
use Rattle.model.specs.Consistent.{Consistent}
use Rattle.model.specs.Lists.{Event, mutator_call, start_call, step_call, opening_call, look_call, event_number}
use Rattle.model.specs.Run.{declared_step}
use Rattle.model_laws.proofs.Words.{Untouched, untouched_same}
use Rattle.model_laws.proofs.Bitmaps.{bitmap_by}
use Rattle.model_laws.proofs.Segments.{in_range, used_same}
use Rattle.model_laws.proofs.Lowest.{found_condemned}
use Rattle.refine_view.specs.View.{view}
use Rattle.refine_run.proofs.Collecting.{sizes_answered}
use Rattle.idle_twin.proofs.Phase.{phase_stays, phase_outside, phase_traced, phase_set}
use Rattle.guarantee.specs.Elements.{Acts, wrong, looks, calls, starts, start_refused, steps}
use Rattle.guarantee.specs.EmptyCycle.{following}
use Rattle.guarantee.proofs.AllRefine.{all_refine}
use Rattle.guarantee.proofs.Condemned.{is_condemned, step_of_lem, stays_condemned, swept_condemned}
use Rattle.guarantee.proofs.Totals.{sum_same, sum-change}
use Rattle.cycle_bound.specs.StepsLeft.{counted_step, counted_at, unmarked_in, condemned_in}
use Rattle.cycle_bound.proofs.Unmarked.{Unmarked, WasUnmarked, was_self}
use Rattle.cycle_bound.proofs.UnmarkedCalls.{was_exec}
use Rattle.cycle_bound.proofs.Counting.{unmarked_less}
use Rattle.cycle_bound.proofs.MarkStep.{segment, block, header, traced_unmarked, traced_marked, traced_same, was_traced}
use Rattle.model.specs.Collector as collector
use Rattle.model.specs.declared.Answer.TheVariants as call_answer

-- a step that traces, in mark before and after
pub record Traces (g : Geometry) (m m' : Mem) : Type 0 where
  pub in_mark : phase m ≡ mark
  pub rest : ℕ
  pub some : trace_count m ≡ suc rest
  pub stays : phase m' ≡ mark
  pub was : WasUnmarked g m m'
  pub fewer : unmarked_in g m' + 1 ≤ unmarked_in g m
  pub tags : (s : ℕ) → tag m' s ≡ tag m s
  pub classes : (s : ℕ) → class m' s ≡ class m s
  pub used : (s b : ℕ) → used_bit g m s b ≡ 1 → used_bit g m' s b ≡ 1
  -- the record that it took is marked now
  pub does : m' ≡ traced g m (trace_word m rest - 1)
  pub taken : marked g m' (trace_word m rest - 1) ≡ 1

pub data Advances (g : Geometry) (m m' : Mem) (v : Event) : Type 0 where
  quiet : counted_at v ≡ 0 → phase m' ≡ phase m → condemned_in g m' ≡ condemned_in g m → (phase m ≡ mark → WasUnmarked g m m') → Advances g m m' v
  moves : v ≡ step_call Moved → (phase m ≡ sweep → ⊥) → phase m' ≡ following (phase m) → condemned_in g m' ≡ condemned_in g m → Advances g m m' v
  traces : v ≡ step_call Traced → Traces g m m' → condemned_in g m' ≡ condemned_in g m → Advances g m m' v
  sweeps : (s f : ℕ) → v ≡ step_call (Swept s f) → phase m ≡ sweep → phase m' ≡ sweep → condemned_in g m' + 1 ≡ condemned_in g m → Advances g m m' v
  ends : v ≡ step_call Done → phase m ≡ sweep → phase m' ≡ idle → Advances g m m' v

-- ---- the condemned segments

module _ (g : Geometry) (m m' : Mem) (z : Sizes g m) (k : Consistent g m) (v : Event) (a : Acts g m m' v) where
  same_condemned : (v ≡ start_call (Ok call_answer.Done) → ⊥) → ((s f : ℕ) → v ≡ step_call (Swept s f) → ⊥) → condemned_in g m' ≡ condemned_in g m
  same_condemned f h = sum_same _ _ g.segments (λ s l. ap one_if (stays_condemned g m z k s m' v a f (h s)))

  one_fewer : (r f : ℕ) → r < g.segments → v ≡ step_call (Swept r f) → condemned_in g m' + 1 ≡ condemned_in g m
  one_fewer r f l e =
      let c = swept_condemned g m z k r m' f (subst (Acts g m m') e a) in
      let x = sum-change (λ s. one_if (is_condemned m s)) (λ s. one_if (is_condemned m' s)) g.segments r l
      (λ s i d. ap one_if (stays_condemned g m z k s m' v a (λ q. other_start (sym e ∙ q)) (λ b q. d (other_swept (sym q ∙ e))))) in
      let y : one_if (is_condemned m r) ≡ 1 = ap one_if c.0 in
      let w : one_if (is_condemned m' r) ≡ 0 = ap one_if c.1 in
      omega arith
    where
      other_start : step_call (Swept r f) ≡ start_call (Ok call_answer.Done) → ⊥
      other_start q = let y : ◌≡◌ {A = ℕ} 0 1 = cc in omega arith

      other_swept : {s b : ℕ} → step_call (Swept s b) ≡ step_call (Swept r f) → s ≡ r
      other_swept q = cc

-- ---- a step

module _ (g : Geometry) (m m' : Mem) (z : Sizes g m) (k : Consistent g m) (r : Step) (a : Acts g m m' (step_call r)) where
  abbrev answered : Mem
  answered = outside_answered g m mutator_count

  -- by its answer: it is no start, and it sweeps nothing
  unswept : ((s f : ℕ) → r ≡ Swept s f → ⊥) → condemned_in g m' ≡ condemned_in g m
  unswept f = same_condemned g m m' z k (step_call r) a (λ q. let y : ◌≡◌ {A = ℕ} 0 1 = cc in omega arith) (λ s b q. f s b cc)

  handshake : (p : Phase) → phase m ≡ p → (p ≡ sweep → ⊥) → (p ≡ mark → ⊥) → (n : ℕ) → r ≡ declared_step (moved_or_waiting n answered (following p)).0
      → m' ≡ (moved_or_waiting n answered (following p)).1 → Advances g m m' (step_call r)
  handshake p e f h zero q x =
      moves (ap step_call q) (λ y. f (sym e ∙ y)) (ap phase x ∙ phase_set g answered (sizes_answered g m z mutator_count) (following p) ∙ ap following (sym e))
      (unswept (λ s b y. let w : Moved ≡ Swept s b = sym q ∙ y in let v : ◌≡◌ {A = ℕ} 0 1 = cc in omega arith))
  handshake p e f h (suc n) q x =
      quiet (ap counted_step q) (ap phase x ∙ phase_outside g m mutator_count)
      (unswept (λ s b y. let w : Waiting (suc n) ≡ Swept s b = sym q ∙ y in let v : ◌≡◌ {A = ℕ} 0 1 = cc in omega arith)) (λ y. absurd (h (sym e ∙ y)))

  marking : phase m ≡ mark → (n : ℕ) → trace_count m ≡ n → r ≡ declared_step (collector.traces g n m).0 → m' ≡ (collector.traces g n m).1 → Advances g m m' (step_call r)
  marking e zero t q x =
      moves (ap step_call q) (λ y. let w : mark ≡ sweep = sym e ∙ y in let v : ◌≡◌ {A = ℕ} 0 1 = cc in omega arith) (ap phase x ∙ phase_set g m z sweep ∙ ap following (sym e))
      (unswept (λ s b y. let w : Moved ≡ Swept s b = sym q ∙ y in let v : ◌≡◌ {A = ℕ} 0 1 = cc in omega arith))
  marking e (suc n) t q x =
      traces (ap step_call q) (subst (Traces g m) (sym x) tracing) (unswept (λ s b y. let w : Traced ≡ Swept s b = sym q ∙ y in let v : ◌≡◌ {A = ℕ} 0 1 = cc in omega arith))
    where
      after : Mem
      after = traced g m (trace_word m n - 1)

      same : (s : ℕ) → Untouched m after s
      same s = untouched_same m after s (traced_same g m z k n t).segments

      u : Unmarked g m (segment g m z k n t) (block g m z k n t)
      u = traced_unmarked g m z k n t

      tracing : Traces g m after
      tracing = record {
        in_mark = e;
        rest = n;
        some = t;
        stays = phase_traced g m (trace_word m n - 1) ∙ e;
        was = was_traced g m z k n t;
        fewer =
            unmarked_less g m after (was_traced g m z k n t) (segment g m z k n t) (block g m z k n t) (in_range g m z (segment g m z k n t) u.in_use.used) u
            (same (segment g m z k n t)).tag (same (segment g m z k n t)).class (traced_marked g m z k n t);
        tags = λ s. (same s).tag;
        classes = λ s. (same s).class;
        used = λ s b q. used_same g m after s b (same s).place (bitmap_by g m after (traced_same g m z k n t).bitmaps s) ∙ q;
        does = refl;
        taken = ap (marked g after) (header g m z k n t) ∙ traced_marked g m z k n t;
      }

  sweeping : phase m ≡ sweep → (o : Option ℕ) → lowest m g.segments ≡ o → r ≡ declared_step (collector.sweeps g o m).0 → m' ≡ (collector.sweeps g o m).1
      → m' ≡ (step_of g m).1 → Advances g m m' (step_call r)
  sweeping e none l q x h = ends (ap step_call q) e (ap phase x ∙ phase_set g m z idle)
  sweeping e (some s) l q x h =
      sweeps _ _ (ap step_call q) e (ap phase h ∙ (all_refine.steps g m z k).moves.agree.phase ∙ as_machine)
      (one_fewer g m m' z k (step_call r) a s _ (found_condemned m g.segments s l).0 (ap step_call q))
    where
      as_machine : (step_by (segment_of g) (λ _. lowest m g.segments) (phase m) (view g m)).phase ≡ sweep
      as_machine =
          ap (λ p. (step_by (segment_of g) (λ _. lowest m g.segments) p (view g m)).phase) e ∙ ap (λ o. (sweep_step (segment_of g) o (view g m)).phase) l ∙ e

  stepped : step_answer_of r ≡ (step_of g m).0 → m' ≡ (step_of g m).1 → (phase m ≡ idle → ⊥) → Advances g m m' (step_call r)
  unfolding step_of
  stepped q x f = go (phase m) refl (sym (step_of_lem r) ∙ ap declared_step q) x
    where
      go : (p : Phase) → phase m ≡ p → r ≡ declared_step (step_in p g m).0 → m' ≡ (step_in p g m).1 → Advances g m m' (step_call r)
      go idle e q y = absurd (f e)
      go sync1 e q y =
          handshake sync1 e (λ w. let v : ◌≡◌ {A = ℕ} 0 1 = cc in omega arith) (λ w. let v : ◌≡◌ {A = ℕ} 0 1 = cc in omega arith) (waiting answered mutator_count) q y
      go sync2 e q y =
          handshake sync2 e (λ w. let v : ◌≡◌ {A = ℕ} 0 1 = cc in omega arith) (λ w. let v : ◌≡◌ {A = ℕ} 0 1 = cc in omega arith) (waiting answered mutator_count) q y
      go mark e q y = marking e (trace_count m) refl q y
      go sweep e q y = sweeping e (lowest m g.segments) refl q y x

-- ---- every element

-- refused 1, none is counted
uncounted : (v : Event) (n : ℕ) → event_number v ≡ some n → counted_at v ≡ 0
uncounted (mutator_call c r) n e = refl
uncounted (start_call r) n e = refl
uncounted (step_call (Waiting x)) n e = refl
uncounted (step_call Moved) n e = none_some e
uncounted (step_call Traced) n e = none_some e
uncounted (step_call (Swept s f)) n e = none_some e
uncounted (step_call Done) n e = none_some e
uncounted (step_call Idle) n e = none_some e
uncounted (step_call (Refused x)) n e = refl
uncounted (opening_call r) n e = refl
uncounted (look_call l) n e = refl

module _ (g : Geometry) (m m' : Mem) (z : Sizes g m) (k : Consistent g m) (f : phase m ≡ idle → ⊥) where
  unmoved : (v : Event) → counted_at v ≡ 0 → m' ≡ m → Advances g m m' v
  unmoved v e x = quiet e (ap phase x) (ap (condemned_in g) x) (λ p. subst (WasUnmarked g m) (sym x) (was_self g m))

  pub advances : (v : Event) → Acts g m m' v → Advances g m m' v
  advances v (wrong e x) = unmoved v (uncounted v 1 e) x
  advances v (looks x) = unmoved _ refl x
  advances v (calls {c = c} {r = r} e x) =
      quiet refl (ap phase x ∙ phase_stays g m c)
      (same_condemned g m m' z k (mutator_call c r) (calls e x) (λ q. let y : ◌≡◌ {A = ℕ} 0 1 = cc in omega arith) (λ s b q. let y : ◌≡◌ {A = ℕ} 0 1 = cc in omega arith))
      (λ p. subst (WasUnmarked g m) (sym x) (was_exec g m z k p c))
  advances v (starts p o x) = absurd (f p)
  advances v (start_refused e x) = unmoved _ refl x
  advances v (steps {r = r} e x) = stepped g m m' z k r (steps e x) e x f
