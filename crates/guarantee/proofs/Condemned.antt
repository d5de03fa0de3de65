-- Whether a segment is condemned, from one element of a list to the next: only an accepted start and the step that sweeps it change that. Assumes
-- nothing.
use mathlib.Core.Path.{◌≡◌, refl, sym, ◌∙◌, ap}
use mathlib.Core.Bool.{Bool, true, false}
use mathlib.Core.Option.{Option, none, some}
use Prim.Native.Nat.{ℕ, zero, suc, ◌<◌}
use native.Mathlib.Omega.{arith}
use lib.Dec.{eqb}
use borrow.Author.Tests.{ne_eqb}
use Rattle.std.specs.Prelude.{Ok}
use Rattle.layout.specs.declared.Geometry.{Geometry}
use Rattle.layout.specs.Geometry.{mutator_count, segment_of}
use Rattle.layout.specs.Mem.{Mem, Sizes}
use Rattle.theory.specs.Phases.{Phase, idle, sync1, sync2, mark, sweep}
use Rattle.theory.specs.Calls.{Call, refusal, refuse, a_done, a_swept}
use Rattle.theory.specs.MachineCalls.{step_by}
use Rattle.theory.proofs.Invariant.{none_some}
use Rattle.theory.proofs.Updates.{upd_other, upd_same}
use Rattle.theory.proofs.Condemning.{act_condemned, step_condemned}
use Rattle.model.specs.declared.Answer.TheVariants.{Done}
use Rattle.model.specs.declared.Step.{Step}
use Rattle.model.specs.Answers.{step_answer_of}
use Rattle.model.specs.Fields.{phase, trace_count, tag}
use Rattle.model.specs.Calls.{observe, act, exec}
use Rattle.model.specs.Collector.{collects, started, step_of, step_in, moved_or_waiting, traces, sweeps, lowest, waiting, outside_answered}
use Rattle.model.specs.Consistent.{Consistent}
use Rattle.model.specs.Lists.{Event, start_call, step_call}
use Rattle.model.specs.Run.{declared_step}
use Rattle.refine_view.specs.View.{view}
use Rattle.refine_view.specs.Refines.{refused_out, agrees, CallRefines}
use Rattle.model_laws.proofs.Lowest.{none_condemned}
use Rattle.guarantee.specs.Demand3.{struck_out}
use Rattle.guarantee.specs.Elements.{Acts, wrong, looks, calls, starts, start_refused, steps}
use Rattle.guarantee.proofs.AllRefine.{all_refine}
use Rattle.guarantee.proofs.Cycle.{swept_by}
use Rattle.model.specs.declared.Step.TheVariants as step_answer
use Rattle.theory.specs.MachineCalls as machine
use Rattle.model.specs.Tag as Tag

abbrev pub is_condemned : Mem → ℕ → Bool
is_condemned m s = eqb (tag m s) Tag.condemned

-- the answer of step, from its value
pub step_of_lem : (r : Step) → declared_step (step_answer_of r) ≡ r
step_of_lem (step_answer.Waiting n) = refl
step_of_lem step_answer.Moved = refl
step_of_lem step_answer.Traced = refl
step_of_lem (step_answer.Swept s f) = refl
step_of_lem step_answer.Done = refl
step_of_lem step_answer.Idle = refl
step_of_lem (step_answer.Refused n) = refl

module _ (g : Geometry) (m : Mem) (z : Sizes g m) (k : Consistent g m) (s : ℕ) where
  call_same : (c : Call) → is_condemned (exec g m c).1 s ≡ is_condemned m s
  unfolding exec
  call_same c = go (refusal (observe m) c) refl
    where
      acted : CallRefines struck_out g m c → is_condemned (act g m c).1 s ≡ is_condemned m s
      acted (refused_out n t y) = ap (λ r. is_condemned r.1 s) y
      acted (agrees q) = q.moves.agree.condemned s ∙ ap (λ f. f s) (act_condemned q.block (view g q.ready) c) ∙ q.prepared.condemned s

      go : (n : ℕ) → refusal (observe m) c ≡ n → is_condemned (refuse n m (act g m c)).1 s ≡ is_condemned m s
      go zero x = acted (all_refine.calls g m z k c x)
      go (suc n) x = refl

  -- ---- a step

  -- as on the machine
  stepped_as : (p : Phase) → phase m ≡ p → is_condemned (step_of g m).1 s ≡ (step_by (segment_of g) (λ _. lowest m g.segments) p (view g m)).condemned s
  stepped_as p e = (all_refine.steps g m z k).moves.agree.condemned s ∙ ap (λ p. (step_by (segment_of g) (λ _. lowest m g.segments) p (view g m)).condemned s) e

  step_same : ((f : ℕ) → (step_of g m).0 ≡ a_swept s f → ⊥) → is_condemned (step_of g m).1 s ≡ is_condemned m s
  unfolding step_of
  step_same n = go (phase m) refl
    where
      elsewhere : (p : Phase) → phase m ≡ p → (p ≡ sweep → ⊥) → is_condemned (step_of g m).1 s ≡ is_condemned m s
      elsewhere p e f = stepped_as p e ∙ ap (λ c. c s) (step_condemned (segment_of g) (λ _. lowest m g.segments) p (view g m) f)

      swept_other : phase m ≡ sweep → (o : Option ℕ) → lowest m g.segments ≡ o → is_condemned (step_of g m).1 s ≡ is_condemned m s
      swept_other e none l = stepped_as sweep e ∙ ap (λ o. (machine.sweep_step (segment_of g) o (view g m)).condemned s) l
      swept_other e (some x) l =
          stepped_as sweep e ∙ ap (λ o. (machine.sweep_step (segment_of g) o (view g m)).condemned s) l
          ∙ upd_other (is_condemned m) x false s (λ q. n _ (ap (λ p. (step_in p g m).0) e ∙ ap (λ o. (sweeps g o m).0) (l ∙ ap some (sym q))))

      go : (p : Phase) → phase m ≡ p → is_condemned (step_of g m).1 s ≡ is_condemned m s
      go idle e = elsewhere idle e (λ q. let y : ◌≡◌ {A = ℕ} 0 1 = cc in omega arith)
      go sync1 e = elsewhere sync1 e (λ q. let y : ◌≡◌ {A = ℕ} 0 1 = cc in omega arith)
      go sync2 e = elsewhere sync2 e (λ q. let y : ◌≡◌ {A = ℕ} 0 1 = cc in omega arith)
      go mark e = elsewhere mark e (λ q. let y : ◌≡◌ {A = ℕ} 0 1 = cc in omega arith)
      go sweep e = swept_other e (lowest m g.segments) refl

  -- the segment that it sweeps is condemned no more
  step_swept : (f : ℕ) → a_swept s f ≡ (step_of g m).0 → is_condemned (step_of g m).1 s ≡ false
  step_swept f e =
      let y = swept_by g m s f e in
      stepped_as sweep y.in_sweep ∙ ap (λ o. (machine.sweep_step (segment_of g) o (view g m)).condemned s) y.is_lowest ∙ upd_same (is_condemned m) s false

  -- one that is swept was condemned
  swept_was : (f : ℕ) → a_swept s f ≡ (step_of g m).0 → is_condemned m s ≡ true
  swept_was f e = (all_refine.steps g m z k).picked.condemned s (swept_by g m s f e).is_lowest

  -- done: none is condemned
  done_none : s < g.segments → a_done ≡ (step_of g m).0 → is_condemned m s ≡ false
  unfolding step_of
  done_none i e = go (phase m) e
    where
      moved : (n : ℕ) (m₁ : Mem) (p : Phase) → a_done ≡ (moved_or_waiting n m₁ p).0 → ⊥
      moved zero m₁ p h = let y : ◌≡◌ {A = ℕ} 0 1 = cc in omega arith
      moved (suc n) m₁ p h = let y : ◌≡◌ {A = ℕ} 0 1 = cc in omega arith

      traced : (n : ℕ) → a_done ≡ (traces g n m).0 → ⊥
      traced zero h = let y : ◌≡◌ {A = ℕ} 0 1 = cc in omega arith
      traced (suc n) h = let y : ◌≡◌ {A = ℕ} 0 1 = cc in omega arith

      at_end : (o : Option ℕ) → lowest m g.segments ≡ o → a_done ≡ (sweeps g o m).0 → is_condemned m s ≡ false
      at_end none l h = ne_eqb _ _ (none_condemned m g.segments l s i)
      at_end (some x) l h = absurd (let y : ◌≡◌ {A = ℕ} 0 1 = cc in omega arith)

      go : (p : Phase) → a_done ≡ (step_in p g m).0 → is_condemned m s ≡ false
      go idle h = absurd (let y : ◌≡◌ {A = ℕ} 0 1 = cc in omega arith)
      go sync1 h = absurd (moved (waiting (outside_answered g m mutator_count) mutator_count) (outside_answered g m mutator_count) sync2 h)
      go sync2 h = absurd (moved (waiting (outside_answered g m mutator_count) mutator_count) (outside_answered g m mutator_count) mark h)
      go mark h = absurd (traced (trace_count m) h)
      go sweep h = at_end (lowest m g.segments) refl h

  -- ---- by the event

  pub stays_condemned : (m' : Mem) (v : Event) → Acts g m m' v → (v ≡ start_call (Ok Done) → ⊥) → ((f : ℕ) → v ≡ step_call (step_answer.Swept s f) → ⊥) → is_condemned m' s ≡ is_condemned m s
  stays_condemned m' v (wrong n h) a b = ap (λ x. is_condemned x s) h
  stays_condemned m' v (looks h) a b = ap (λ x. is_condemned x s) h
  stays_condemned m' v (calls {c = c} e h) a b = ap (λ x. is_condemned x s) h ∙ call_same c
  stays_condemned m' v (starts i o h) a b = absurd (a refl)
  stays_condemned m' v (start_refused e h) a b = ap (λ x. is_condemned x s) h
  stays_condemned m' v (steps {r = r} e h) a b = ap (λ x. is_condemned x s) h ∙ step_same (λ f i. b f (ap step_call (sym (step_of_lem r) ∙ ap declared_step (e ∙ i))))

  -- swept, it was condemned and is not
  pub swept_condemned : (m' : Mem) (f : ℕ) → Acts g m m' (step_call (step_answer.Swept s f)) → (is_condemned m s ≡ true) × (is_condemned m' s ≡ false)
  swept_condemned m' f (wrong n h) = none_some n
  swept_condemned m' f (steps e h) = (swept_was f e, ap (λ x. is_condemned x s) h ∙ step_swept f e)

  pub done_condemned : s < g.segments → (m' : Mem) → Acts g m m' (step_call step_answer.Done) → is_condemned m s ≡ false
  done_condemned i m' (wrong n h) = none_some n
  done_condemned i m' (steps e h) = done_none i e

  -- at a start the condemned segments are those that it collects
  pub start_condemned : phase m ≡ idle → is_condemned (started g m) s ≡ collects m s
  start_condemned q = (all_refine.starts g m z k q).agree.condemned s
