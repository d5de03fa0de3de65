-- A cycle in a list of calls: the point where it begins, and the point at the step that answers swept.
use mathlib.Core.Path.{◌≡◌, refl, sym, ◌∙◌, ap, subst}
use mathlib.Core.Logic.{◌⊎◌}
use mathlib.Core.Bool.{true}
use mathlib.Core.Option.{Option, none, some}
use mathlib.Core.List.{List, [], ◌∷◌, ◌++◌}
use Prim.Native.Nat.{ℕ, zero, suc, ◌<◌}
use native.Mathlib.Omega.{arith}
use Rattle.std.specs.Prelude.{Ok}
use Rattle.layout.specs.declared.Geometry.{Geometry}
use Rattle.layout.specs.Geometry.{mutator_count}
use Rattle.layout.specs.Mem.{Mem, mem_of}
use Rattle.theory.specs.Phases.{Phase, idle, sync1, sync2, mark, sweep}
use Rattle.theory.specs.Calls.{a_swept}
use Rattle.theory.proofs.Invariant.{none_some}
use Rattle.model.specs.declared.Answer.TheVariants.{Done}
use Rattle.model.specs.Fields.{phase, trace_count, tag, class}
use Rattle.model.specs.Collector.{collects, step_of, step_in, moved_or_waiting, traces, sweeps, swept, lowest, waiting, outside_answered}
use Rattle.model.specs.Lists.{start_call, step_call, Element, start_element, step_element, Meets, KeepsLength, Gets, wrong_sized, event_number, next_words}
use Rattle.model.specs.Lists.{Chain, words_after, Ghost, Begins, ghost_step, ghost_after}
use Rattle.refine_view.specs.View.{view}
use Rattle.model_laws.proofs.Lengths.{sizes_of}
use Rattle.refine_run.proofs.Elements.{over, is_over, ahead}
use Rattle.guarantee.specs.Demand3.{struck_out, SweptIn}
use Rattle.guarantee.specs.Elements.{Acts, wrong, starts, steps}
use Rattle.guarantee.proofs.Coupling.{Any, begun, Leads, goes, begins}
use Rattle.guarantee.proofs.Elements.{Point, point_any, not_refused, acts_on, leads_on, point_on, goes_on}
use Rattle.guarantee.proofs.Walks.{pass, walk}
use Rattle.guarantee.proofs.Beginning.{first_point}
use Rattle.model.specs.declared.Step.TheVariants as step_answer
use Rattle.model.specs.Collector as collector
use Rattle.theory.specs.Machine as machine
use Rattle.model.specs.Tag as Tag

-- ---- which step answers swept

pub record SweptBy (g : Geometry) (m : Mem) (s : ℕ) : Type 0 where
  pub in_sweep : phase m ≡ sweep
  pub is_lowest : lowest m g.segments ≡ some s
  pub leaves : (step_of g m).1 ≡ swept g m s

pub swept_by : (g : Geometry) (m : Mem) (s f : ℕ) → a_swept s f ≡ (step_of g m).0 → SweptBy g m s
unfolding step_of
swept_by g m s f e = go (phase m) refl e
  where
    moved : (n : ℕ) (m₁ : Mem) (p : Phase) → a_swept s f ≡ (moved_or_waiting n m₁ p).0 → ⊥
    moved zero m₁ p h = let z : ◌≡◌ {A = ℕ} 0 1 = cc in omega arith
    moved (suc n) m₁ p h = let z : ◌≡◌ {A = ℕ} 0 1 = cc in omega arith

    traced : (n : ℕ) → a_swept s f ≡ (traces g n m).0 → ⊥
    traced zero h = let z : ◌≡◌ {A = ℕ} 0 1 = cc in omega arith
    traced (suc n) h = let z : ◌≡◌ {A = ℕ} 0 1 = cc in omega arith

    swept_at : phase m ≡ sweep → (o : Option ℕ) → lowest m g.segments ≡ o → a_swept s f ≡ (sweeps g o m).0 → SweptBy g m s
    swept_at p none l h = absurd (let z : ◌≡◌ {A = ℕ} 0 1 = cc in omega arith)
    swept_at p (some x) l h =
        let q : s ≡ x = cc in
        record { in_sweep = p; is_lowest = l ∙ ap some (sym q); leaves = ap (λ z. (step_in z g m).1) p ∙ ap (λ o. (sweeps g o m).1) l ∙ ap (swept g m) (sym q) }

    go : (p : Phase) → phase m ≡ p → a_swept s f ≡ (step_in p g m).0 → SweptBy g m s
    go idle p h = absurd (let z : ◌≡◌ {A = ℕ} 0 1 = cc in omega arith)
    go sync1 p h = absurd (moved (waiting (outside_answered g m mutator_count) mutator_count) (outside_answered g m mutator_count) sync2 h)
    go sync2 p h = absurd (moved (waiting (outside_answered g m mutator_count) mutator_count) (outside_answered g m mutator_count) mark h)
    go mark p h = absurd (traced (trace_count m) h)
    go sweep p h = swept_at p (lowest m g.segments) refl h

-- ---- in the cycle

module _ (g : Geometry) (m₀ : Mem) where
  -- the condemned segments are some that the start collected, and they keep their classes
  pub record During (words : List ℕ) (w : Ghost) (P : ℕ → Type 0) : Type 0 where
    pub point : Point g words w P
    pub collected : (s : ℕ) → s < g.segments → tag (mem_of g words) s ≡ Tag.condemned → (collects m₀ s ≡ true) × (class (mem_of g words) s ≡ class m₀ s)

  -- no start that is not refused
  abbrev NoStart : List Element → Type 0
  NoStart ds = (xs ys : List Element) (u v : List ℕ) → ds ≡ xs ++ (start_element g u (Ok Done) v ∷ ys) → ⊥

  during_on : (words : List ℕ) (w : Ghost) (P : ℕ → Type 0) (e : Element) → During words w P
      → ((after : List ℕ) → e ≡ start_element g words (Ok Done) after → ⊥) → Meets e → KeepsLength e → (wrong_sized e ≡ true) ⊎ Gets g words e
      → During (next_words words e) (ghost_step struck_out w e) P
  during_on words w P e d f q l h = go (leads_on g words w e q l h P d.point)
    where
      go : Leads g (mem_of g words) (sizes_of g words d.point.long) d.point.consistent w P d.point.couples e.event (next_words words e) → During (next_words words e)
          (ghost_step struck_out w e) P
      go (goes n) = record { point = goes_on g words w e q l h P d.point n.couples; collected = λ s k i. let y = n.steady s k i in let x = d.collected s k y.0 in (x.0, y.1 ∙ x.1) }
      go (begins i b) = absurd (f e.after (is_over g words e (not_refused g words e q (ap event_number i) h) ∙ ap (λ v. over g words v e.after) i))

  walk_during : (ds ys : List Element) (words : List ℕ) (w : Ghost) (P : ℕ → Type 0) → During words w P → NoStart ds → Chain g words (ds ++ ys)
      → During (words_after words ds) (ghost_after struck_out w ds) P × Chain g (words_after words ds) ys
  walk_during [] ys words w P d n c = (d, c)
  walk_during (e ∷ ds) ys words w P d n c =
      walk_during ds ys (next_words words e) (ghost_step struck_out w e) P
      (during_on words w P e d (λ after i. n [] ds words after (ap (λ x. x ∷ ds) i)) c.0 c.1 c.2)
      (λ xs zs u v i. n (e ∷ xs) zs u v (ap (λ (l : List Element). e ∷ l) i)) c.3

-- ---- the cycle of a list

pub accepted : (g : Geometry) (m m' : Mem) → Acts g m m' (start_call (Ok Done)) → (phase m ≡ idle) × (m' ≡ collector.started g m)
accepted g m m' (wrong n h) = none_some n
accepted g m m' (starts i o h) = (i, h)

sweeping : (g : Geometry) (m m' : Mem) (s f : ℕ) → Acts g m m' (step_call (step_answer.Swept s f)) → (a_swept s f ≡ (step_of g m).0) × (m' ≡ (step_of g m).1)
sweeping g m m' s f (wrong n h) = none_some n
sweeping g m m' s f (steps e h) = (e, h)

module _ (g : Geometry) (words : List ℕ) (w : Ghost) (es : List Element) (c : SweptIn g es) where
  -- what was live when the cycle began
  abbrev pub Then : ℕ → Type 0
  Then = machine.Live (view g (mem_of g c.start_before))

  abbrev pub heap_then : Ghost
  heap_then = ghost_after struck_out w c.before

  abbrev pub heap_now : Ghost
  heap_now = ghost_after struck_out heap_then c.during

  pub record Cycle : Type 0 where
    pub at_start : Point g c.start_before heap_then Any
    pub quiet : phase (mem_of g c.start_before) ≡ idle
    pub during : During g (mem_of g c.start_before) c.step_before heap_now Then
    pub answer : a_swept c.segment c.freed ≡ (step_of g (mem_of g c.step_before)).0
    pub memory : mem_of g c.step_after ≡ (step_of g (mem_of g c.step_before)).1
    pub at_end : Point g c.step_after heap_now Any

  abbrev cycle_start : Element
  cycle_start = start_element g c.start_before (Ok Done) c.start_after

  abbrev cycle_sweep : Element
  cycle_sweep = step_element g c.step_before (step_answer.Swept c.segment c.freed) c.step_after

  module _ (p : Point g c.start_before heap_then Any) (i : phase (mem_of g c.start_before) ≡ idle) where
    at_sweep : During g (mem_of g c.start_before) c.step_before heap_now Then → Chain g c.step_before (cycle_sweep ∷ c.rest) → Cycle
    at_sweep d ch =
        let n = ahead g c.step_before cycle_sweep ch.0 (not_refused g c.step_before cycle_sweep ch.0 refl ch.2) in
        let a = sweeping g (mem_of g c.step_before) (mem_of g c.step_after) c.segment c.freed
        (subst (λ x. Acts g (mem_of g c.step_before) (mem_of g x) cycle_sweep.event) n (acts_on g c.step_before heap_now cycle_sweep ch.0 ch.1 ch.2 Then d.point)) in
        record {
          at_start = p;
          quiet = i;
          during = d;
          answer = a.0;
          memory = a.1;
          at_end = subst (λ x. Point g x heap_now Any) n (pass g c.step_before heap_now cycle_sweep (point_any g c.step_before heap_now Then d.point) ch.0 ch.1 ch.2).point;
        }

    before_sweep : (u : List ℕ) → During g (mem_of g c.start_before) u heap_now Then → Chain g u (cycle_sweep ∷ c.rest) → Cycle
    before_sweep u d ch =
        let h = not_refused g u cycle_sweep ch.0 refl ch.2 in
        let x = subst (λ u. During g (mem_of g c.start_before) u heap_now Then × Chain g u (cycle_sweep ∷ c.rest)) (sym h.memory) (d, ch) in
        at_sweep x.0 x.1

  at_start_lem : Point g c.start_before heap_then Any → Chain g c.start_before (cycle_start ∷ (c.during ++ (cycle_sweep ∷ c.rest))) → Cycle
  at_start_lem p ch =
      let a = accepted g (mem_of g c.start_before) _ (acts_on g c.start_before heap_then cycle_start ch.0 ch.1 ch.2 Any p) in
      let b = begun g (mem_of g c.start_before) (sizes_of g c.start_before p.long) p.consistent heap_then Any p.couples _ a.0 a.1 in
      let d : During g (mem_of g c.start_before) (next_words c.start_before cycle_start) heap_then Then =
      record { point = point_on g c.start_before heap_then cycle_start ch.0 ch.1 ch.2 Any p heap_then Then b.couples; collected = b.collected } in
      let y = walk_during g (mem_of g c.start_before) c.during (cycle_sweep ∷ c.rest) (next_words c.start_before cycle_start) heap_then Then d c.one_start ch.3 in
      before_sweep p a.0 (words_after (next_words c.start_before cycle_start) c.during) y.0 y.1

  before_start : (u : List ℕ) → Point g u heap_then Any → Chain g u (cycle_start ∷ (c.during ++ (cycle_sweep ∷ c.rest))) → Cycle
  before_start u p ch =
      let h = not_refused g u cycle_start ch.0 refl ch.2 in
      let x = subst (λ u. Point g u heap_then Any × Chain g u (cycle_start ∷ (c.during ++ (cycle_sweep ∷ c.rest)))) (sym h.memory) (p, ch) in
      at_start_lem x.0 x.1

  pub cycle_of : Begins g words w → Chain g words es → Cycle
  cycle_of b ch =
      let a = walk g c.before (cycle_start ∷ (c.during ++ (cycle_sweep ∷ c.rest))) words w (first_point g words w b) (subst (Chain g words) c.whole ch) in
      before_start (words_after words c.before) a.0 a.1
