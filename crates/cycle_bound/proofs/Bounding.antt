-- The steps of a cycle counted: from mark on by the measure, which each of them lowers, and before it one for each handshake.
use mathlib.Core.Path.{◌≡◌, refl, sym, ◌∙◌, ap}
use mathlib.Core.Logic.{◌⊎◌, inl, inr, ⊎_elim}
use mathlib.Core.Bool.{false}
use mathlib.Core.Option.{Option, none, some}
use mathlib.Core.List.{List, [], ◌∷◌}
use Prim.Native.Nat.{ℕ, zero, suc, ◌+◌, ◌≤◌}
use native.Mathlib.Omega.{arith}
use lib.ListN.{length}
use Rattle.layout.specs.declared.Geometry.{Geometry}
use Rattle.layout.specs.Mem.{Mem, mem_of}
use Rattle.layout.proofs.Regions.{sized}
use Rattle.theory.specs.Phases.{Phase, idle, sync1, sync2, mark, sweep}
use Rattle.model.specs.declared.Step.{Step}
use Rattle.model.specs.declared.Step.TheVariants.{Done}
use Rattle.model.specs.Fields.{phase, trace_count}
use Rattle.model.specs.Lists.{Event, step_call, Element, wrong_sized, next_words, words_after}
use Rattle.model.specs.Run.{declared_step}
use Rattle.model.specs.Collector.{lowest, step_in, step_of}
use Rattle.model_laws.proofs.Lengths.{sizes_of}
use Rattle.guarantee.specs.EmptyCycle.{following}
use Rattle.guarantee.specs.Totals.{blocks_in_use}
use Rattle.guarantee.proofs.Elements.{every_element}
use Rattle.guarantee.proofs.Condemned.{step_of_lem}
use Rattle.cycle_bound.specs.StepsLeft.{counted_step, counted_at, counted, condemned_in, left_in, steps_left, MarkOrSweep, Follows, EveryMeasure}
use Rattle.cycle_bound.specs.CycleBound.{or_later, at_mark, used_in, used_at_mark}
use Rattle.cycle_bound.proofs.Counting.{unmarked_used, unmarked_most}
use Rattle.cycle_bound.proofs.Advancing.{Advances, quiet, moves, traces, sweeps, ends, advances}
use Rattle.cycle_bound.proofs.Along.{lent, step_promise, Inside, advance, inside_next}
use Rattle.model.specs.Collector as collector

-- ---- phases are told apart

mark_not_sweep : {A : Type 0} {p : Phase} → p ≡ mark → p ≡ sweep → A
mark_not_sweep e h = absurd (let x : mark ≡ sweep = sym e ∙ h in let y : ◌≡◌ {A = ℕ} 0 1 = cc in omega arith)

-- ---- the measure

left_is : (g : Geometry) (m : Mem) (p : Phase) → phase m ≡ p → steps_left g m ≡ left_in p g m
left_is g m p e = ap (λ p. left_in p g m) e

module _ (g : Geometry) (m m' : Mem) (v : Event) where
  lower : Advances g m m' v → MarkOrSweep m → steps_left g m' + counted_at v ≤ steps_left g m
  lower (quiet n p c w) (inl e) = let a = left_is g m' mark (p ∙ e) in let b = left_is g m mark e in let d = unmarked_most g m m' (w e) in omega arith
  lower (quiet n p c w) (inr e) = let a = left_is g m' sweep (p ∙ e) in let b = left_is g m sweep e in omega arith
  lower (moves q f p c) (inl e) = let a = left_is g m' sweep (p ∙ ap following e) in let b = left_is g m mark e in let n = ap counted_at q in omega arith
  lower (moves q f p c) (inr e) = absurd (f e)
  lower (traces q t c) (inl e) = let a = left_is g m' mark t.stays in let b = left_is g m mark e in let d = t.fewer in let n = ap counted_at q in omega arith
  lower (traces q t c) (inr e) = mark_not_sweep t.in_mark e
  lower (sweeps s f q p h c) (inl e) = mark_not_sweep e p
  lower (sweeps s f q p h c) (inr e) = let a = left_is g m' sweep h in let b = left_is g m sweep e in let n = ap counted_at q in omega arith
  lower (ends q p h) (inl e) = mark_not_sweep e p
  lower (ends q p h) (inr e) = let a = left_is g m' idle h in let b = left_is g m sweep e in let n = ap counted_at q in omega arith

  -- where an element leads from mark or sweep: done alone leaves them
  pub leads : Advances g m m' v → MarkOrSweep m → MarkOrSweep m' ⊎ ((phase m' ≡ idle) × (v ≡ step_call Done))
  leads (quiet n p c w) o = inl (⊎_elim (λ e. inl (p ∙ e)) (λ e. inr (p ∙ e)) o)
  leads (moves q f p c) (inl e) = inl (inr (p ∙ ap following e))
  leads (moves q f p c) (inr e) = absurd (f e)
  leads (traces q t c) o = inl (inl t.stays)
  leads (sweeps s f q p h c) o = inl (inr h)
  leads (ends q p h) o = inr (h, q)

awake_phase : {p : Phase} → (p ≡ mark) ⊎ (p ≡ sweep) → p ≡ idle → ⊥
awake_phase (inl e) h = let x : mark ≡ idle = sym e ∙ h in let y : ◌≡◌ {A = ℕ} 0 1 = cc in omega arith
awake_phase (inr e) h = let x : sweep ≡ idle = sym e ∙ h in let y : ◌≡◌ {A = ℕ} 0 1 = cc in omega arith

-- a step in mark or sweep neither waits nor is refused
all_counted : (g : Geometry) (m : Mem) → MarkOrSweep m → counted_step (declared_step (step_of g m).0) ≡ 1
unfolding step_of
all_counted g m o = ⊎_elim (λ e. by e ∙ traced (trace_count m)) (λ e. by e ∙ swept (lowest m g.segments)) o
  where
    by : {p q : Phase} → p ≡ q → counted_step (declared_step (step_in p g m).0) ≡ counted_step (declared_step (step_in q g m).0)
    by e = ap (λ p. counted_step (declared_step (step_in p g m).0)) e

    traced : (n : ℕ) → counted_step (declared_step (collector.traces g n m).0) ≡ 1
    traced zero = refl
    traced (suc n) = refl

    swept : (o : Option ℕ) → counted_step (declared_step (collector.sweeps g o m).0) ≡ 1
    swept none = refl
    swept (some s) = refl

pub every_measure : EveryMeasure
every_measure g words right k o = record {
  some = left o;
  most = at_most;
  lowers = λ e a. lower g m (after e) e.event (on e a) o;
  counts = one;
  stays = λ e a f. ⊎_elim (λ z. z) (λ z. absurd (f z.1)) (leads g m (after e) e.event (on e a) o);
}
  where
    m : Mem
    m = mem_of g words

    after : Element → Mem
    after e = mem_of g (next_words words e)

    left : MarkOrSweep m → 1 ≤ steps_left g m
    left (inl e) = let b = left_is g m mark e in omega arith
    left (inr e) = let b = left_is g m sweep e in omega arith

    at_most : phase m ≡ mark → steps_left g m ≤ blocks_in_use g m + condemned_in g m + 2
    at_most e = let b = left_is g m mark e in let d = unmarked_used g m in omega arith

    on : (e : Element) → Follows g words e → Advances g m (after e) e.event
    on e a = advances g m (after e) (sizes_of g words (sized g (length words) right)) k (awake_phase o) e.event (every_element g words e right k a.meets a.long a.lent).acts

    one : (e : Element) (r : Step) → Follows g words e → wrong_sized e ≡ false → e.event ≡ step_call r → counted_step r ≡ 1
    one e r a q i =
        let x = step_promise g words e r i a.meets (lent g words e q a.lent) in
        ap counted_step (sym (step_of_lem r) ∙ ap declared_step (x.exact right k).0) ∙ all_counted g m o

-- ---- along a cycle

-- 1 where a cycle is not over
abbrev still : Phase → ℕ
still idle = 0
still sync1 = 1
still sync2 = 1
still mark = 1
still sweep = 1

still_most : (p : Phase) → still p ≤ 1
still_most idle = omega arith
still_most sync1 = omega arith
still_most sync2 = omega arith
still_most mark = omega arith
still_most sweep = omega arith

pub still_is : (p : Phase) → (p ≡ idle → ⊥) → still p ≡ 1
still_is idle f = absurd (f refl)
still_is sync1 f = refl
still_is sync2 f = refl
still_is mark f = refl
still_is sweep f = refl

module _ (g : Geometry) where
  -- the phase at the end of a list
  abbrev end_of : List ℕ → List Element → Phase
  end_of words ds = phase (mem_of g (words_after words ds))

  -- from mark on
  rest_from : (ds : List Element) (words : List ℕ) → Inside g words ds → MarkOrSweep (mem_of g words) → counted ds + still (end_of words ds) ≤ steps_left g (mem_of g words)
  rest_from [] words i o = let a = still_most (phase (mem_of g words)) in let b = (every_measure g words i.right i.consistent o).some in omega arith
  rest_from (e ∷ ds) words i o =
      go (leads g (mem_of g words) (mem_of g (next_words words e)) e.event (advance g words e ds i) o) (rest_from ds (next_words words e) (inside_next g words e ds i))
    where
      one : steps_left g (mem_of g (next_words words e)) + counted_at e.event ≤ steps_left g (mem_of g words)
      one = lower g (mem_of g words) (mem_of g (next_words words e)) e.event (advance g words e ds i) o

      go : MarkOrSweep (mem_of g (next_words words e)) ⊎ ((phase (mem_of g (next_words words e)) ≡ idle) × (e.event ≡ step_call Done))
          → (MarkOrSweep (mem_of g (next_words words e)) → counted ds + still (end_of (next_words words e) ds) ≤ steps_left g (mem_of g (next_words words e)))
          → counted_at e.event + counted ds + still (end_of (next_words words e) ds) ≤ steps_left g (mem_of g words)
      go (inl x) ih = let a = ih x in let b = one in omega arith
      go (inr x) ih =
          let q = (inside_next g words e ds i).over x.0 in
          let a : counted ds ≡ 0 = ap counted q in
          let c : still (end_of (next_words words e) ds) ≡ 0 = ap (λ l. still (end_of (next_words words e) l)) q ∙ ap still x.0 in
          let b = one in
          omega arith

  -- the first point whose phase is mark is this one, or a later one
  pub at_here : (words : List ℕ) (ds : List Element) → phase (mem_of g words) ≡ mark → at_mark g words ds ≡ some (mem_of g words)
  at_here words [] q = ap (λ p. or_later p (mem_of g words) none) q
  at_here words (e ∷ ds) q = ap (λ p. or_later p (mem_of g words) (at_mark g (next_words words e) ds)) q

  pub at_later : (words : List ℕ) (e : Element) (ds : List Element) → (phase (mem_of g words) ≡ sync1) ⊎ (phase (mem_of g words) ≡ sync2) → at_mark g words (e ∷ ds) ≡ at_mark g (next_words words e) ds
  at_later words e ds (inl q) = ap (λ p. or_later p (mem_of g words) (at_mark g (next_words words e) ds)) q
  at_later words e ds (inr q) = ap (λ p. or_later p (mem_of g words) (at_mark g (next_words words e) ds)) q

  -- the steps that a cycle may take from here: the blocks in use when the phase becomes mark, the condemned segments, and n more, for moves and done
  abbrev allowed : ℕ → List ℕ → List Element → ℕ
  allowed n words ds = used_at_mark g words ds + condemned_in g (mem_of g words) + n

  -- in mark: the blocks in use there
  from_mark : (words : List ℕ) (ds : List Element) → Inside g words ds → phase (mem_of g words) ≡ mark → counted ds + still (end_of words ds) ≤ allowed 2 words ds
  from_mark words ds i q =
      let a = rest_from ds words i (inl q) in
      let b = left_is g (mem_of g words) mark q in
      let c = ap (used_in g) (at_here words ds q) in
      let d = unmarked_used g (mem_of g words) in
      omega arith

  -- in a handshake: an element that stays in it, or one that moves on
  module _ (words : List ℕ) (e : Element) (ds : List Element) (i : Inside g words (e ∷ ds)) (p : Phase) (q : phase (mem_of g words) ≡ p)
      (h : (phase (mem_of g words) ≡ sync1) ⊎ (phase (mem_of g words) ≡ sync2)) (n : ℕ)
      (same : phase (mem_of g (next_words words e)) ≡ p → counted ds + still (end_of (next_words words e) ds) ≤ allowed (n + 1) (next_words words e) ds)
      (on : phase (mem_of g (next_words words e)) ≡ following p → counted ds + still (end_of (next_words words e) ds) ≤ allowed n (next_words words e) ds) where
    no_mark : {A : Type 0} → phase (mem_of g words) ≡ mark → A
    no_mark z = absurd (⊎_elim (λ w. let x : sync1 ≡ mark = sym w ∙ z in let y : ◌≡◌ {A = ℕ} 0 1 = cc in omega arith)
        (λ w. let x : sync2 ≡ mark = sym w ∙ z in let y : ◌≡◌ {A = ℕ} 0 1 = cc in omega arith) h)

    no_sweep : {A : Type 0} → phase (mem_of g words) ≡ sweep → A
    no_sweep z = absurd (⊎_elim (λ w. let x : sync1 ≡ sweep = sym w ∙ z in let y : ◌≡◌ {A = ℕ} 0 1 = cc in omega arith)
        (λ w. let x : sync2 ≡ sweep = sym w ∙ z in let y : ◌≡◌ {A = ℕ} 0 1 = cc in omega arith) h)

    in_handshake : Advances g (mem_of g words) (mem_of g (next_words words e)) e.event
        → counted_at e.event + counted ds + still (end_of (next_words words e) ds) ≤ allowed (n + 1) words (e ∷ ds)
    in_handshake (quiet c w k x) = let a = same (w ∙ q) in let b = ap (used_in g) (at_later words e ds h) in omega arith
    in_handshake (moves v f w k) =
        let a = on (w ∙ ap following q) in
        let b = ap (used_in g) (at_later words e ds h) in
        let c = ap counted_at v in
        omega arith
    in_handshake (traces v t k) = no_mark t.in_mark
    in_handshake (sweeps s f v w x k) = no_sweep w
    in_handshake (ends v w x) = no_sweep w

  from_sync2 : (ds : List Element) (words : List ℕ) → Inside g words ds → phase (mem_of g words) ≡ sync2 → counted ds + still (end_of words ds) ≤ allowed 3 words ds
  from_sync2 [] words i q = let a = still_most (phase (mem_of g words)) in omega arith
  from_sync2 (e ∷ ds) words i q =
      let n = inside_next g words e ds i in
      in_handshake words e ds i sync2 q (inr q) 2 (from_sync2 ds (next_words words e) n) (from_mark (next_words words e) ds n) (advance g words e ds i)

  pub from_sync1 : (ds : List Element) (words : List ℕ) → Inside g words ds → phase (mem_of g words) ≡ sync1 → counted ds + still (end_of words ds) ≤ allowed 4 words ds
  from_sync1 [] words i q = let a = still_most (phase (mem_of g words)) in omega arith
  from_sync1 (e ∷ ds) words i q =
      let n = inside_next g words e ds i in
      in_handshake words e ds i sync1 q (inl q) 3 (from_sync1 ds (next_words words e) n) (from_sync2 ds (next_words words e) n) (advance g words e ds i)
