-- A step waits only for mutators that are inside and owe an acknowledgement, and where there is none a handshake moves on.
use mathlib.Core.Path.{◌≡◌, refl, sym, ◌∙◌, ap}
use mathlib.Core.Bool.{Bool, true, false, ◌&&◌}
use mathlib.Core.Option.{Option, none, some}
use Prim.Native.Nat.{ℕ, zero, suc, ◌+◌, ◌<◌}
use native.Mathlib.Omega.{arith}
use lib.ListN.{length}
use borrow.Author.Tests.{eqb-true}
use Rattle.basics.specs.Pick.{one_if}
use Rattle.layout.specs.declared.Geometry.{Geometry}
use Rattle.layout.specs.Geometry.{mutator_count}
use Rattle.layout.specs.Mem.{Mem, Sizes}
use Rattle.layout.proofs.Regions.{sized}
use Rattle.theory.specs.Phases.{Phase, idle, sync1, sync2, mark, sweep, in_handshake, owes}
use Rattle.theory.specs.Calls.{a_waiting, a_moved}
use Rattle.model.specs.Fields.{phase, trace_count, acks}
use Rattle.model.specs.Calls.{is_inside}
use Rattle.model.specs.Collector.{outside_answered, waiting, moved_or_waiting, traces, lowest, sweeps, step_in, step_of}
use Rattle.model.specs.Run.{declared_step}
use Rattle.model_laws.proofs.Bools.{and_left, and_right}
use Rattle.model_laws.proofs.Lengths.{sizes_of}
use Rattle.guarantee.proofs.Stepping.{waiting_same}
use Rattle.guarantee.proofs.Condemned.{step_of_lem}
use Rattle.cycle_bound.specs.CycleBound.{WaitsFor, NobodyOwes, WaitsOnly}

-- ---- who is waited for

abbrev is_waited : Mem → ℕ → Bool
is_waited m k = is_inside m k && owes (phase m) (acks m k)

some_waited : (m : Mem) (n : ℕ) → (waiting m n ≡ 0 → ⊥) → (k : ℕ) × (k < n) × (is_waited m k ≡ true)
unfolding waiting
some_waited m zero f = absurd (f refl)
some_waited m (suc j) f = go (is_waited m j) refl (λ h. some_waited m j h)
  where
    up : (k : ℕ) × (k < j) × (is_waited m k ≡ true) → (k : ℕ) × (k < suc j) × (is_waited m k ≡ true)
    up x = let l : x.0 < j = x.1 in (x.0, omega arith, x.2)

    go : (b : Bool) → is_waited m j ≡ b → ((waiting m j ≡ 0 → ⊥) → (k : ℕ) × (k < j) × (is_waited m k ≡ true)) → (k : ℕ) × (k < suc j) × (is_waited m k ≡ true)
    go true e ih = (j, omega arith, e)
    go false e ih = up (ih (λ z. f (let y : one_if (is_waited m j) ≡ 0 = ap one_if e in omega arith)))

none_waited : (m : Mem) (n : ℕ) → ((k : ℕ) → k < n → is_inside m k ≡ true → owes (phase m) (acks m k) ≡ false) → waiting m n ≡ 0
unfolding waiting
none_waited m zero f = refl
none_waited m (suc j) f = go (is_inside m j) refl (none_waited m j (λ k l. f k (omega arith)))
  where
    go : (b : Bool) → is_inside m j ≡ b → waiting m j ≡ 0 → one_if (is_waited m j) + waiting m j ≡ 0
    go true e r = let y : one_if (is_waited m j) ≡ 0 = ap one_if (ap (λ b. b && owes (phase m) (acks m j)) e ∙ f j (omega arith) e) in omega arith
    go false e r = let y : one_if (is_waited m j) ≡ 0 = ap one_if (ap (λ b. b && owes (phase m) (acks m j)) e) in omega arith

-- ---- one step

module _ (g : Geometry) (m : Mem) (z : Sizes g m) where
  abbrev answered : Mem
  answered = outside_answered g m mutator_count

  waits_for : (n : ℕ) → a_waiting n ≡ (step_of g m).0 → WaitsFor m n
  unfolding step_of
  waits_for n h = go (phase m) refl h
    where
      waited : in_handshake (phase m) ≡ true → (j : ℕ) → waiting answered mutator_count ≡ suc j → n ≡ suc j → WaitsFor m n
      waited t j e q =
          let same = waiting_same g m z mutator_count in
          let x = some_waited m mutator_count (λ y. omega arith) in
          record {
            handshake = t;
            number = omega arith;
            mutator = x.0;
            few = x.1;
            inside = eqb-true _ _ (and_left (is_inside m x.0) (owes (phase m) (acks m x.0)) x.2);
            owing = and_right (is_inside m x.0) (owes (phase m) (acks m x.0)) x.2;
          }

      handshake : (p : Phase) → in_handshake (phase m) ≡ true → (j : ℕ) → waiting answered mutator_count ≡ j → a_waiting n ≡ (moved_or_waiting j answered p).0 → WaitsFor m n
      handshake p t zero e h = absurd (let y : ◌≡◌ {A = ℕ} 0 1 = cc in omega arith)
      handshake p t (suc j) e h = waited t j e cc

      traced : (j : ℕ) → a_waiting n ≡ (traces g j m).0 → ⊥
      traced zero h = let y : ◌≡◌ {A = ℕ} 0 1 = cc in omega arith
      traced (suc j) h = let y : ◌≡◌ {A = ℕ} 0 1 = cc in omega arith

      swept : (o : Option ℕ) → a_waiting n ≡ (sweeps g o m).0 → ⊥
      swept none h = let y : ◌≡◌ {A = ℕ} 0 1 = cc in omega arith
      swept (some s) h = let y : ◌≡◌ {A = ℕ} 0 1 = cc in omega arith

      go : (p : Phase) → phase m ≡ p → a_waiting n ≡ (step_in p g m).0 → WaitsFor m n
      go idle e h = absurd (let y : ◌≡◌ {A = ℕ} 0 1 = cc in omega arith)
      go sync1 e h = handshake sync2 (ap in_handshake e) (waiting answered mutator_count) refl h
      go sync2 e h = handshake mark (ap in_handshake e) (waiting answered mutator_count) refl h
      go mark e h = absurd (traced (trace_count m) h)
      go sweep e h = absurd (swept (lowest m g.segments) h)

  moves_on : in_handshake (phase m) ≡ true → NobodyOwes m → (step_of g m).0 ≡ a_moved
  unfolding step_of
  moves_on t f = go (phase m) t
    where
      nobody : waiting answered mutator_count ≡ 0
      nobody = waiting_same g m z mutator_count ∙ none_waited m mutator_count f

      go : (p : Phase) → in_handshake p ≡ true → (step_in p g m).0 ≡ a_moved
      go idle h = absurd (let y : ◌≡◌ {A = ℕ} 0 1 = cc in omega arith)
      go sync1 h = ap (λ n. (moved_or_waiting n answered sync2).0) nobody
      go sync2 h = ap (λ n. (moved_or_waiting n answered mark).0) nobody
      go mark h = absurd (let y : ◌≡◌ {A = ℕ} 0 1 = cc in omega arith)
      go sweep h = absurd (let y : ◌≡◌ {A = ℕ} 0 1 = cc in omega arith)

pub waits_only : WaitsOnly
waits_only = record {
  waits = λ g words after n right k q. waits_for g _ (sizes_of g words (sized g (length words) right)) n (q.exact right k).0;
  moves = λ g words after r right k q t f.
      sym (step_of_lem r) ∙ ap declared_step ((q.exact right k).0 ∙ moves_on g _ (sizes_of g words (sized g (length words) right)) t f);
}
