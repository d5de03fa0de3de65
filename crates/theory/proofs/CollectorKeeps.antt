-- The collector's calls keep all, on the abstract machine: start, and step in each phase.
use mathlib.Core.Path.{◌≡◌, refl, sym, ◌∙◌, subst}
use mathlib.Core.Logic.{◌⊎◌, inl, inr, ⊎_elim}
use mathlib.Core.Bool.{Bool, true, false, ◌&&◌}
use mathlib.Core.Option.{Option, none, some}
use mathlib.Core.List.{List, [], ◌∷◌}
use Prim.Native.Nat.{ℕ, zero, suc, ◌≤◌, ◌<◌}
use native.Mathlib.Omega.{arith}
use native.Mathlib.Decide.{ℕ_discrete}
use Rattle.theory.proofs.CallKeeps.{Coupled, check_ok}
use Rattle.theory.proofs.Completeness.{start_comp, phase_comp, trace_comp, sweep_comp}
use Rattle.theory.proofs.Graph.{bool_cases, clash}
use Rattle.theory.proofs.Invariant.{Inv}
use Rattle.theory.specs.Machine.{State, Live, set_acks, acknowledge, check, start, set_phase}
use Rattle.basics.specs.Pick.{one_if}
use Rattle.theory.specs.MachineCalls.{outside, answer_outside, waiting, move, trace_step, sweep_step, step_by}
use Rattle.theory.proofs.Simulation.{gc_sim}
use Rattle.theory.proofs.Updates.{upd_cases, upd_same}
use Rattle.theory.specs.Phases.{Phase, idle, sync1, sync2, mark, sweep, owes}
use Rattle.theory.specs.Unbounded.{Unbounded}
use Rattle.layout.specs.Geometry.{mutator_count, max_segments}
use Rattle.theory.proofs.CycleKeeps as Cycle

-- ---- a handshake's step: the outside mutators acknowledge

-- what acknowledging leaves alone, and that none is forgotten
pub record Later (st st' : State) : Type 0 where
  pub attached : (i : ℕ) → st'.attached i ≡ st.attached i
  pub inside : (i : ℕ) → st'.inside i ≡ st.inside i
  pub phase : st'.phase ≡ st.phase
  pub condemned : st'.condemned ≡ st.condemned
  pub up : (i : ℕ) → st.acks i ≤ st'.acks i

later_refl : (st : State) → Later st st
later_refl st = record { attached = λ i. refl; inside = λ i. refl; phase = refl; condemned = refl; up = λ i. omega arith }

later_trans : (a b c : State) → Later a b → Later b c → Later a c
later_trans a b c p q = record {
  attached = λ i. q.attached i ∙ p.attached i;
  inside = λ i. q.inside i ∙ p.inside i;
  phase = q.phase ∙ p.phase;
  condemned = q.condemned ∙ p.condemned;
  up = λ i. omega (arith, p.up i, q.up i);
}

owes_up : (p : Phase) (a b : ℕ) → a ≤ b → owes p a ≡ false → owes p b ≡ false
owes_up idle a b h e = refl
owes_up sync1 a zero h e = subst (λ z. owes sync1 z ≡ false) (let q : a ≡ 0 = omega arith in q) e
owes_up sync1 a (suc b) h e = refl
owes_up sync2 a zero h e = subst (λ z. owes sync2 z ≡ false) (let q : a ≡ 0 = omega arith in q) e
owes_up sync2 zero (suc zero) h e = e
owes_up sync2 (suc a) (suc zero) h e = subst (λ z. owes sync2 z ≡ false) (let q : suc a ≡ 1 = omega arith in q) e
owes_up sync2 a (suc (suc b)) h e = refl
owes_up mark a b h e = refl
owes_up sweep a b h e = refl

set-later : (st : State) (i n : ℕ) (l : List ℕ) → st.acks i ≤ n → Later st (set_acks st i n l)
set-later st i n l h = record {
  attached = λ j. refl;
  inside = λ j. refl;
  phase = refl;
  condemned = refl;
  up =
      λ j. ⊎_elim (λ q. subst (λ z. st.acks j ≤ z) (sym q.1) (subst (λ z. st.acks z ≤ n) (sym q.0) h)) (λ q. omega (arith, q.1))
      (upd_cases st.acks i n j);
}

acknowledge_later : (st : State) (i : ℕ) (p : Phase) (n : ℕ) → st.phase ≡ p → st.acks i ≡ n → Later st (acknowledge p n st i) × (owes p ((acknowledge p n st i).acks i) ≡ false)
acknowledge_later st i idle n e a = (later_refl st, refl)
acknowledge_later st i sync1 zero e a = (set-later st i 1 st.stack (omega arith), rw (upd_same st.acks i 1))
acknowledge_later st i sync1 (suc n) e a = (later_refl st, rw a)
acknowledge_later st i sync2 zero e a = (set-later st i 2 _ (omega arith), rw (upd_same st.acks i 2))
acknowledge_later st i sync2 (suc zero) e a = (set-later st i 2 _ (omega arith), rw (upd_same st.acks i 2))
acknowledge_later st i sync2 (suc (suc n)) e a = (later_refl st, rw a)
acknowledge_later st i mark n e a = (later_refl st, refl)
acknowledge_later st i sweep n e a = (later_refl st, refl)

-- after `answer_outside n` each outside mutator below n has acknowledged
pub outside_later : (n : ℕ) (st : State) → Later st (answer_outside n st)
outside_later zero st = later_refl st
outside_later (suc n) st = go ((answer_outside n st).attached n) ((answer_outside n st).inside n) (outside_later n st)
  where
    st₁ : State
    st₁ = answer_outside n st

    go : (a b : Bool) → Later st st₁ → Later st (outside a b st₁ (check st₁ n))
    go true false h = later_trans st st₁ (check st₁ n) h (acknowledge_later st₁ n st₁.phase (st₁.acks n) refl refl).0
    go true true h = h
    go false b h = h

outside_step : (n : ℕ) (st : State) → Later (answer_outside n st) (answer_outside (suc n) st)
outside_step n st = go ((answer_outside n st).attached n) ((answer_outside n st).inside n)
  where
    st₁ : State
    st₁ = answer_outside n st

    go : (a b : Bool) → Later st₁ (outside a b st₁ (check st₁ n))
    go true false = (acknowledge_later st₁ n st₁.phase (st₁.acks n) refl refl).0
    go true true = later_refl st₁
    go false b = later_refl st₁

outside_did : (n : ℕ) (st : State) (j : ℕ) → j < n → st.attached j ≡ true → st.inside j ≡ false → owes st.phase ((answer_outside n st).acks j) ≡ false
outside_did zero st j h o i = absurd (omega arith)
outside_did (suc n) st j h o i = go (ℕ_discrete j n) (λ (q : j < n). outside_did n st j q o i)
  where
    st₁ : State
    st₁ = answer_outside n st

    at : (a b : Bool) → a ≡ true → b ≡ false → owes st₁.phase ((outside a b st₁ (check st₁ n)).acks n) ≡ false
    at a b p q = rw (p, q) (acknowledge_later st₁ n st₁.phase (st₁.acks n) refl refl).1

    go : Dec (j ≡ n) → (j < n → owes st.phase ((answer_outside n st).acks j) ≡ false) → owes st.phase ((answer_outside (suc n) st).acks j) ≡ false
    go (yes e) r =
        subst (λ z. owes st.phase ((answer_outside (suc n) st).acks z) ≡ false) (sym e)
        (subst (λ p. owes p ((answer_outside (suc n) st).acks n) ≡ false) (outside_later n st).phase
        (at (st₁.attached n) (st₁.inside n) ((outside_later n st).attached n ∙ subst (λ z. st.attached z ≡ true) e o) ((outside_later n st).inside n ∙ subst (λ z. st.inside z ≡ false) e i)))
    go (no k) r = owes_up st.phase ((answer_outside n st).acks j) ((answer_outside (suc n) st).acks j) ((outside_step n st).up j) (r (omega arith))

waiting_none : (n : ℕ) (st : State) → waiting n st ≡ 0 → (j : ℕ) → j < n → st.attached j ≡ true → st.inside j ≡ true → owes st.phase (st.acks j) ≡ false
waiting_none zero st e j h o i = absurd (omega arith)
waiting_none (suc n) st e j h o i = go (ℕ_discrete j n) (λ (q : j < n). waiting_none n st (omega arith) j q o i)
  where
    bit0 : (a b c : Bool) → one_if (a && (b && c)) ≡ 0 → a ≡ true → b ≡ true → c ≡ false
    bit0 true true true e p q = absurd (omega arith)
    bit0 true true false e p q = refl
    bit0 true false c e p q = clash q refl
    bit0 false b c e p q = clash p refl

    go : Dec (j ≡ n) → (j < n → owes st.phase (st.acks j) ≡ false) → owes st.phase (st.acks j) ≡ false
    go (yes k) r =
        subst (λ z. owes st.phase (st.acks z) ≡ false) (sym k)
        (bit0 (st.attached n) (st.inside n) (owes st.phase (st.acks n)) (omega arith) (subst (λ z. st.attached z ≡ true) k o) (subst (λ z. st.inside z ≡ true) k i))
    go (no k) r = r (omega arith)

-- none waits: all have acknowledged
all_answered : (st : State) → waiting mutator_count (answer_outside mutator_count st) ≡ 0 → (j : ℕ) → j < mutator_count
    → (answer_outside mutator_count st).attached j ≡ true → owes st.phase ((answer_outside mutator_count st).acks j) ≡ false
all_answered st e j h o = go (bool_cases ((answer_outside mutator_count st).inside j))
  where
    go : ((answer_outside mutator_count st).inside j ≡ true) ⊎ ((answer_outside mutator_count st).inside j ≡ false) → owes st.phase ((answer_outside mutator_count st).acks j) ≡ false
    go (inl i) = subst (λ p. owes p ((answer_outside mutator_count st).acks j) ≡ false) (outside_later 32 st).phase (waiting_none 32 (answer_outside mutator_count st) e j h o i)
    go (inr i) = outside_did 32 st j h (sym ((outside_later 32 st).attached j) ∙ o) (sym ((outside_later 32 st).inside j) ∙ i)

owes1 : (a : ℕ) → owes sync1 a ≡ false → 1 ≤ a
owes1 zero e = clash refl e
owes1 (suc a) e = omega arith

owes2 : (a : ℕ) → owes sync2 a ≡ false → 2 ≤ a
owes2 zero e = clash refl e
owes2 (suc zero) e = clash refl e
owes2 (suc (suc a)) e = omega arith

-- ---- the collector's calls keep all

-- what picks the segment to sweep
pub record Pick (lowest : State → Option ℕ) (st : State) : Type 0 where
  pub condemned : (g : ℕ) → lowest st ≡ some g → st.condemned g ≡ true
  pub none_left : lowest st ≡ none → (g : ℕ) → g < max_segments → st.condemned g ≡ false

module _ (segment_of : ℕ → ℕ) (lowest : State → Option ℕ) where
  outside_ok : (n : ℕ) (P : ℕ → Type 0) (put : ℕ → Option ℕ) (st : State) (un : Unbounded) → Coupled segment_of P put st un → Coupled segment_of P put (answer_outside n st) un
  outside_ok zero P put st un o = o
  outside_ok (suc n) P put st un o = go ((answer_outside n st).attached n) ((answer_outside n st).inside n) refl (outside_ok n P put st un o)
    where
      st₁ : State
      st₁ = answer_outside n st

      go : (a b : Bool) → st₁.attached n ≡ a → Coupled segment_of P put st₁ un → Coupled segment_of P put (outside a b st₁ (check st₁ n)) un
      go true false e o = check_ok segment_of P put st₁ un o n e
      go true true e o = o
      go false b e o = o

  phase_ok : (P : ℕ → Type 0) (put : ℕ → Option ℕ) (st : State) (un : Unbounded) (p : Phase) → Coupled segment_of P put st un
      → Inv segment_of (set_phase st p) → Coupled segment_of P put (set_phase st p) un
  phase_ok P put st un p o v = record { inv = v; sim = gc_sim put st un o.sim _ _ _ _ _ _ (λ b q. q); few = o.few; comp = phase_comp segment_of P st o.inv o.comp p }

  pub step_ok : (P : ℕ → Type 0) (put : ℕ → Option ℕ) (st : State) (un : Unbounded) → Pick lowest st → Coupled segment_of P put st un → (p : Phase)
      → st.phase ≡ p → Coupled segment_of P put (step_by segment_of lowest p st) un
  step_ok P put st un lo o idle e = o
  step_ok P put st un lo o sync1 e = go (waiting mutator_count (answer_outside mutator_count st)) refl (outside_ok 32 P put st un o)
    where
      go : (n : ℕ) → waiting mutator_count (answer_outside mutator_count st) ≡ n → Coupled segment_of P put (answer_outside mutator_count st) un
          → Coupled segment_of P put (move n (answer_outside mutator_count st) sync2) un
      go (suc n) w o₁ = o₁
      go zero w o₁ =
          phase_ok P put (answer_outside mutator_count st) un sync2 o₁
          (Cycle.to_sync2 segment_of (answer_outside mutator_count st) o₁.inv ((outside_later 32 st).phase ∙ e)
          (λ i h. owes1 _ (subst (λ p. owes p ((answer_outside mutator_count st).acks i) ≡ false) e (all_answered st w i (o₁.few i h) h))))
  step_ok P put st un lo o sync2 e = go (waiting mutator_count (answer_outside mutator_count st)) refl (outside_ok 32 P put st un o)
    where
      go : (n : ℕ) → waiting mutator_count (answer_outside mutator_count st) ≡ n → Coupled segment_of P put (answer_outside mutator_count st) un
          → Coupled segment_of P put (move n (answer_outside mutator_count st) mark) un
      go (suc n) w o₁ = o₁
      go zero w o₁ =
          phase_ok P put (answer_outside mutator_count st) un mark o₁
          (Cycle.to_mark segment_of (answer_outside mutator_count st) o₁.inv ((outside_later 32 st).phase ∙ e)
          (λ i h. owes2 _ (subst (λ p. owes p ((answer_outside mutator_count st).acks i) ≡ false) e (all_answered st w i (o₁.few i h) h))))
  step_ok P put st un lo o mark e = go st.stack refl
    where
      go : (l : List ℕ) → st.stack ≡ l → Coupled segment_of P put (trace_step l st) un
      go [] k = phase_ok P put st un sweep o (Cycle.to_sweep segment_of st o.inv e k)
      go (b ∷ l) k = record {
        inv = Cycle.trace_inv segment_of st o.inv b l e k;
        sim = gc_sim put st un o.sim _ _ _ _ _ _ (λ x q. Cycle.live_back segment_of st o.inv b l e k q);
        few = o.few;
        comp = trace_comp segment_of P st o.inv o.comp b l e k;
      }
  step_ok P put st un lo o sweep e = go (lowest st) refl
    where
      go : (v : Option ℕ) → lowest st ≡ v → Coupled segment_of P put (sweep_step segment_of v st) un
      go none k = phase_ok P put st un idle o (Cycle.to_idle segment_of st o.inv e)
      go (some g) k = record {
        inv = Cycle.sweep_inv segment_of st o.inv g e (lo.condemned g k);
        sim = gc_sim put st un o.sim _ _ _ _ _ _ (λ x q. q);
        few = o.few;
        comp = sweep_comp segment_of P st o.inv o.comp g;
      }

-- what was live when the cycle began is all that may be marked
pub start_ok : (segment_of : ℕ → ℕ) (full : ℕ → Bool) (P : ℕ → Type 0) (put : ℕ → Option ℕ) (st : State) (un : Unbounded)
    → Coupled segment_of P put st un → Coupled segment_of (Live st) put (start st full) un
start_ok segment_of full P put st un o =
    record { inv = Cycle.start_inv segment_of st o.inv full; sim = gc_sim put st un o.sim _ _ _ _ _ _ (λ b q. q); few = o.few; comp = start_comp segment_of st full }
