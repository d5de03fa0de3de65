-- A store keeps the invariant.
use mathlib.Core.Path.{◌≡◌, refl, ap, sym, ◌∙◌}
use mathlib.Core.Logic.{◌⊎◌, inl, inr, ⊎_elim}
use mathlib.Core.Option.{Option, some}
use mathlib.Core.List.{List, Memᴰ}
use Prim.Native.Nat.{ℕ, zero, suc, ◌≤◌, ◌<◌}
use native.Mathlib.Omega.{arith}
use Rattle.theory.proofs.Graph.{reach_map, clash, safe_map}
use Rattle.theory.proofs.Invariant.{Tracing, Quiet, Core, Inv, in_safe}
use Rattle.theory.specs.Machine.{State, Holds, Root, Points, Grey, Live, Reached, Covered, barrier, store}
use Rattle.theory.proofs.Updates.{upd2_cases, push_keep, push_inv, push_did, push_stack, StackOk, In}
use Rattle.theory.specs.Phases.{Phase, idle, sync1, sync2, mark, sweep, Duty, nothing, both, old, duty}
use Rattle.theory.specs.Reach.{root, next}

duty_sync2 : (n : ℕ) → 1 ≤ n → duty sync2 n ≡ both
duty_sync2 zero h = absurd (omega arith)
duty_sync2 (suc n) h = refl

module _ (segment_of : ℕ → ℕ) (st : State) (inv : Inv segment_of st) (i a f : ℕ) (new : Option ℕ)
    (ha : Holds st i a) (hf : f < st.pointer_count a) (hn : (b : ℕ) → new ≡ some b → Holds st i b) where
  abbrev after : State
  after = store st i a f new

  pub edge_back : (x y : ℕ) → Points after x y → Points st x y ⊎ ((x ≡ a) × (new ≡ some y))
  edge_back x y e = go (upd2_cases st.pointer a f new x e.0)
    where
      go : ((x ≡ a) × (e.0 ≡ f) × (after.pointer x e.0 ≡ new)) ⊎ (after.pointer x e.0 ≡ st.pointer x e.0) → Points st x y ⊎ ((x ≡ a) × (new ≡ some y))
      go (inl q) = inr (q.0, sym q.2 ∙ e.2)
      go (inr q) = inl (e.0, e.1, sym q ∙ e.2)

  edge_on : (x y : ℕ) → Points st x y → Points after x y ⊎ (st.pointer a f ≡ some y)
  edge_on x y e = go (upd2_cases st.pointer a f new x e.0)
    where
      go : ((x ≡ a) × (e.0 ≡ f) × (after.pointer x e.0 ≡ new)) ⊎ (after.pointer x e.0 ≡ st.pointer x e.0) → Points after x y ⊎ (st.pointer a f ≡ some y)
      go (inl q) = inr (sym (ap (λ z. st.pointer z f) q.0) ∙ sym (ap (st.pointer x) q.1) ∙ e.2)
      go (inr q) = inl (e.0, e.1, q ∙ e.2)

  bar_keep : (d : Duty) {x : ℕ} → Memᴰ x st.stack → Memᴰ x (barrier d st.marked new (st.pointer a f) st.stack)
  bar_keep nothing h = h
  bar_keep both h = push_keep _ _ _ (push_keep _ _ _ h)
  bar_keep old h = push_keep _ _ _ h

  pub bar_inv : (d : Duty) {x : ℕ} → Memᴰ x (barrier d st.marked new (st.pointer a f) st.stack) → Memᴰ x st.stack ⊎ ((new ≡ some x) ⊎ (st.pointer a f ≡ some x))
  bar_inv nothing h = inl h
  bar_inv both h = ⊎_elim (λ q. ⊎_elim inl (λ e. inr (inl e)) (push_inv _ _ _ q)) (λ e. inr (inr e)) (push_inv _ _ _ h)
  bar_inv old h = ⊎_elim inl (λ e. inr (inr e)) (push_inv _ _ _ h)

  bar_stack : (d : Duty) → StackOk st.marked (barrier d st.marked new (st.pointer a f) st.stack)
  bar_stack nothing = inv.stack
  bar_stack both = push_stack _ _ _ (push_stack _ _ _ inv.stack)
  bar_stack old = push_stack _ _ _ inv.stack

  pub reached_back : {b : ℕ} → Reached after b → Reached st b
  reached_back p = reach_map (λ x h. root h) (λ x y q e. ⊎_elim inl (λ w. inr (root (i, hn y w.1))) (edge_back x y e)) p

  pub grey_back : (x : ℕ) → Grey after x → Live st x
  grey_back x h = ⊎_elim (λ g. root (inr g)) (λ w. ⊎_elim (λ e. root (inl (i, hn x e))) (λ e. next (root (inl (i, ha))) (f, hf, e)) w) (bar_inv (duty st.phase (st.acks i)) h)

  pub live_back : {b : ℕ} → Live after b → Live st b
  live_back p = reach_map (λ x h. ⊎_elim (λ (w : Root st x). root (inl w)) (grey_back x) h) (λ x y q e. ⊎_elim inl (λ w. inr (root (inl (i, hn y w.1)))) (edge_back x y e)) p

  -- with the old value pushed and the new one safe, all is kept
  core_store : Core st → ((y : ℕ) → st.pointer a f ≡ some y → In st.marked after.stack y)
      → ((y : ℕ) → new ≡ some y → ((x : ℕ) → Covered st x → Covered after x) → Covered after y) → Core after
  core_store c ho hs = record {
    roots_covered = λ j b q h. sm b (c.roots_covered j b q h);
    pointers_covered = λ x y p m e. ⊎_elim (λ e'. sm y (c.pointers_covered x y (live_back p) m e')) (λ w. hs y w.1 sm) (edge_back x y e);
  }
    where
      sm : (x : ℕ) → Covered st x → Covered after x
      sm x h = safe_map (λ x m. m) (λ x g. inr (root (bar_keep (duty st.phase (st.acks i)) g))) (λ x y p w e. ⊎_elim (λ e'. inl (w, e')) (λ o. inr (in_safe after y (ho y o))) (edge_on x y e)) h

  abbrev stack_of : Duty → List ℕ
  stack_of d = barrier d st.marked new (st.pointer a f) st.stack

  both_old : (d : Duty) → d ≡ both → (y : ℕ) → st.pointer a f ≡ some y → In st.marked (stack_of d) y
  both_old d e y q = rw (e, q) (push_did _ _ _)

  both_new : (d : Duty) → d ≡ both → (y : ℕ) → new ≡ some y → In st.marked (stack_of d) y
  both_new d e y q = rw (e, q) (⊎_elim inl (λ h. inr (push_keep _ _ _ h)) (push_did st.marked y st.stack))

  old_old : (d : Duty) → d ≡ old → (y : ℕ) → st.pointer a f ≡ some y → In st.marked (stack_of d) y
  old_old d e y q = rw (e, q) (push_did _ _ _)

  store_core : Tracing st.phase → (p : Phase) → st.phase ≡ p → Tracing p → Core after
  store_core t sync1 e _ = record { roots_covered = λ j b q h. absurd (omega (arith, inv.first e j)); pointers_covered = λ x y p m ed. clash m (inv.blank e x (live_back p)) }
  store_core t sync2 e _ = core_store (inv.core t) (both_old _ d) (λ y q sm. in_safe after y (both_new _ d y q))
    where
      d : duty st.phase (st.acks i) ≡ both
      d = ap (λ p. duty p (st.acks i)) e ∙ duty_sync2 _ (inv.second e i ha.1)
  store_core t mark e _ = core_store (inv.core t) (old_old _ (ap (λ p. duty p (st.acks i)) e)) (λ y q sm. sm y ((inv.core t).roots_covered i y (inv.all e i ha.1) (hn y q)))
  store_core t idle e h = absurd h
  store_core t sweep e h = absurd h

  quiet_duty : (p : Phase) (n : ℕ) → Quiet p → duty p n ≡ nothing
  quiet_duty idle n q = refl
  quiet_duty sweep n q = refl
  quiet_duty sync1 n q = absurd q
  quiet_duty sync2 n q = absurd q
  quiet_duty mark n q = absurd q

  pub store_inv : Inv segment_of after
  store_inv = record {
    valid = λ b p. inv.valid b (live_back p);
    stack = bar_stack (duty st.phase (st.acks i));
    quiet = λ q. ap stack_of (quiet_duty st.phase (st.acks i) q) ∙ inv.quiet q;
    blank = λ e b p. inv.blank e b (live_back p);
    first = inv.first;
    second = inv.second;
    all = inv.all;
    core = λ t. store_core t st.phase refl t;
    kept = λ e b p. inv.kept e b (reached_back p);
  }
