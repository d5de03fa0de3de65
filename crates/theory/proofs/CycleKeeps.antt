-- The collector's calls, acknowledgements, and mutators that come and go keep the invariant.
use mathlib.Core.Path.{◌≡◌, refl, ap, sym, ◌∙◌, subst}
use mathlib.Core.Logic.{◌⊎◌, inl, inr, ⊎_elim, ◌≢◌}
use mathlib.Core.Bool.{Bool, true, false}
use mathlib.Core.Option.{Option, none, some}
use mathlib.Core.List.Memᴰ
use mathlib.Core.List.{List, [], ◌∷◌, Memᴰ}
use Prim.Native.Nat.{ℕ, zero, suc, ◌≤◌}
use native.Mathlib.Omega.{arith}
use native.Mathlib.Decide.{ℕ_discrete}
use Rattle.theory.proofs.Graph.{reach_ind, reach_map, reach_empty, clash, safe_map}
use Rattle.theory.proofs.Invariant.{Acked, Tracing, Quiet, Core, Inv, reached_live, in_safe, none_some}
use Rattle.theory.specs.Machine.{set_values, State, Holds, Root, Points, Grey, Live, Reached, Covered, attach, detach, set_inside, set_acks}
use Rattle.theory.specs.Machine.{acknowledge, check, start, set_phase, trace, sweep_segment}
use Rattle.theory.proofs.Updates.{upd_cases, upd_same, upd_other, tab_mem, tab_inv, pushes_keep, pushes_inv, pushes_did, pushes_stack, StackOk, Nodup, In}
use Rattle.theory.specs.TraceStack.{tab, pushes}
use Rattle.theory.specs.Phases.{Phase, idle, sync1, sync2, mark, sweep, newcomer}
use Rattle.theory.specs.Reach.{root, next}
use Rattle.theory.specs.Update.{if_dec, upd}
use Rattle.layout.specs.Geometry.{root_count}

abbrev pub phase_no : Phase → ℕ
phase_no idle = 0
phase_no sync1 = 1
phase_no sync2 = 2
phase_no mark = 3
phase_no sweep = 4

-- ---- an acknowledgement: mutator i has now acknowledged n times, and the stack is l

module _ (segment_of : ℕ → ℕ) (st : State) (inv : Inv segment_of st) (i n : ℕ) (l : List ℕ)
    (up : st.acks i ≤ n) (hs : StackOk st.marked l)
    (keep : (x : ℕ) → Memᴰ x st.stack → Memᴰ x l)
    (back : (x : ℕ) → Memᴰ x l → Memᴰ x st.stack ⊎ Holds st i x)
    (still : Quiet st.phase → l ≡ []) (low : st.phase ≡ sync1 → n ≤ 1)
    (did : (b : ℕ) → Acked n → Holds st i b → In st.marked l b) where
  acks_up : (j : ℕ) → st.acks j ≤ (set_acks st i n l).acks j
  acks_up j = go (upd_cases st.acks i n j)
    where
      go : ((j ≡ i) × (upd st.acks i n j ≡ n)) ⊎ ((j ≢ i) × (upd st.acks i n j ≡ st.acks j)) → st.acks j ≤ upd st.acks i n j
      go (inl q) = rw q.1 (rw q.0 up)
      go (inr q) = omega (arith, q.1)

  pub acks_live : {b : ℕ} → Live (set_acks st i n l) b → Live st b
  acks_live p = reach_map (λ x h. ⊎_elim (λ (r : Root st x). root (inl r)) (λ g. ⊎_elim (λ g'. root (inr g')) (λ q. root (inl (i, q))) (back x g)) h) (λ x y q e. inl e) p

  acks_safe : (x : ℕ) → Covered st x → Covered (set_acks st i n l) x
  acks_safe x h = safe_map (λ x m. m) (λ x g. inr (root (keep x g))) (λ x y p w e. inl (w, e)) h

  acks_roots : Core st → (j b : ℕ) → Acked (upd st.acks i n j) → Holds st j b → Covered (set_acks st i n l) b
  acks_roots c j b q h = go (upd_cases st.acks i n j)
    where
      go : ((j ≡ i) × (upd st.acks i n j ≡ n)) ⊎ ((j ≢ i) × (upd st.acks i n j ≡ st.acks j)) → Covered (set_acks st i n l) b
      go (inl w) = in_safe (set_acks st i n l) b (did b (omega (arith, w.1)) (subst (λ z. Holds st z b) w.0 h))
      go (inr w) = acks_safe b (c.roots_covered j b (omega (arith, w.1)) h)

  acks_low : st.phase ≡ sync1 → (j : ℕ) → upd st.acks i n j ≤ 1
  acks_low e j = go (upd_cases st.acks i n j)
    where
      go : ((j ≡ i) × (upd st.acks i n j ≡ n)) ⊎ ((j ≢ i) × (upd st.acks i n j ≡ st.acks j)) → upd st.acks i n j ≤ 1
      go (inl w) = omega (arith, w.1, low e)
      go (inr w) = omega (arith, w.1, inv.first e j)

  acks_inv : Inv segment_of (set_acks st i n l)
  acks_inv = record {
    valid = λ b p. inv.valid b (acks_live p);
    stack = hs;
    quiet = still;
    blank = λ e b p. inv.blank e b (acks_live p);
    first = acks_low;
    second = λ e j o. omega (arith, inv.second e j o, acks_up j);
    all = λ e j o. omega (arith, inv.all e j o, acks_up j);
    core = λ t. record { roots_covered = acks_roots (inv.core t); pointers_covered = λ x y p m e. acks_safe y ((inv.core t).pointers_covered x y (acks_live p) m e) };
    kept = inv.kept;
  }

pub acknowledge_back : (st : State) (i : ℕ) → st.attached i ≡ true → (x : ℕ) → Memᴰ x (pushes st.marked (tab root_count (st.root i)) st.stack) → Memᴰ x st.stack ⊎ Holds st i x
acknowledge_back st i attached x h = ⊎_elim inl (λ q. let w = tab_inv root_count (st.root i) q in inr (w.0, attached, w.1, w.2)) (pushes_inv st.marked (tab root_count (st.root i)) st.stack h)

pub acknowledge_live : (st : State) (i : ℕ) → st.attached i ≡ true → {b : ℕ} → Live (set_acks st i 2 (pushes st.marked (tab root_count (st.root i)) st.stack)) b → Live st b
acknowledge_live st i attached p =
    reach_map
    (λ x h. ⊎_elim (λ (r : Root st x). root (inl r)) (λ g. ⊎_elim (λ g'. root (inr g')) (λ q. root (inl (i, q))) (acknowledge_back st i attached x g)) h)
    (λ x y q e. inl e) p

module _ (segment_of : ℕ → ℕ) (st : State) (inv : Inv segment_of st) (i : ℕ) (attached : st.attached i ≡ true) where
  second_acknowledge : st.phase ≡ sync2 → st.acks i ≤ 2 → Inv segment_of (set_acks st i 2 (pushes st.marked (tab root_count (st.root i)) st.stack))
  second_acknowledge e u =
      acks_inv segment_of st inv i 2 l u (pushes_stack st.marked (tab root_count (st.root i)) st.stack inv.stack)
      (λ x h. pushes_keep st.marked (tab root_count (st.root i)) st.stack h) (acknowledge_back st i attached)
      (λ q. absurd (subst Quiet e q)) (λ e'. absurd (omega (arith, ap phase_no (sym e ∙ e')))) did
    where
      l : List ℕ
      l = pushes st.marked (tab root_count (st.root i)) st.stack

      did : (b : ℕ) → Acked 2 → Holds st i b → In st.marked l b
      did b _ h = pushes_did st.marked (tab root_count (st.root i)) st.stack b (Memᴰ.cast (sym h.3) (tab_mem root_count (st.root i) h.0 h.2))

  first_acknowledge : st.phase ≡ sync1 → st.acks i ≤ 1 → Inv segment_of (set_acks st i 1 st.stack)
  first_acknowledge e u = acks_inv segment_of st inv i 1 st.stack u inv.stack (λ x h. h) (λ x h. inl h) inv.quiet (λ _. omega arith) (λ b q h. absurd (omega arith))

  acknowledge_inv : (p : Phase) (n : ℕ) → st.phase ≡ p → st.acks i ≡ n → Inv segment_of (acknowledge p n st i)
  acknowledge_inv idle n e a = inv
  acknowledge_inv sync1 zero e a = first_acknowledge e (omega arith)
  acknowledge_inv sync1 (suc n) e a = inv
  acknowledge_inv sync2 zero e a = second_acknowledge e (omega arith)
  acknowledge_inv sync2 (suc zero) e a = second_acknowledge e (omega arith)
  acknowledge_inv sync2 (suc (suc n)) e a = inv
  acknowledge_inv mark n e a = inv
  acknowledge_inv sweep n e a = inv

  pub check_inv : Inv segment_of (check st i)
  check_inv = acknowledge_inv st.phase (st.acks i) refl refl

-- ---- start, and the moves from phase to phase

module _ (segment_of : ℕ → ℕ) (st : State) (inv : Inv segment_of st) where
  pub start_inv : (full : ℕ → Bool) → Inv segment_of (start st full)
  start_inv full = record {
    valid = inv.valid;
    stack = record { white = λ x h. refl; nodup = inv.stack.nodup };
    quiet = λ q. absurd q;
    blank = λ e b p. refl;
    first = λ e i. omega arith;
    second = λ e. absurd (omega (arith, ap phase_no e));
    all = λ e. absurd (omega (arith, ap phase_no e));
    core = λ t. record { roots_covered = λ i b q h. absurd (omega arith); pointers_covered = λ x y p m e. clash m refl };
    kept = λ e. absurd (omega (arith, ap phase_no e));
  }

  pub to_sync2 : st.phase ≡ sync1 → ((i : ℕ) → st.attached i ≡ true → 1 ≤ st.acks i) → Inv segment_of (set_phase st sync2)
  to_sync2 p h = record {
    valid = inv.valid;
    stack = inv.stack;
    quiet = λ q. absurd q;
    blank = λ e. absurd (omega (arith, ap phase_no e));
    first = λ e. absurd (omega (arith, ap phase_no e));
    second = λ e. h;
    all = λ e. absurd (omega (arith, ap phase_no e));
    core = λ t. let c = inv.core (subst Tracing (sym p) tt) in record { roots_covered = c.roots_covered; pointers_covered = c.pointers_covered };
    kept = λ e. absurd (omega (arith, ap phase_no e));
  }

  pub to_mark : st.phase ≡ sync2 → ((i : ℕ) → st.attached i ≡ true → 2 ≤ st.acks i) → Inv segment_of (set_phase st mark)
  to_mark p h = record {
    valid = inv.valid;
    stack = inv.stack;
    quiet = λ q. absurd q;
    blank = λ e. absurd (omega (arith, ap phase_no e));
    first = λ e. absurd (omega (arith, ap phase_no e));
    second = λ e. absurd (omega (arith, ap phase_no e));
    all = λ e. h;
    core = λ t. let c = inv.core (subst Tracing (sym p) tt) in record { roots_covered = c.roots_covered; pointers_covered = c.pointers_covered };
    kept = λ e. absurd (omega (arith, ap phase_no e));
  }

  -- at the end of mark the stack is empty, so all that is reached is marked
  no_grey : st.stack ≡ [] → (x : ℕ) → Covered st x → st.marked x ≡ true
  no_grey e x (inl h) = h
  no_grey e x (inr p) = absurd (reach_empty {R = Grey st} (λ y g. Memᴰ.not-nil (subst (Memᴰ y) e g)) p)

  pub all_marked : st.phase ≡ mark → st.stack ≡ [] → {b : ℕ} → Reached st b → st.marked b ≡ true
  all_marked p e r = reach_ind (λ x. st.marked x ≡ true) (λ x h. no_grey e x (c.roots_covered h.0 x (inv.all p h.0 h.1.1) h.1))
      (λ x y q m ed. no_grey e y (c.pointers_covered x y (reached_live st q) m ed)) r
    where
      c : Core st
      c = inv.core (subst Tracing (sym p) tt)

  pub to_sweep : st.phase ≡ mark → st.stack ≡ [] → Inv segment_of (set_phase st sweep)
  to_sweep p h = record {
    valid = inv.valid;
    stack = inv.stack;
    quiet = λ q. h;
    blank = λ e. absurd (omega (arith, ap phase_no e));
    first = λ e. absurd (omega (arith, ap phase_no e));
    second = λ e. absurd (omega (arith, ap phase_no e));
    all = λ e. absurd (omega (arith, ap phase_no e));
    core = λ t. absurd t;
    kept = λ e b r d. all_marked p h r;
  }

  pub to_idle : st.phase ≡ sweep → Inv segment_of (set_phase st idle)
  to_idle p = record {
    valid = inv.valid;
    stack = inv.stack;
    quiet = λ q. inv.quiet (subst Quiet (sym p) tt);
    blank = λ e. absurd (omega (arith, ap phase_no e));
    first = λ e. absurd (omega (arith, ap phase_no e));
    second = λ e. absurd (omega (arith, ap phase_no e));
    all = λ e. absurd (omega (arith, ap phase_no e));
    core = λ t. absurd t;
    kept = λ e. absurd (omega (arith, ap phase_no e));
  }

-- ---- a trace step

module _ (segment_of : ℕ → ℕ) (st : State) (inv : Inv segment_of st) (b : ℕ) (l : List ℕ) (hp : st.phase ≡ mark) (hl : st.stack ≡ b ∷ l) where
  abbrev after : State
  after = trace st b l

  grey_cases : (x : ℕ) → Grey st x → (x ≡ b) ⊎ Memᴰ x l
  grey_cases x g = Memᴰ.cases_cons (subst (Memᴰ x) hl g)

  grey_top : Grey st b
  grey_top = subst (Memᴰ b) (sym hl) (Memᴰ.head refl)

  grey_rest : (x : ℕ) → Memᴰ x l → Grey st x
  grey_rest x h = subst (Memᴰ x) (sym hl) (Memᴰ.tail h)

  rest_other : (x : ℕ) → Memᴰ x l → x ≢ b
  rest_other x h e = (subst Nodup hl inv.stack.nodup).0 (Memᴰ.cast (sym e) h)

  rest_stack : StackOk after.marked l
  rest_stack = record { white = λ x h. upd_other st.marked b true x (rest_other x h) ∙ inv.stack.white x (grey_rest x h); nodup = (subst Nodup hl inv.stack.nodup).1 }

  child_in : (y : ℕ) → Points st b y → In after.marked after.stack y
  child_in y e = pushes_did after.marked (tab (st.pointer_count b) (st.pointer b)) l y (Memᴰ.cast (sym e.2) (tab_mem (st.pointer_count b) (st.pointer b) e.0 e.1))

  pub grey_back : (x : ℕ) → Grey after x → Live st x
  grey_back x g =
      ⊎_elim (λ h. root (inr (grey_rest x h))) (λ h. next (root (inr grey_top)) (tab_inv (st.pointer_count b) (st.pointer b) h))
      (pushes_inv after.marked (tab (st.pointer_count b) (st.pointer b)) l g)

  pub live_back : {x : ℕ} → Live after x → Live st x
  live_back p = reach_map (λ x h. ⊎_elim (λ (r : Root st x). root (inl r)) (grey_back x) h) (λ x y q e. inl e) p

  mark_mono : (x : ℕ) → st.marked x ≡ true → after.marked x ≡ true
  mark_mono x h = ⊎_elim (λ q. q.1) (λ q. q.1 ∙ h) (upd_cases st.marked b true x)

  child_safe : (x y : ℕ) → x ≡ b → Points st x y → Covered after y
  child_safe x y q e = in_safe after y (child_in y (subst (λ z. Points st z y) q e))

  trace_safe : (x : ℕ) → Covered st x → Covered after x
  trace_safe x h = safe_map mark_mono
      (λ x g. ⊎_elim (λ q. inl (ap after.marked q ∙ upd_same st.marked b true)) (λ h. inr (root (pushes_keep after.marked (tab (st.pointer_count b) (st.pointer b)) l h))) (grey_cases x g))
      (λ x y p w e. ⊎_elim (λ q. inr (child_safe x y q.0 e)) (λ q. inl (q.1 ∙ w, e)) (upd_cases st.marked b true x)) h

  pub trace_inv : Inv segment_of after
  trace_inv = record {
    valid = λ x p. inv.valid x (live_back p);
    stack = pushes_stack after.marked (tab (st.pointer_count b) (st.pointer b)) l rest_stack;
    quiet = λ q. absurd (subst Quiet hp q);
    blank = λ e. absurd (omega (arith, ap phase_no (sym hp ∙ e)));
    first = inv.first;
    second = inv.second;
    all = inv.all;
    core = λ t. record {
      roots_covered = λ i x q h. trace_safe x ((inv.core t).roots_covered i x q h);
      pointers_covered = λ x y p m e. ⊎_elim (λ q. child_safe x y q.0 e) (λ q. trace_safe y ((inv.core t).pointers_covered x y (live_back p) (sym q.1 ∙ m) e)) (upd_cases st.marked b true x);
    };
    kept = λ e. absurd (omega (arith, ap phase_no (sym hp ∙ e)));
  }

-- ---- a sweep step

pub quiet_reached : (segment_of : ℕ → ℕ) (st : State) → Inv segment_of st → Quiet st.phase → {b : ℕ} → Live st b → Reached st b
quiet_reached segment_of st inv k p = reach_map (λ x h. ⊎_elim (λ (r : Root st x). root r) (λ q. absurd (Memᴰ.not-nil (subst (Memᴰ x) (inv.quiet k) q))) h) (λ x y q e. inl e) p

module _ (segment_of : ℕ → ℕ) (st : State) (inv : Inv segment_of st) (g : ℕ) (hp : st.phase ≡ sweep) (hg : st.condemned g ≡ true) where
  pub live_reached : {b : ℕ} → Live st b → Reached st b
  live_reached p = reach_map (λ x h. ⊎_elim (λ (r : Root st x). root r) (λ q. absurd (Memᴰ.not-nil (subst (Memᴰ x) (inv.quiet (subst Quiet (sym hp) tt)) q))) h) (λ x y q e. inl e) p

  sweep_valid : (b : ℕ) → Live st b → (sweep_segment segment_of st g).used b ≡ true
  sweep_valid b p = go (ℕ_discrete (segment_of b) g)
    where
      go : (d : Dec (segment_of b ≡ g)) → if_dec d (st.marked b) (st.used b) ≡ true
      go (yes e) = inv.kept hp b (live_reached p) (ap st.condemned e ∙ hg)
      go (no n) = inv.valid b p

  pub sweep_inv : Inv segment_of (sweep_segment segment_of st g)
  sweep_inv = record {
    valid = sweep_valid;
    stack = inv.stack;
    quiet = inv.quiet;
    blank = inv.blank;
    first = inv.first;
    second = inv.second;
    all = inv.all;
    core = λ t. absurd (subst Tracing hp t);
    kept = λ e b r d. inv.kept e b r (⊎_elim (λ q. clash d q.1) (λ q. sym q.1 ∙ d) (upd_cases st.condemned g false (segment_of b)));
  }

-- ---- mutators come and go

module _ (segment_of : ℕ → ℕ) (st : State) (inv : Inv segment_of st) (i : ℕ) where
  pub detach_holds : (j b : ℕ) → Holds (detach st i) j b → Holds st j b
  detach_holds j b h = go (upd_cases st.attached i false j) (upd_cases st.root i (λ _. none) j)
    where
      go : ((j ≡ i) × (upd st.attached i false j ≡ false)) ⊎ ((j ≢ i) × (upd st.attached i false j ≡ st.attached j))
          → ((j ≡ i) × (upd st.root i (λ _. none) j ≡ (λ _. none))) ⊎ ((j ≢ i) × (upd st.root i (λ _. none) j ≡ st.root j)) → Holds st j b
      go (inl q) w = clash h.1 q.1
      go (inr q) (inl w) = absurd (q.0 w.0)
      go (inr q) (inr w) = (h.0, sym q.1 ∙ h.1, h.2, sym (ap (λ (z : ℕ → Option ℕ). z h.0) w.1) ∙ h.3)

  detach_on : (j : ℕ) → (detach st i).attached j ≡ true → st.attached j ≡ true
  detach_on j o = ⊎_elim (λ q. clash o q.1) (λ q. sym q.1 ∙ o) (upd_cases st.attached i false j)

  detach_acks : (j : ℕ) → (detach st i).attached j ≡ true → (detach st i).acks j ≡ st.acks j
  detach_acks j o = ⊎_elim (λ q. clash o q.1) (λ q. upd_other st.acks i 0 j q.0) (upd_cases st.attached i false j)

  detach_low : st.phase ≡ sync1 → (j : ℕ) → (detach st i).acks j ≤ 1
  detach_low e j = ⊎_elim (λ q. subst (λ a. a ≤ 1) (sym q.1) (omega arith)) (λ q. subst (λ a. a ≤ 1) (sym q.1) (inv.first e j)) (upd_cases st.acks i 0 j)

  detach_reached : {b : ℕ} → Reached (detach st i) b → Reached st b
  detach_reached p = reach_map (λ x h. root (h.0, detach_holds h.0 x h.1)) (λ x y q e. inl e) p

  pub detach_live : {b : ℕ} → Live (detach st i) b → Live st b
  detach_live p = reach_map (λ x h. ⊎_elim (λ (r : Root (detach st i) x). root (inl (r.0, detach_holds r.0 x r.1))) (λ g. root (inr g)) h) (λ x y q e. inl e) p

  pub detach_inv : Inv segment_of (detach st i)
  detach_inv = record {
    valid = λ b p. inv.valid b (detach_live p);
    stack = inv.stack;
    quiet = inv.quiet;
    blank = λ e b p. inv.blank e b (detach_live p);
    first = detach_low;
    second = λ e j o. subst (λ a. 1 ≤ a) (sym (detach_acks j o)) (inv.second e j (detach_on j o));
    all = λ e j o. subst (λ a. 2 ≤ a) (sym (detach_acks j o)) (inv.all e j (detach_on j o));
    core =
        λ t. record {
          roots_covered = λ j b q h. (inv.core t).roots_covered j b (subst Acked (detach_acks j h.1) q) (detach_holds j b h);
          pointers_covered = λ x y p. (inv.core t).pointers_covered x y (detach_live p);
        };
    kept = λ e b p. inv.kept e b (detach_reached p);
  }

  -- attach (v nil) and spawn (v a root of an attached parent), not in a handshake
  module _ (v : Option ℕ) (hv : (b : ℕ) → v ≡ some b → Root st b) (n1 : st.phase ≢ sync1) (n2 : st.phase ≢ sync2) where
    pub attach_holds : (j b : ℕ) → Holds (attach st i v) j b → Holds st j b ⊎ (v ≡ some b)
    attach_holds j b h = go (upd_cases st.attached i true j) (upd_cases st.root i (upd (λ _. none) 0 v) j) (upd_cases (λ _. none) 0 v h.0)
      where
        go : ((j ≡ i) × (upd st.attached i true j ≡ true)) ⊎ ((j ≢ i) × (upd st.attached i true j ≡ st.attached j))
            → ((j ≡ i) × (upd st.root i (upd (λ _. none) 0 v) j ≡ upd (λ _. none) 0 v)) ⊎ ((j ≢ i) × (upd st.root i (upd (λ _. none) 0 v) j ≡ st.root j))
            → ((h.0 ≡ 0) × (upd (λ _. none) 0 v h.0 ≡ v)) ⊎ ((h.0 ≢ 0) × (upd (λ _. none) 0 v h.0 ≡ none)) → Holds st j b ⊎ (v ≡ some b)
        go q (inl w) (inl u) = inr (sym u.1 ∙ sym (ap (λ (z : ℕ → Option ℕ). z h.0) w.1) ∙ h.3)
        go q (inl w) (inr u) = none_some (sym u.1 ∙ sym (ap (λ (z : ℕ → Option ℕ). z h.0) w.1) ∙ h.3)
        go (inl q) (inr w) u = absurd (w.0 q.0)
        go (inr q) (inr w) u = inl (h.0, sym q.1 ∙ h.1, h.2, sym (ap (λ (z : ℕ → Option ℕ). z h.0) w.1) ∙ h.3)

    pub attach_root : (x : ℕ) → Root (attach st i v) x → Root st x
    attach_root x r = ⊎_elim (λ q. (r.0, q)) (hv x) (attach_holds r.0 x r.1)

    attach_reached : {b : ℕ} → Reached (attach st i v) b → Reached st b
    attach_reached p = reach_map (λ x h. root (attach_root x h)) (λ x y q e. inl e) p

    pub attach_live : {b : ℕ} → Live (attach st i v) b → Live st b
    attach_live p = reach_map (λ x h. ⊎_elim (λ (r : Root (attach st i v) x). root (inl (attach_root x r))) (λ g. root (inr g)) h) (λ x y q e. inl e) p

    attach_all : st.phase ≡ mark → (j : ℕ) → (attach st i v).attached j ≡ true → 2 ≤ (attach st i v).acks j
    attach_all e j o = go (upd_cases st.attached i true j) (upd_cases st.acks i (newcomer st.phase) j)
      where
        go : ((j ≡ i) × (upd st.attached i true j ≡ true)) ⊎ ((j ≢ i) × (upd st.attached i true j ≡ st.attached j))
            → ((j ≡ i) × (upd st.acks i (newcomer st.phase) j ≡ newcomer st.phase)) ⊎ ((j ≢ i) × (upd st.acks i (newcomer st.phase) j ≡ st.acks j))
            → 2 ≤ upd st.acks i (newcomer st.phase) j
        go q (inl w) = rw (w.1, e) (omega arith)
        go (inl q) (inr w) = absurd (w.0 q.0)
        go (inr q) (inr w) = omega (arith, w.1, inv.all e j (sym q.1 ∙ o))

    attach_core : (p : Phase) → st.phase ≡ p → Tracing p → Core st → Core (attach st i v)
    attach_core sync1 e t c = absurd (n1 e)
    attach_core sync2 e t c = absurd (n2 e)
    attach_core idle e t c = absurd t
    attach_core sweep e t c = absurd t
    attach_core mark e t c = record {
      roots_covered = λ j b q h. let r = attach_root b (j, h) in c.roots_covered r.0 b (inv.all e r.0 r.1.1) r.1;
      pointers_covered = λ x y p. c.pointers_covered x y (attach_live p);
    }

    pub attach_inv : Inv segment_of (attach st i v)
    attach_inv = record {
      valid = λ b p. inv.valid b (attach_live p);
      stack = inv.stack;
      quiet = inv.quiet;
      blank = λ e. absurd (n1 e);
      first = λ e. absurd (n1 e);
      second = λ e. absurd (n2 e);
      all = attach_all;
      core = λ t. attach_core st.phase refl t (inv.core t);
      kept = λ e b p. inv.kept e b (attach_reached p);
    }

  pub side_inv : (v : Bool) → Inv segment_of (set_inside st i v)
  side_inv v = record {
    valid = inv.valid;
    stack = inv.stack;
    quiet = inv.quiet;
    blank = inv.blank;
    first = inv.first;
    second = inv.second;
    all = inv.all;
    core = λ t. record { roots_covered = (inv.core t).roots_covered; pointers_covered = (inv.core t).pointers_covered };
    kept = inv.kept;
  }

  pub values_inv : (z : List ℕ) → Inv segment_of (set_values st i z)
  values_inv z = record {
    valid = inv.valid;
    stack = inv.stack;
    quiet = inv.quiet;
    blank = inv.blank;
    first = inv.first;
    second = inv.second;
    all = inv.all;
    core = λ t. record { roots_covered = (inv.core t).roots_covered; pointers_covered = (inv.core t).pointers_covered };
    kept = inv.kept;
  }
