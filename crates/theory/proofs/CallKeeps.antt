-- A mutator call that acts answers as the unbounded heap does, and all is kept.
use mathlib.Core.Path.{◌≡◌, refl, ap, sym, ◌∙◌, subst, fun_ext}
use mathlib.Core.Logic.{◌⊎◌, inl, ⊎_elim, ◌≢◌}
use mathlib.Core.Bool.{Bool, true, false, not}
use mathlib.Core.Option.{Option, none, some, map, some-injective}
use mathlib.Core.List.{List}
use Prim.Native.Nat.{ℕ, zero, suc, ◌<◌}
use native.Mathlib.Omega.{arith}
use borrow.Author.Tests.{lt-ltb, ltb-true}
use lib.Dec.{T, ltb, eqb, eqb→eq, eqb_refl}
use lib.ListN.{length, get_or, set, replicate}
use Rattle.theory.proofs.Completeness.{Complete, same_comp, root_comp, store_comp, values_comp, make_comp, side_comp, attach_comp, detach_comp}
use Rattle.theory.proofs.CycleKeeps.{check_inv, detach_inv, attach_inv, side_inv, values_inv, acknowledge_live}
use Rattle.theory.proofs.Graph.{clash}
use Rattle.theory.proofs.Invariant.{Inv, none_some, load_inv, copy_inv, clear_inv}
use Rattle.theory.specs.Machine.{State, Holds, Root, Live, attach, set_inside, set_values, acknowledge, check}
use Rattle.theory.specs.MachineCalls.{shape_at, observe, act, Permitted}
use Rattle.theory.proofs.MakeKeeps.{make_inv}
use Rattle.theory.proofs.Refusals.{require_ok, by_ok, root_ok, shape_ok}
use Rattle.theory.proofs.Simulation.{Simulates, Same, root_sim, store_sim, make_sim, attach_sim, detach_sim, side_sim, values_sim, gc_sim}
use Rattle.theory.proofs.StoreKeeps.{store_inv}
use Rattle.theory.proofs.Updates.{upd_cases}
use Rattle.theory.specs.Calls.{Call, c_attach, c_detach, c_check, c_leave, c_enter, c_spawn, c_make, c_load, c_store, c_copy, c_clear, c_put}
use Rattle.theory.specs.Calls.{c_get, c_same, c_shape, Answer, a_ok, a_num, a_flag, shape_if, pointer?, refusal, same_ref, on_record}
use Rattle.theory.specs.Phases.{Phase, idle, sync1, sync2, mark, sweep, in_handshake}
use Rattle.theory.specs.Reach.{root, next}
use Rattle.theory.specs.Unbounded.{Unbounded, puts, u_attach, u_set_inside, u_set_values, ushape_at, uobserve, uact}
use Rattle.theory.specs.Update.{upd}
use Rattle.classes.specs.Record.{of_counts}
use Rattle.layout.specs.Geometry.{root_count, mutator_count}

-- ---- both sides show the same `Observation`

module _ (put : ℕ → Option ℕ) (st : State) (un : Unbounded) (s : Simulates put st un) where
  shape_eq : (v w : Option ℕ) → Same put v w → ((b : ℕ) → v ≡ some b → Live st b) → map (shape_at st) v ≡ map (ushape_at un) w
  shape_eq none none c l = refl
  shape_eq none (some r) c l = cc
  shape_eq (some b) none c l = cc
  shape_eq (some b) (some r) c l =
      let q = s.rec b (l b refl) in
      let e : q.id ≡ r = (let z : put b ≡ some r = cc in some-injective q.id r (sym q.is ∙ z)) in
      ap some (λ i. of_counts ((q.pointer_count ∙ ap un.pointer_count e) i) (length ((q.values ∙ ap un.values e) i)))

  sh_eq : (i k : ℕ) → (observe st).shape i k ≡ (uobserve un).shape i k
  sh_eq i k = go (st.attached i) (un.attached i) (ltb k root_count) refl (s.attached i) refl
    where
      go : (a b c : Bool) → st.attached i ≡ a → a ≡ b → ltb k root_count ≡ c → shape_if a c (map (shape_at st) (st.root i k)) ≡ shape_if b c (map (ushape_at un) (un.root i k))
      go true true true e f h = shape_eq (st.root i k) (un.root i k) (s.root i k e (ltb-true _ _ h)) (λ b q. root (inl (i, (k, e, ltb-true _ _ h, q))))
      go true true false e f h = refl
      go true false c e f h = clash refl f
      go false true c e f h = clash f refl
      go false false c e f h = refl

  observe_eq : observe st ≡ uobserve un
  observe_eq = λ z. record { attached = fun_ext s.attached z; inside = fun_ext s.inside z; shape = fun_ext (λ i. fun_ext (sh_eq i)) z }

-- ---- the state of a run

pub record Coupled (segment_of : ℕ → ℕ) (P : ℕ → Type 0) (put : ℕ → Option ℕ) (st : State) (un : Unbounded) : Type 0 where
  pub inv : Inv segment_of st
  pub sim : Simulates put st un
  pub few : (i : ℕ) → st.attached i ≡ true → i < mutator_count
  pub comp : Complete segment_of P st

-- a call's outcome, as on the unbounded heap
pub record Alike (segment_of : ℕ → ℕ) (P : ℕ → Type 0) (put : ℕ → Option ℕ) (r : Answer × State) (q : Answer × Unbounded) : Type 0 where
  pub same : r.0 ≡ q.0
  pub ok : Coupled segment_of P put r.1 q.1

T_true : (b : Bool) → T b → b ≡ true
T_true true t = refl
T_true false t = absurd t

eqb_iff : (a b c d : ℕ) → (a ≡ b → c ≡ d) → (c ≡ d → a ≡ b) → eqb a b ≡ eqb c d
eqb_iff a b c d f g = go (eqb a b) (eqb c d) refl refl
  where
    go : (x y : Bool) → eqb a b ≡ x → eqb c d ≡ y → x ≡ y
    go true true p q = refl
    go false false p q = refl
    go true false p q = clash (T_true _ (subst (λ z. T (eqb c z)) (f (eqb→eq a b (subst T (sym p) tt))) (eqb_refl c))) q
    go false true p q = clash (T_true _ (subst (λ z. T (eqb a z)) (g (eqb→eq c d (subst T (sym q) tt))) (eqb_refl a))) p

same_same : (put : ℕ → Option ℕ) → ((b c r : ℕ) → put b ≡ some r → put c ≡ some r → b ≡ c) → (v v' w w' : Option ℕ) → Same put v w → Same put v' w' → same_ref v v' ≡ same_ref w w'
same_same put inj none none none none c d = refl
same_same put inj none none none (some r) c d = cc
same_same put inj none none (some r) w c d = cc
same_same put inj none (some b) none none c d = cc
same_same put inj none (some b) none (some r) c d = refl
same_same put inj none (some b) (some r) w c d = cc
same_same put inj (some b) none none w c d = cc
same_same put inj (some b) none (some r) none c d = refl
same_same put inj (some b) none (some r) (some q) c d = cc
same_same put inj (some b) (some b') none w c d = cc
same_same put inj (some b) (some b') (some r) none c d = cc
same_same put inj (some b) (some b') (some r) (some r') c d =
    let e : put b ≡ some r = cc in
    let f : put b' ≡ some r' = cc in
    eqb_iff b b' r r' (λ h. some-injective r r' (sym e ∙ ap put h ∙ f)) (λ h. inj b b' r e (f ∙ ap some (sym h)))

module _ (segment_of : ℕ → ℕ) (P : ℕ → Type 0) (put : ℕ → Option ℕ) (st : State) (un : Unbounded) (o : Coupled segment_of P put st un) where
  acknowledge_ok : (p : Phase) (n i : ℕ) → st.attached i ≡ true → Inv segment_of (acknowledge p n st i) → Coupled segment_of P put (acknowledge p n st i) un
  acknowledge_ok idle n i h v = o
  acknowledge_ok sync1 zero i h v =
      record { inv = v; sim = gc_sim put st un o.sim _ _ _ _ _ _ (λ b q. q); few = o.few; comp = same_comp segment_of P st o.inv o.comp _ (λ b q. q) (λ b. refl) (λ g. refl) }
  acknowledge_ok sync1 (suc n) i h v = o
  acknowledge_ok sync2 zero i h v = record {
    inv = v;
    sim = gc_sim put st un o.sim _ _ _ _ _ _ (λ b q. acknowledge_live st i h q);
    few = o.few;
    comp = same_comp segment_of P st o.inv o.comp _ (λ b q. acknowledge_live st i h q) (λ b. refl) (λ g. refl);
  }
  acknowledge_ok sync2 (suc zero) i h v = record {
    inv = v;
    sim = gc_sim put st un o.sim _ _ _ _ _ _ (λ b q. acknowledge_live st i h q);
    few = o.few;
    comp = same_comp segment_of P st o.inv o.comp _ (λ b q. acknowledge_live st i h q) (λ b. refl) (λ g. refl);
  }
  acknowledge_ok sync2 (suc (suc n)) i h v = o
  acknowledge_ok mark n i h v = o
  acknowledge_ok sweep n i h v = o

  pub check_ok : (i : ℕ) → st.attached i ≡ true → Coupled segment_of P put (check st i) un
  check_ok i h = acknowledge_ok st.phase (st.acks i) i h (check_inv segment_of st o.inv i h)

module _ (segment_of : ℕ → ℕ) (block : ℕ) (P : ℕ → Type 0) (put : ℕ → Option ℕ) (st : State) (un : Unbounded) (o : Coupled segment_of P put st un) where
  same_at : (i k : ℕ) → st.attached i ≡ true → k < root_count → Same put (st.root i k) (un.root i k)
  same_at i k h l = o.sim.root i k h l

  stay : (x y : Answer) → x ≡ y → Alike segment_of P put (x, st) (y, un)
  stay x y e = record { same = e; ok = o }

  on_record_ok : (v w : Option ℕ) → Same put v w → (K : ℕ → Answer × State) (L : ℕ → Answer × Unbounded)
      → ((a r : ℕ) → v ≡ some a → w ≡ some r → put a ≡ some r → Alike segment_of P put (K a) (L r))
      → Alike segment_of P put (on_record v st K) (on_record w un L)
  on_record_ok none none c K L f = stay _ _ refl
  on_record_ok none (some r) c K L f = let z : ◌≡◌ {A = ℕ} 0 1 = cc in absurd (omega arith)
  on_record_ok (some a) none c K L f = let z : ◌≡◌ {A = ℕ} 0 1 = cc in absurd (omega arith)
  on_record_ok (some a) (some r) c K L f = f a r refl refl cc

  same_id : (a r : ℕ) (h : Live st a) → put a ≡ some r → (o.sim.rec a h).id ≡ r
  same_id a r h e = let q = o.sim.rec a h in some-injective q.id r (sym q.is ∙ e)

  act_load : (i d s f : ℕ) → refusal (observe st) (c_load i d s f) ≡ 0 → Alike segment_of P put (act block st (c_load i d s f)) (uact un (c_load i d s f))
  act_load i d s f e =
      let a = by_ok (observe st) i _ e in
      let b = root_ok d _ a.3 in
      let c = root_ok s _ b.1 in
      on_record_ok (st.root i s) (un.root i s) (same_at i s a.1 c.0) _ _ (λ x r p q u.
      let h : Holds st i x = (s, a.1, c.0, p) in
      let l : f < st.pointer_count x =
      ltb-true f (st.pointer_count x)
      (require_ok _ 8 0 (omega arith) (shape_ok (st.attached i) (ltb s root_count) (st.root i s) (shape_at st) (pointer? f) x a.1 (lt-ltb _ _ c.0) p c.1)).0 in
      let v : Same put (st.pointer x f) (un.pointer r f) =
      subst (λ z. Same put (st.pointer x f) (un.pointer z f)) (same_id x r (root (inl (i, h))) u) ((o.sim.rec x (root (inl (i, h)))).pointer f l) in
      (record {
        same = refl;
        ok = record {
          inv = load_inv segment_of st o.inv i d x f h l;
          sim = root_sim segment_of put st un o.inv o.sim i d (st.pointer x f) (un.pointer r f) v (λ b k. next (root (i, h)) (f, l, k));
          few = o.few;
          comp = root_comp segment_of P st o.inv o.comp i d (st.pointer x f) (λ b k. next (root (i, h)) (f, l, k));
        };
      }))

  act_store : (i s f t : ℕ) → refusal (observe st) (c_store i s f t) ≡ 0 → Alike segment_of P put (act block st (c_store i s f t)) (uact un (c_store i s f t))
  act_store i s f t e =
      let a = by_ok (observe st) i _ e in
      let b = root_ok s _ a.3 in
      let c = root_ok t _ b.1 in
      on_record_ok (st.root i s) (un.root i s) (same_at i s a.1 b.0) _ _ (λ x r p q u.
      let h : Holds st i x = (s, a.1, b.0, p) in
      let l : f < st.pointer_count x =
      ltb-true f (st.pointer_count x)
      (require_ok _ 8 0 (omega arith) (shape_ok (st.attached i) (ltb s root_count) (st.root i s) (shape_at st) (pointer? f) x a.1 (lt-ltb _ _ b.0) p c.1)).0 in
      let n : (y : ℕ) → st.root i t ≡ some y → Holds st i y = (λ y k. (t, a.1, c.0, k)) in
      (record {
        same = refl;
        ok = record {
          inv = store_inv segment_of st o.inv i x f (st.root i t) h l n;
          sim = store_sim segment_of put st un o.inv o.sim i x f r (st.root i t) (un.root i t) h l n u (same_at i t a.1 c.0);
          few = o.few;
          comp = store_comp segment_of P st o.inv o.comp i x f (st.root i t) h l n;
        };
      }))

  act_put : (i s k v : ℕ) → refusal (observe st) (c_put i s k v) ≡ 0 → Alike segment_of P put (act block st (c_put i s k v)) (uact un (c_put i s k v))
  act_put i s k v e =
      let a = by_ok (observe st) i _ e in
      let b = root_ok s _ a.3 in
      on_record_ok (st.root i s) (un.root i s) (same_at i s a.1 b.0) _ _ (λ x r p q u.
      let h : Live st x = root (inl (i, (s, a.1, b.0, p))) in
      let n : st.values x ≡ un.values r = (o.sim.rec x h).values ∙ ap un.values (same_id x r h u) in
      (record {
        same = refl;
        ok = record {
          inv = values_inv segment_of st o.inv x (set (st.values x) k v);
          sim =
              subst (λ z. Simulates put (set_values st x (set (st.values x) k v)) (u_set_values un r (set z k v))) n
              (values_sim segment_of put st un o.inv o.sim x r (set (st.values x) k v) u);
          few = o.few;
          comp = values_comp segment_of P st o.inv o.comp x (set (st.values x) k v);
        };
      }))

  act_get : (i s k : ℕ) → refusal (observe st) (c_get i s k) ≡ 0 → Alike segment_of P put (act block st (c_get i s k)) (uact un (c_get i s k))
  act_get i s k e =
      let a = by_ok (observe st) i _ e in
      let b = root_ok s _ a.3 in
      on_record_ok (st.root i s) (un.root i s) (same_at i s a.1 b.0) _ _ (λ x r p q u.
      let h : Live st x = root (inl (i, (s, a.1, b.0, p))) in
      stay _ _ (ap (λ (z : List ℕ). a_num (get_or z k 0)) ((o.sim.rec x h).values ∙ ap un.values (same_id x r h u))))

  act_shape : (i s : ℕ) → refusal (observe st) (c_shape i s) ≡ 0 → Alike segment_of P put (act block st (c_shape i s)) (uact un (c_shape i s))
  act_shape i s e =
      let a = by_ok (observe st) i _ e in
      let b = root_ok s _ a.3 in
      on_record_ok (st.root i s) (un.root i s) (same_at i s a.1 b.0) _ _ (λ x r p q u.
      let h : Live st x = root (inl (i, (s, a.1, b.0, p))) in
      let n : st.values x ≡ un.values r = (o.sim.rec x h).values ∙ ap un.values (same_id x r h u) in
      let m : st.pointer_count x ≡ un.pointer_count r = (o.sim.rec x h).pointer_count ∙ ap un.pointer_count (same_id x r h u) in
      stay _ _ cc)

  act_same : (i s t : ℕ) → refusal (observe st) (c_same i s t) ≡ 0 → Alike segment_of P put (act block st (c_same i s t)) (uact un (c_same i s t))
  act_same i s t e =
      let a = by_ok (observe st) i _ e in
      let b = root_ok s _ a.3 in
      let c = root_ok t _ b.1 in
      stay _ _ (ap a_flag (same_same put o.sim.inj (st.root i s) (st.root i t) (un.root i s) (un.root i t) (same_at i s a.1 b.0) (same_at i t a.1 c.0)))

  act_copy : (i d s : ℕ) → refusal (observe st) (c_copy i d s) ≡ 0 → Alike segment_of P put (act block st (c_copy i d s)) (uact un (c_copy i d s))
  act_copy i d s e =
      let a = by_ok (observe st) i _ e in
      let b = root_ok d _ a.3 in
      let c = root_ok s _ b.1 in
      (record {
        same = refl;
        ok = record {
          inv = copy_inv segment_of st o.inv i d s a.1 c.0;
          sim =
              root_sim segment_of put st un o.inv o.sim i d (st.root i s) (un.root i s) (same_at i s a.1 c.0) (λ b k. root (i, (s, a.1, c.0, k)));
          few = o.few;
          comp = root_comp segment_of P st o.inv o.comp i d (st.root i s) (λ b k. root (i, (s, a.1, c.0, k)));
        };
      })

  act_clear : (i d : ℕ) → Alike segment_of P put (act block st (c_clear i d)) (uact un (c_clear i d))
  act_clear i d =
      (record {
        same = refl;
        ok = record {
          inv = clear_inv segment_of st o.inv i d;
          sim = root_sim segment_of put st un o.inv o.sim i d none none refl (λ b k. none_some k);
          few = o.few;
          comp = root_comp segment_of P st o.inv o.comp i d none (λ b k. none_some k);
        };
      })

  act_make : (i d p n : ℕ) → Permitted segment_of block st (c_make i d p n) → Alike segment_of P (upd put block (some un.count)) (act block st (c_make i d p n)) (uact un (c_make i d p n))
  act_make i d p n a = record {
    same = refl;
    ok = record {
      inv = make_inv segment_of st o.inv i d block p (replicate n 0) a.0 a.1;
      sim = make_sim segment_of put st un o.inv o.sim i d block p (replicate n 0) a.0 a.1;
      few = o.few;
      comp = make_comp segment_of P st o.inv o.comp i d block p (replicate n 0) a.0 a.1;
    };
  }

  not_rolling : (p : Phase) → in_handshake p ≡ false → (p ≢ sync1) × (p ≢ sync2)
  not_rolling p e = ((λ (q : p ≡ sync1). clash refl (sym (ap in_handshake q) ∙ e)), (λ (q : p ≡ sync2). clash refl (sym (ap in_handshake q) ∙ e)))

  few_attach : (i j : ℕ) → i < mutator_count → upd st.attached i true j ≡ true → j < mutator_count
  few_attach i j l h = ⊎_elim (λ q. subst (λ z. z < mutator_count) (sym q.0) l) (λ q. o.few j (sym q.1 ∙ h)) (upd_cases st.attached i true j)

  act_attach : (i : ℕ) (v w : Option ℕ) → in_handshake st.phase ≡ false → i < mutator_count → Same put v w → ((b : ℕ) → v ≡ some b → Root st b)
      → Alike segment_of P put (a_ok, attach st i v) (a_ok, u_attach un i w)
  act_attach i v w e l c h =
      let n = not_rolling st.phase e in
      record {
        same = refl;
        ok = record {
          inv = attach_inv segment_of st o.inv i v h n.0 n.1;
          sim = attach_sim segment_of put st un o.inv o.sim i v w h n.0 n.1 c;
          few = λ j k. few_attach i j l k;
          comp = attach_comp segment_of P st o.inv o.comp i v h n.0 n.1;
        };
      }

  few_detach : (i j : ℕ) → upd st.attached i false j ≡ true → j < mutator_count
  few_detach i j h = ⊎_elim (λ q. clash h q.1) (λ q. o.few j (sym q.1 ∙ h)) (upd_cases st.attached i false j)

  act_detach : (i : ℕ) → Alike segment_of P put (act block st (c_detach i)) (uact un (c_detach i))
  act_detach i = record {
    same = refl;
    ok = record {
      inv = detach_inv segment_of st o.inv i;
      sim = detach_sim segment_of put st un o.inv o.sim i;
      few = λ j k. few_detach i j k;
      comp = detach_comp segment_of P st o.inv o.comp i;
    };
  }

pub side_ok : (segment_of : ℕ → ℕ) (P : ℕ → Type 0) (put : ℕ → Option ℕ) (st : State) (un : Unbounded) → Coupled segment_of P put st un
    → (i : ℕ) (v : Bool) → Coupled segment_of P put (set_inside st i v) (u_set_inside un i v)
side_ok segment_of P put st un o i v =
    record { inv = side_inv segment_of st o.inv i v; sim = side_sim segment_of put st un o.inv o.sim i v; few = o.few; comp = side_comp segment_of P st o.inv o.comp i v }

module _ (segment_of : ℕ → ℕ) (block : ℕ) (P : ℕ → Type 0) (put : ℕ → Option ℕ) (st : State) (un : Unbounded) (o : Coupled segment_of P put st un) where
  -- the theorem of the mutator calls
  pub act_ok : (c : Call) → refusal (observe st) c ≡ 0 → Permitted segment_of block st c → Alike segment_of P (puts c (λ _ _. block) un.count put) (act block st c) (uact un c)
  act_ok (c_attach i) e a = act_attach segment_of block P put st un o i none none a (ltb-true _ _ (require_ok _ 2 _ (omega arith) e).0) refl (λ b k. none_some k)
  act_ok (c_spawn i p k) e t =
      let a = require_ok (ltb i mutator_count) 2 _ (omega arith) e in
      let b = require_ok (ltb p mutator_count) 2 _ (omega arith) a.1 in
      let c = require_ok (not (st.attached i)) 3 _ (omega arith) b.1 in
      let d = require_ok (st.attached p) 4 _ (omega arith) c.1 in
      let f = require_ok (st.inside p) 5 _ (omega arith) d.1 in
      let g = root_ok k _ f.1 in
      act_attach segment_of block P put st un o i (st.root p k) (un.root p k) t (ltb-true _ _ a.0) (o.sim.root p k d.0 g.0) (λ x q. (p, (k, d.0, g.0, q)))
  act_ok (c_detach i) e a = act_detach segment_of block P put st un o i
  act_ok (c_check i) e a = (record { same = refl; ok = check_ok segment_of P put st un o i (by_ok (observe st) i _ e).1 })
  act_ok (c_leave i) e a = (record { same = refl; ok = side_ok segment_of P put (check st i) un (check_ok segment_of P put st un o i (by_ok (observe st) i _ e).1) i false })
  act_ok (c_enter i) e a = (record { same = refl; ok = side_ok segment_of P put st un o i true })
  act_ok (c_make i d p n) e a = act_make segment_of block P put st un o i d p n a
  act_ok (c_load i d s f) e a = act_load segment_of block P put st un o i d s f e
  act_ok (c_store i s f t) e a = act_store segment_of block P put st un o i s f t e
  act_ok (c_copy i d s) e a = act_copy segment_of block P put st un o i d s e
  act_ok (c_clear i d) e a = act_clear segment_of block P put st un o i d
  act_ok (c_put i s k v) e a = act_put segment_of block P put st un o i s k v e
  act_ok (c_get i s k) e a = act_get segment_of block P put st un o i s k e
  act_ok (c_same i s t) e a = act_same segment_of block P put st un o i s t e
  act_ok (c_shape i s) e a = act_shape segment_of block P put st un o i s e

  -- a number from 2 to 9 refuses it on both sides, or on neither
  pub same_refusal : (c : Call) → refusal (uobserve un) c ≡ refusal (observe st) c
  same_refusal c = ap (λ F. refusal F c) (sym (observe_eq put st un o.sim))
