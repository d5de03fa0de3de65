-- A make keeps the invariant.
use mathlib.Core.Path.{◌≡◌, refl, ap, sym, ◌∙◌, subst}
use mathlib.Core.Logic.{◌⊎◌, inl, inr, ⊎_elim, ◌≢◌}
use mathlib.Core.Bool.{true, false}
use mathlib.Core.Option.{Option, none, some, some-injective}
use mathlib.Core.List.{List}
use Prim.Native.Nat.{ℕ, zero, suc, ◌≤◌, ◌<◌}
use native.Mathlib.Omega.{arith}
use Rattle.theory.proofs.Graph.{reach_ind, clash, prot_map}
use Rattle.theory.proofs.Invariant.{Acked, Tracing, Core, Inv, reached_live, prot_live, none_some}
use Rattle.theory.specs.Machine.{State, Holds, Points, LiveRoot, Live, Reached, Covered, make}
use Rattle.theory.proofs.Updates.{upd_cases, upd_same, upd_other, upd_hit, upd2_cases}
use Rattle.theory.specs.Phases.{Phase, idle, sync1, sync2, mark, sweep, black}
use Rattle.theory.specs.Reach.{root, next}

black_two : (p : Phase) (n : ℕ) → 2 ≤ n → (p ≡ sync2) ⊎ (p ≡ mark) → black p n ≡ true
black_two p zero h w = absurd (omega arith)
black_two p (suc zero) h w = absurd (omega arith)
black_two p (suc (suc n)) h (inl e) = rw e
black_two p (suc (suc n)) h (inr e) = rw e

-- mutator i makes a record of n pointers in the block b, which is free and in no condemned segment
module _ (segment_of : ℕ → ℕ) (st : State) (inv : Inv segment_of st) (i d b n : ℕ) (z : List ℕ)
    (hu : st.used b ≡ false) (hd : st.condemned (segment_of b) ≡ false) where
  abbrev after : State
  after = make st i d b n z

  pub live_other : (x : ℕ) → Live st x → x ≢ b
  live_other x p e = clash (inv.valid x p) (ap st.used e ∙ hu)

  pub make_holds : (j y : ℕ) → Holds after j y → Holds st j y ⊎ ((j ≡ i) × (y ≡ b))
  make_holds j y h = go (upd2_cases st.root i d (some b) j h.0)
    where
      go : ((j ≡ i) × (h.0 ≡ d) × (after.root j h.0 ≡ some b)) ⊎ (after.root j h.0 ≡ st.root j h.0) → Holds st j y ⊎ ((j ≡ i) × (y ≡ b))
      go (inl q) = inr (q.0, some-injective y b (sym h.3 ∙ q.2))
      go (inr q) = inl (h.0, h.1, h.2, sym q ∙ h.3)

  pub edge_back : (x y : ℕ) → Points after x y → (x ≢ b) × Points st x y
  edge_back x y e = go (upd_cases st.pointer b (λ _. none) x) (upd_cases st.pointer_count b n x)
    where
      go : ((x ≡ b) × (after.pointer x ≡ (λ _. none))) ⊎ ((x ≢ b) × (after.pointer x ≡ st.pointer x))
          → ((x ≡ b) × (after.pointer_count x ≡ n)) ⊎ ((x ≢ b) × (after.pointer_count x ≡ st.pointer_count x)) → (x ≢ b) × Points st x y
      go (inl q) w = none_some (sym (ap (λ (g : ℕ → Option ℕ). g e.0) q.1) ∙ e.2)
      go (inr q) (inl w) = absurd (q.0 w.0)
      go (inr q) (inr w) = (q.0, (e.0, subst (λ z. e.0 < z) w.1 e.1, sym (ap (λ (g : ℕ → Option ℕ). g e.0) q.1) ∙ e.2))

  pub edge_on : (x y : ℕ) → x ≢ b → Points st x y → Points after x y
  edge_on x y k e = (e.0, subst (λ z. e.0 < z) (sym (upd_other st.pointer_count b n x k)) e.1, ap (λ (g : ℕ → Option ℕ). g e.0) (upd_other st.pointer b (λ _. none) x k) ∙ e.2)

  pub reached_back : {x : ℕ} → Reached after x → Reached st x ⊎ (x ≡ b)
  reached_back p = reach_ind (λ x. Reached st x ⊎ (x ≡ b)) (λ x h. ⊎_elim (λ q. inl (root (h.0, q))) (λ q. inr q.1) (make_holds h.0 x h.1))
      (λ x y q h e. ⊎_elim (λ w. inl (next w (edge_back x y e).1)) (λ w. absurd ((edge_back x y e).0 w)) h) p

  pub live_back : {x : ℕ} → Live after x → Live st x ⊎ (x ≡ b)
  live_back p = reach_ind (λ x. Live st x ⊎ (x ≡ b)) r (λ x y q h e. ⊎_elim (λ w. inl (next w (edge_back x y e).1)) (λ w. absurd ((edge_back x y e).0 w)) h) p
    where
      r : (x : ℕ) → LiveRoot after x → Live st x ⊎ (x ≡ b)
      r x (inl h) = ⊎_elim (λ q. inl (root (inl (h.0, q)))) (λ q. inr q.1) (make_holds h.0 x h.1)
      r x (inr g) = inl (root (inr g))

  mark_other : (x : ℕ) → x ≢ b → after.marked x ≡ st.marked x
  mark_other x k = upd_other st.marked b (black st.phase (st.acks i)) x k

  sm : (x : ℕ) → Live st x → Covered st x → Covered after x
  sm x l (inl h) = inl (mark_other x (live_other x l) ∙ h)
  sm x l (inr p) = prot_map (λ x g. inr (root g))
      (λ x y p w e. inl (mark_other x (live_other x (prot_live st p)) ∙ w, edge_on x y (live_other x (prot_live st p)) e)) p

  new_safe : (p : Phase) → st.phase ≡ p → Tracing p → Acked (st.acks i) → Covered after b
  new_safe sync1 e t q = absurd (omega (arith, inv.first e i))
  new_safe sync2 e t q = inl (upd_same st.marked b _ ∙ black_two _ _ q (inl e))
  new_safe mark e t q = inl (upd_same st.marked b _ ∙ black_two _ _ q (inr e))
  new_safe idle e t q = absurd t
  new_safe sweep e t q = absurd t

  make_core : Tracing st.phase → Core after
  make_core t = record {
    roots_covered =
        λ j y q h. ⊎_elim (λ h'. sm y (root (inl (j, h'))) ((inv.core t).roots_covered j y q h'))
        (λ w. subst (Covered after) (sym w.1) (new_safe st.phase refl t (subst (λ z. 2 ≤ st.acks z) w.0 q))) (make_holds j y h);
    pointers_covered =
        λ x y p m e. ⊎_elim
        (λ p'. sm y (next p' (edge_back x y e).1) ((inv.core t).pointers_covered x y p' (sym (mark_other x (live_other x p')) ∙ m) (edge_back x y e).1))
        (λ w. absurd ((edge_back x y e).0 w)) (live_back p);
  }

  make_valid : (x : ℕ) → Live after x → after.used x ≡ true
  make_valid x p = ⊎_elim (λ p'. upd_other st.used b true x (live_other x p') ∙ inv.valid x p') (λ e. ap after.used e ∙ upd_same st.used b true) (live_back p)

  make_refines : st.phase ≡ sweep → (x : ℕ) → Reached after x → st.condemned (segment_of x) ≡ true → after.marked x ≡ true
  make_refines e x p k = ⊎_elim (λ p'. mark_other x (live_other x (reached_live st p')) ∙ inv.kept e x p' k) (λ w. clash k (ap (λ z. st.condemned (segment_of z)) w ∙ hd)) (reached_back p)

  pub make_inv : Inv segment_of after
  make_inv = record {
    valid = make_valid;
    stack = record { white = λ x h. mark_other x (live_other x (root (inr h))) ∙ inv.stack.white x h; nodup = inv.stack.nodup };
    quiet = inv.quiet;
    blank = λ e x p. ⊎_elim (λ p'. mark_other x (live_other x p') ∙ inv.blank e x p') (λ w. upd_hit st.marked b _ x w ∙ ap (λ p. black p (st.acks i)) e) (live_back p);
    first = inv.first;
    second = inv.second;
    all = inv.all;
    core = make_core;
    kept = make_refines;
  }
