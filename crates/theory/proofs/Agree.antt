-- A state that agrees with another on what is live keeps what the other keeps: the bridge to a model in words.
use mathlib.Core.Path.{◌≡◌, sym, ◌∙◌, subst}
use mathlib.Core.Logic.{◌⊎◌, inl, inr}
use mathlib.Core.Bool.{true, false}
use mathlib.Core.Option.{Option}
use mathlib.Core.List.Memᴰ
use mathlib.Core.List.{Memᴰ}
use Prim.Native.Nat.{ℕ, ◌<◌}
use native.Mathlib.Omega.{arith}
use Rattle.theory.proofs.Completeness.{Complete}
use Rattle.theory.proofs.Graph.{reach_ind, prot_map}
use Rattle.theory.proofs.Invariant.{Tracing, Quiet, Inv, reached_live, prot_live}
use Rattle.theory.specs.Machine.{State, Holds, Points, Grey, LiveRoot, Live, Reached, Covered}
use Rattle.theory.proofs.Simulation.{Simulates}
use Rattle.theory.proofs.Updates.{Nodup}
use Rattle.theory.specs.Phases.{Phase, idle, sync1, sync2, mark, sweep, old, black}
use Rattle.theory.specs.Reach.{root, next}
use Rattle.theory.specs.Unbounded.{Unbounded}
use Rattle.layout.specs.Geometry.{root_count}

pub record Agree (segment_of : ℕ → ℕ) (st st' : State) : Type 0 where
  pub phase : st'.phase ≡ st.phase
  pub stack : st'.stack ≡ st.stack
  pub attached : (i : ℕ) → st'.attached i ≡ st.attached i
  pub inside : (i : ℕ) → st'.inside i ≡ st.inside i
  pub acks : (i : ℕ) → st'.acks i ≡ st.acks i
  pub root : (i k : ℕ) → st.attached i ≡ true → k < root_count → st'.root i k ≡ st.root i k
  pub marked : Tracing st.phase → (b : ℕ) → Live st b → st'.marked b ≡ st.marked b
  pub condemned_marks : (b : ℕ) → st.condemned (segment_of b) ≡ true → st'.marked b ≡ st.marked b
  pub condemned : (g : ℕ) → st'.condemned g ≡ st.condemned g
  pub pointer_count : (b : ℕ) → Live st b → st'.pointer_count b ≡ st.pointer_count b
  pub values : (b : ℕ) → Live st b → st'.values b ≡ st.values b
  pub pointer : (b f : ℕ) → Live st b → f < st.pointer_count b → st'.pointer b f ≡ st.pointer b f
  pub used : (b : ℕ) → Live st b → st'.used b ≡ st.used b

module _ (segment_of : ℕ → ℕ) (st st' : State) (a : Agree segment_of st st') where
  holds_back : (i b : ℕ) → Holds st' i b → Holds st i b
  holds_back i b h = let o = sym (a.attached i) ∙ h.1 in (h.0, o, h.2, sym (a.root i h.0 o h.2) ∙ h.3)

  holds_on : (i b : ℕ) → Holds st i b → Holds st' i b
  holds_on i b h = (h.0, a.attached i ∙ h.1, h.2, a.root i h.0 h.1 h.2 ∙ h.3)

  edge_back : (x y : ℕ) → Live st x → Points st' x y → Points st x y
  edge_back x y p e = let l : e.0 < st.pointer_count x = subst (λ z. e.0 < z) (a.pointer_count x p) e.1 in (e.0, l, sym (a.pointer x e.0 p l) ∙ e.2)

  edge_on : (x y : ℕ) → Live st x → Points st x y → Points st' x y
  edge_on x y p e = (e.0, subst (λ z. e.0 < z) (sym (a.pointer_count x p)) e.1, a.pointer x e.0 p e.1 ∙ e.2)

  pub live_back : {b : ℕ} → Live st' b → Live st b
  live_back p = reach_ind (Live st) r (λ x y q h e. next h (edge_back x y h e)) p
    where
      r : (x : ℕ) → LiveRoot st' x → Live st x
      r x (inl h) = root (inl (h.0, holds_back h.0 x h.1))
      r x (inr g) = root (inr (subst (Memᴰ x) a.stack g))

  pub reached_back : {b : ℕ} → Reached st' b → Reached st b
  reached_back p = reach_ind (Reached st) (λ x h. root (h.0, holds_back h.0 x h.1)) (λ x y q h e. next h (edge_back x y (reached_live st h) e)) p

  safe_on : Tracing st.phase → (x : ℕ) → Live st x → Covered st x → Covered st' x
  safe_on t x l (inl m) = inl (a.marked t x l ∙ m)
  safe_on t x l (inr p) = prot_map (λ x g. inr (root (subst (Memᴰ x) (sym a.stack) g))) (λ x y p w e. inl (a.marked t x (prot_live st p) ∙ w, edge_on x y (prot_live st p) e)) p

  phase_cases : (p : Phase) → Tracing p ⊎ Quiet p
  phase_cases idle = inr tt
  phase_cases sync1 = inl tt
  phase_cases sync2 = inl tt
  phase_cases mark = inl tt
  phase_cases sweep = inr tt

  white_on : Inv segment_of st → (x : ℕ) → Grey st x → Tracing st.phase ⊎ Quiet st.phase → st'.marked x ≡ false
  white_on inv x g (inl t) = a.marked t x (root (inr g)) ∙ inv.stack.white x g
  white_on inv x g (inr q) = absurd (Memᴰ.not-nil (subst (Memᴰ x) (inv.quiet q) g))

  pub agree_inv : Inv segment_of st → Inv segment_of st'
  agree_inv inv = record {
    valid = λ b p. a.used b (live_back p) ∙ inv.valid b (live_back p);
    stack = record { white = λ x h. white_on inv x (subst (Memᴰ x) a.stack h) (phase_cases st.phase); nodup = subst Nodup (sym a.stack) inv.stack.nodup };
    quiet = λ q. a.stack ∙ inv.quiet (subst Quiet a.phase q);
    blank = λ e b p. let e' = sym a.phase ∙ e in a.marked (subst Tracing (sym e') tt) b (live_back p) ∙ inv.blank e' b (live_back p);
    first = λ e i. omega (arith, a.acks i, inv.first (sym a.phase ∙ e) i);
    second = λ e i o. omega (arith, a.acks i, inv.second (sym a.phase ∙ e) i (sym (a.attached i) ∙ o));
    all = λ e i o. omega (arith, a.acks i, inv.all (sym a.phase ∙ e) i (sym (a.attached i) ∙ o));
    core = λ t. let t' = subst Tracing a.phase t in let c = inv.core t' in record {
      roots_covered = λ i b q h. safe_on t' b (root (inl (i, holds_back i b h))) (c.roots_covered i b (omega (arith, a.acks i)) (holds_back i b h));
      pointers_covered =
          λ x y p m e. safe_on t' y (next (live_back p) (edge_back x y (live_back p) e))
          (c.pointers_covered x y (live_back p) (sym (a.marked t' x (live_back p)) ∙ m) (edge_back x y (live_back p) e));
    };
    kept = λ e b p d. let d' = sym (a.condemned (segment_of b)) ∙ d in a.condemned_marks b d' ∙ inv.kept (sym a.phase ∙ e) b (reached_back p) d';
  }

  pub agree_comp : (P : ℕ → Type 0) → Complete segment_of P st → Complete segment_of P st'
  agree_comp P c = record {
    live = λ b p k. c.live b (live_back p) (sym (a.condemned (segment_of b)) ∙ k);
    black = λ b m k. let k' = sym (a.condemned (segment_of b)) ∙ k in c.black b (sym (a.condemned_marks b k') ∙ m) k';
  }

  pub agree_sim : (put : ℕ → Option ℕ) (un : Unbounded) → Simulates put st un → Simulates put st' un
  agree_sim put un s = record {
    attached = λ i. a.attached i ∙ s.attached i;
    inside = λ i. a.inside i ∙ s.inside i;
    root = λ i k o l. let o' = sym (a.attached i) ∙ o in rw (a.root i k o' l) (s.root i k o' l);
    rec = λ b h. let p = live_back h in let c = s.rec b p in record {
      id = c.id;
      is = c.is;
      pointer_count = a.pointer_count b p ∙ c.pointer_count;
      values = a.values b p ∙ c.values;
      pointer = λ f l. let l' : f < st.pointer_count b = subst (λ z. f < z) (a.pointer_count b p) l in rw (a.pointer b f p l') (c.pointer f l');
    };
    inj = s.inj;
    old = s.old;
  }

  -- ---- agreement is transitive

  live_on : {b : ℕ} → Live st b → Live st' b
  live_on p = reach_ind (Live st') r (λ x y q h e. next h (edge_on x y q e)) p
    where
      r : (x : ℕ) → LiveRoot st x → Live st' x
      r x (inl h) = root (inl (h.0, holds_on h.0 x h.1))
      r x (inr q) = root (inr (subst (Memᴰ x) (sym a.stack) q))

  pub agree_trans : (st'' : State) → Agree segment_of st' st'' → Agree segment_of st st''
  agree_trans st'' b = record {
    phase = b.phase ∙ a.phase;
    stack = b.stack ∙ a.stack;
    attached = λ i. b.attached i ∙ a.attached i;
    inside = λ i. b.inside i ∙ a.inside i;
    acks = λ i. b.acks i ∙ a.acks i;
    root = λ i k h l. b.root i k (a.attached i ∙ h) l ∙ a.root i k h l;
    marked = λ t x h. b.marked (subst Tracing (sym a.phase) t) x (live_on h) ∙ a.marked t x h;
    condemned_marks = λ x d. b.condemned_marks x (a.condemned (segment_of x) ∙ d) ∙ a.condemned_marks x d;
    condemned = λ x. b.condemned x ∙ a.condemned x;
    pointer_count = λ x h. b.pointer_count x (live_on h) ∙ a.pointer_count x h;
    values = λ x h. b.values x (live_on h) ∙ a.values x h;
    pointer = λ x f h l. b.pointer x f (live_on h) (subst (λ z. f < z) (sym (a.pointer_count x h)) l) ∙ a.pointer x f h l;
    used = λ x h. b.used x (live_on h) ∙ a.used x h;
  }
