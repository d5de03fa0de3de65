-- The invariant of the machine, and that the calls that set a root keep it.
use mathlib.Core.Path.{◌≡◌, sym, ◌∙◌, subst}
use mathlib.Core.Logic.{◌⊎◌, inl, inr, ⊎_elim}
use mathlib.Core.Bool.{true}
use mathlib.Core.Option.{Option, none, some, none-ne-some}
use Prim.Native.Nat.{ℕ, ◌<◌}
use Rattle.theory.proofs.Graph.{reach_map, safe_edge}
use Rattle.theory.specs.Reach.{Protected, root, next}
use Rattle.theory.specs.Machine.{State, Holds, Root, Points, Grey, LiveRoot, Live, Reached, Covered, set_root}
use Rattle.theory.proofs.Updates.{upd2_cases, In}
use Rattle.theory.specs.Update.{upd2}
use Rattle.layout.specs.Geometry.{root_count}
pub use Rattle.theory.specs.Invariant.{Tracing, Quiet, Acked, Core, Inv}

-- ---- small facts

pub reached_live : (st : State) {b : ℕ} → Reached st b → Live st b
reached_live st p = reach_map {R = Root st} {R' = LiveRoot st} (λ x h. root (inl h)) (λ x y q e. inl e) p

pub prot_live : (st : State) {b : ℕ} → Protected (Grey st) st.marked (Points st) b → Live st b
prot_live st p = reach_map {R = Grey st} {R' = LiveRoot st} (λ x h. root (inr h)) (λ x y q e. inl e.1) p

pub in_safe : (st : State) (b : ℕ) → In st.marked st.stack b → Covered st b
in_safe st b (inl h) = inl h
in_safe st b (inr h) = inr (root h)

pub none_some : {b : ℕ} {A : Type 0} → none ≡ some b → A
none_some {b} e = absurd (none-ne-some b e)

-- ---- roots: load, copy, clear

module _ (segment_of : ℕ → ℕ) (st : State) (inv : Inv segment_of st) (i k : ℕ) (v : Option ℕ) where
  pub root_holds : (j b : ℕ) → Holds (set_root st i k v) j b → Holds st j b ⊎ ((j ≡ i) × (v ≡ some b))
  root_holds j b h = go (upd2_cases st.root i k v j h.0)
    where
      go : ((j ≡ i) × (h.0 ≡ k) × (upd2 st.root i k v j h.0 ≡ v)) ⊎ (upd2 st.root i k v j h.0 ≡ st.root j h.0) → Holds st j b ⊎ ((j ≡ i) × (v ≡ some b))
      go (inl q) = inr (q.0, sym q.2 ∙ h.3)
      go (inr q) = inl (h.0, h.1, h.2, sym q ∙ h.3)

  module _ (r : (b : ℕ) → v ≡ some b → Reached st b) where
    pub root_reached : {b : ℕ} → Reached (set_root st i k v) b → Reached st b
    root_reached p = reach_map (λ x h. ⊎_elim (λ q. root (h.0, q)) (λ q. r x q.1) (root_holds h.0 x h.1)) (λ x y q e. inl e) p

    pub root_live : {b : ℕ} → Live (set_root st i k v) b → Live st b
    root_live p = reach_map (λ x h. ⊎_elim (λ (h' : Root (set_root st i k v) x). reached_live st (root_reached (root h'))) (λ g. root (inr g)) h) (λ x y q e. inl e) p

    pub root_inv : ((b : ℕ) → v ≡ some b → Tracing st.phase → Acked (st.acks i) → Covered st b) → Inv segment_of (set_root st i k v)
    root_inv s = record {
      valid = λ b p. inv.valid b (root_live p);
      stack = inv.stack;
      quiet = inv.quiet;
      blank = λ e b p. inv.blank e b (root_live p);
      first = inv.first;
      second = inv.second;
      all = inv.all;
      core = λ t. record {
        roots_covered = λ j b a h. ⊎_elim ((inv.core t).roots_covered j b a) (λ q. s b q.1 t (subst (λ z. Acked (st.acks z)) q.0 a)) (root_holds j b h);
        pointers_covered = λ x y p. (inv.core t).pointers_covered x y (root_live p);
      };
      kept = λ e b p. inv.kept e b (root_reached p);
    }

module _ (segment_of : ℕ → ℕ) (st : State) (inv : Inv segment_of st) (i : ℕ) where
  -- root d takes the pointer f of the block a that a root holds
  pub load_inv : (d a f : ℕ) → Holds st i a → f < st.pointer_count a → Inv segment_of (set_root st i d (st.pointer a f))
  load_inv d a f h l =
      root_inv segment_of st inv i d (st.pointer a f) (λ b e. next (root (i, h)) (f, l, e))
      (λ b e t q. safe_edge (λ m. (inv.core t).pointers_covered a b (root (inl (i, h))) m (f, l, e)) ((inv.core t).roots_covered i a q h) (f, l, e))

  pub copy_inv : (d k : ℕ) → st.attached i ≡ true → k < root_count → Inv segment_of (set_root st i d (st.root i k))
  copy_inv d k o l = root_inv segment_of st inv i d (st.root i k) (λ b e. root (i, (k, o, l, e))) (λ b e t q. (inv.core t).roots_covered i b q (k, o, l, e))

  pub clear_inv : (d : ℕ) → Inv segment_of (set_root st i d none)
  clear_inv d = root_inv segment_of st inv i d none (λ b e. none_some e) (λ b e t q. none_some e)
