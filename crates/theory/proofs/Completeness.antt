-- Completeness: what was not live when the cycle began is never marked in a condemned segment.
use mathlib.Core.Path.{◌≡◌, refl, ap, sym, ◌∙◌, subst}
use mathlib.Core.Logic.{◌⊎◌, inl, inr, ⊎_elim, ◌≢◌}
use mathlib.Core.Bool.{Bool, true, false}
use mathlib.Core.Option.{Option, some}
use mathlib.Core.List.{List, ◌∷◌, Memᴰ}
use Prim.Native.Nat.{ℕ, zero, suc, ◌<◌}
use native.Mathlib.Decide.{ℕ_discrete}
use Rattle.theory.proofs.Graph.{bool_cases, clash}
use Rattle.theory.proofs.Invariant.{Inv, root_live}
use Rattle.theory.specs.Machine.{set_values, State, Holds, Root, Live, Reached, set_root, store, make, attach, detach, set_inside, acknowledge, check, start, set_phase, trace, sweep_segment}
use Rattle.theory.proofs.Updates.{upd_cases, upd_other}
use Rattle.theory.specs.Phases.{Phase, idle, sync1, sync2, mark, sweep, black}
use Rattle.theory.specs.Reach.{root}
use Rattle.theory.specs.Update.{if_dec}
use Rattle.theory.proofs.StoreKeeps as Store
use Rattle.theory.proofs.MakeKeeps as Make
use Rattle.theory.proofs.CycleKeeps as Cycle

-- P: what was live when the cycle began. A block of a condemned segment that is live or marked is of P.
pub record Complete (segment_of : ℕ → ℕ) (P : ℕ → Type 0) (st : State) : Type 0 where
  pub live : (b : ℕ) → Live st b → st.condemned (segment_of b) ≡ true → P b
  pub black : (b : ℕ) → st.marked b ≡ true → st.condemned (segment_of b) ≡ true → P b

-- where nothing becomes live or comes among the condemned, and only what was live is marked
pub back_comp : (segment_of : ℕ → ℕ) (P : ℕ → Type 0) (st st' : State) → Complete segment_of P st → ((b : ℕ) → Live st' b → Live st b)
    → ((b : ℕ) → st'.marked b ≡ true → (st.marked b ≡ true) ⊎ Live st b)
    → ((g : ℕ) → st'.condemned g ≡ true → st.condemned g ≡ true) → Complete segment_of P st'
back_comp segment_of P st st' c l m d =
    record { live = λ b p k. c.live b (l b p) (d (segment_of b) k); black = λ b h k. ⊎_elim (λ q. c.black b q (d (segment_of b) k)) (λ q. c.live b q (d (segment_of b) k)) (m b h) }

pub start_comp : (segment_of : ℕ → ℕ) (st : State) (full : ℕ → Bool) → Complete segment_of (Live st) (start st full)
start_comp segment_of st full = record { live = λ b p k. p; black = λ b m k. clash m refl }

module _ (segment_of : ℕ → ℕ) (P : ℕ → Type 0) (st : State) (inv : Inv segment_of st) (c : Complete segment_of P st) where
  pub same_comp : (st' : State) → ((b : ℕ) → Live st' b → Live st b) → ((b : ℕ) → st'.marked b ≡ st.marked b) → ((g : ℕ) → st'.condemned g ≡ st.condemned g) → Complete segment_of P st'
  same_comp st' l m d = back_comp segment_of P st st' c l (λ b h. inl (sym (m b) ∙ h)) (λ g h. sym (d g) ∙ h)

  pub root_comp : (i k : ℕ) (v : Option ℕ) → ((b : ℕ) → v ≡ some b → Reached st b) → Complete segment_of P (set_root st i k v)
  root_comp i k v h = same_comp _ (λ b p. root_live segment_of st inv i k v h p) (λ b. refl) (λ g. refl)

  pub store_comp : (i a f : ℕ) (new : Option ℕ) → Holds st i a → f < st.pointer_count a → ((b : ℕ) → new ≡ some b → Holds st i b) → Complete segment_of P (store st i a f new)
  store_comp i a f new ha hf hn = same_comp _ (λ b p. Store.live_back segment_of st inv i a f new ha hf hn p) (λ b. refl) (λ g. refl)

  pub values_comp : (a : ℕ) (z : List ℕ) → Complete segment_of P (set_values st a z)
  values_comp a z = same_comp _ (λ b p. p) (λ b. refl) (λ g. refl)

  pub make_comp : (i d b n : ℕ) (z : List ℕ) → st.used b ≡ false → st.condemned (segment_of b) ≡ false → Complete segment_of P (make st i d b n z)
  make_comp i d b n z hu hd = record {
    live = λ x p k. ⊎_elim (λ q. c.live x q k) (λ q. clash k (ap (λ w. st.condemned (segment_of w)) q ∙ hd)) (Make.live_back segment_of st inv i d b n z hu hd p);
    black = λ x m k. go x m k (ℕ_discrete x b);
  }
    where
      go : (x : ℕ) → (make st i d b n z).marked x ≡ true → st.condemned (segment_of x) ≡ true → Dec (x ≡ b) → P x
      go x m k (yes e) = clash k (ap (λ w. st.condemned (segment_of w)) e ∙ hd)
      go x m k (no n) = c.black x (sym (upd_other st.marked b (black st.phase (st.acks i)) x n) ∙ m) k

  acknowledge_comp : (p : Phase) (n i : ℕ) → st.attached i ≡ true → Complete segment_of P (acknowledge p n st i)
  acknowledge_comp idle n i o = c
  acknowledge_comp sync1 zero i o = same_comp _ (λ b p. p) (λ b. refl) (λ g. refl)
  acknowledge_comp sync1 (suc n) i o = c
  acknowledge_comp sync2 zero i o = same_comp _ (λ b p. Cycle.acknowledge_live st i o p) (λ b. refl) (λ g. refl)
  acknowledge_comp sync2 (suc zero) i o = same_comp _ (λ b p. Cycle.acknowledge_live st i o p) (λ b. refl) (λ g. refl)
  acknowledge_comp sync2 (suc (suc n)) i o = c
  acknowledge_comp mark n i o = c
  acknowledge_comp sweep n i o = c

  pub check_comp : (i : ℕ) → st.attached i ≡ true → Complete segment_of P (check st i)
  check_comp i o = acknowledge_comp st.phase (st.acks i) i o

  pub phase_comp : (p : Phase) → Complete segment_of P (set_phase st p)
  phase_comp p = same_comp _ (λ b q. q) (λ b. refl) (λ g. refl)

  pub sweep_comp : (g : ℕ) → Complete segment_of P (sweep_segment segment_of st g)
  sweep_comp g = back_comp segment_of P st _ c (λ b q. q) (λ b m. inl m) (λ h k. ⊎_elim (λ q. clash k q.1) (λ q. sym q.1 ∙ k) (upd_cases st.condemned g false h))

  pub side_comp : (i : ℕ) (v : Bool) → Complete segment_of P (set_inside st i v)
  side_comp i v = same_comp _ (λ b q. q) (λ b. refl) (λ g. refl)

  pub trace_comp : (b : ℕ) (l : List ℕ) → st.phase ≡ mark → st.stack ≡ b ∷ l → Complete segment_of P (trace st b l)
  trace_comp b l hp e = back_comp segment_of P st _ c (λ x p. Cycle.live_back segment_of st inv b l hp e p)
      (λ x m. ⊎_elim (λ q. inr (subst (Live st) (sym q.0) (root (inr (subst (Memᴰ b) (sym e) (Memᴰ.head refl)))))) (λ q. inl (sym q.1 ∙ m)) (upd_cases st.marked b true x))
      (λ g k. k)

  pub attach_comp : (i : ℕ) (v : Option ℕ) → ((b : ℕ) → v ≡ some b → Root st b) → st.phase ≢ sync1 → st.phase ≢ sync2 → Complete segment_of P (attach st i v)
  attach_comp i v hv n1 n2 = same_comp _ (λ x p. Cycle.attach_live segment_of st inv i v hv n1 n2 p) (λ b. refl) (λ g. refl)

  pub detach_comp : (i : ℕ) → Complete segment_of P (detach st i)
  detach_comp i = same_comp _ (λ x p. Cycle.detach_live segment_of st inv i p) (λ b. refl) (λ g. refl)

  -- a block of a condemned segment that was not live when the cycle began is free once its segment is swept
  pub swept_free : (t : ℕ) → st.condemned (segment_of t) ≡ true → ¬ P t → (sweep_segment segment_of st (segment_of t)).used t ≡ false
  swept_free t d k = go (ℕ_discrete (segment_of t) (segment_of t))
    where
      white : (st.marked t ≡ true) ⊎ (st.marked t ≡ false) → st.marked t ≡ false
      white (inl m) = absurd (k (c.black t m d))
      white (inr w) = w

      go : (d : Dec (segment_of t ≡ segment_of t)) → if_dec d (st.marked t) (st.used t) ≡ false
      go (yes _) = white (bool_cases (st.marked t))
      go (no n) = absurd (n refl)
