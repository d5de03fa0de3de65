-- From the abstract machine to a model of it: one call of the model that agrees, on what is live, with the abstract call.
use mathlib.Core.Path.{◌≡◌, refl, sym, ◌∙◌, ap}
use mathlib.Core.Option.{Option}
use Prim.Native.Nat.{ℕ, suc}
use Rattle.theory.proofs.Agree.{Agree, agree_inv, agree_comp, agree_sim}
use Rattle.theory.proofs.CallKeeps.{Coupled, act_ok, same_refusal}
use Rattle.theory.specs.Machine.{State}
use Rattle.theory.specs.MachineCalls.{observe, act, Permitted, step_by}
use Rattle.theory.proofs.CollectorKeeps.{Pick, step_ok}
use Rattle.theory.specs.Calls.{Call, a_no, refusal, refuse}
use Rattle.theory.specs.Unbounded.{Unbounded, uact, uexec, puts}

pub agree_ok : (segment_of : ℕ → ℕ) (P : ℕ → Type 0) (put : ℕ → Option ℕ) (st st' : State) (un : Unbounded) → Agree segment_of st st' → Coupled segment_of P put st un → Coupled segment_of P put st' un
agree_ok segment_of P put st st' un a o = record {
  inv = agree_inv segment_of st st' a o.inv;
  sim = agree_sim segment_of st st' a put un o.sim;
  few = λ i h. o.few i (sym (a.attached i) ∙ h);
  comp = agree_comp segment_of st st' a P o.comp;
}

-- a mutator call of the model that acts, and whose make is handed the block b
pub model_call : (segment_of : ℕ → ℕ) (P : ℕ → Type 0) (put : ℕ → Option ℕ) (st st' : State) (un : Unbounded) (c : Call) (b : ℕ)
    → Coupled segment_of P put st un → refusal (observe st) c ≡ 0 → Permitted segment_of b st c
    → Agree segment_of (act b st c).1 st' → ((act b st c).0 ≡ (uexec un c).0) × Coupled segment_of P (puts c (λ _ _. b) un.count put) st' (uexec un c).1
model_call segment_of P put st st' un c b o e p a =
    let h = act_ok segment_of b P put st un o c e p in
    let u : uexec un c ≡ uact un c = ap (λ n. refuse n un (uact un c)) (same_refusal segment_of b P put st un o c ∙ e) in
    rw u (h.same, agree_ok segment_of P _ _ st' _ a h.ok)

-- one that a number from 2 to 9 refuses
pub model_refused : (segment_of : ℕ → ℕ) (P : ℕ → Type 0) (put : ℕ → Option ℕ) (st : State) (un : Unbounded) (c : Call) (n : ℕ)
    → Coupled segment_of P put st un → refusal (observe st) c ≡ suc n → uexec un c ≡ (a_no (suc n), un)
model_refused segment_of P put st un c n o e = ap (λ n. refuse n un (uact un c)) (same_refusal segment_of 0 P put st un o c ∙ e)

-- a step of the model that sweeps v, if it sweeps
pub model_step : (segment_of : ℕ → ℕ) (P : ℕ → Type 0) (put : ℕ → Option ℕ) (st st' : State) (un : Unbounded) (v : Option ℕ) → Pick (λ _. v) st → Coupled segment_of P put st un
    → Agree segment_of (step_by segment_of (λ _. v) st.phase st) st' → Coupled segment_of P put st' un
model_step segment_of P put st st' un v lo o a = agree_ok segment_of P put _ st' un a (step_ok segment_of (λ _. v) P put st un lo o st.phase refl)
