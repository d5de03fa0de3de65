-- A mutator's call is refused 11 in a handshake only: three calls may be, by their promise, and each asks for the phase.
use mathlib.Core.Path.{◌≡◌, refl, sym}
use mathlib.Core.Logic.{◌⊎◌, inl, inr}
use mathlib.Core.Bool.{Bool, true, false, true≢false}
use Prim.Native.Nat.{ℕ, zero, suc, ◌≤◌}
use native.Mathlib.Omega.{arith}
use Rattle.layout.specs.declared.Geometry.{Geometry}
use Rattle.layout.specs.Mem.{Mem}
use Rattle.theory.specs.Phases.{in_handshake}
use Rattle.theory.specs.Calls.{Call, c_attach, c_detach, c_check, c_leave, c_enter, c_spawn, c_make, c_load, c_store, c_copy, c_clear, c_put, c_get}
use Rattle.theory.specs.Calls.{c_same, c_shape, a_ok, a_no, refusal, refuse, unless}
use Rattle.model.specs.Answers.{among, may_give}
use Rattle.model.specs.Fields.{phase}
use Rattle.model.specs.Calls.{observe, act, exec}
use Rattle.guarantee.proofs.Numbers.{refusal_stays}
use Rattle.guarantee.proofs.Refused.{result, other}

unless_11 : (b : Bool) (m m' : Mem) → (unless b 11 m m').0 ≡ a_no 11 → b ≡ true
unless_11 true m m' e = refl
unless_11 false m m' e = result a_ok 11 refl e

act_11 : (g : Geometry) (m : Mem) (c : Call) → among 11 (may_give c) ≡ true → (act g m c).0 ≡ a_no 11 → in_handshake (phase m) ≡ true
unfolding act
act_11 g m (c_attach k) t e = unless_11 (in_handshake (phase m)) m _ e
act_11 g m (c_spawn k p i) t e = unless_11 (in_handshake (phase m)) m _ e
act_11 g m (c_detach k) t e = unless_11 (in_handshake (phase m)) m _ e
act_11 g m (c_check k) t e = absurd (true≢false (sym t))
act_11 g m (c_leave k) t e = absurd (true≢false (sym t))
act_11 g m (c_enter k) t e = absurd (true≢false (sym t))
act_11 g m (c_make k d p n) t e = absurd (true≢false (sym t))
act_11 g m (c_load k d i f) t e = absurd (true≢false (sym t))
act_11 g m (c_store k i f j) t e = absurd (true≢false (sym t))
act_11 g m (c_copy k d i) t e = absurd (true≢false (sym t))
act_11 g m (c_clear k d) t e = absurd (true≢false (sym t))
act_11 g m (c_put k i f v) t e = absurd (true≢false (sym t))
act_11 g m (c_get k i f) t e = absurd (true≢false (sym t))
act_11 g m (c_same k i j) t e = absurd (true≢false (sym t))
act_11 g m (c_shape k i) t e = absurd (true≢false (sym t))

pub handshakes_only : (g : Geometry) (m : Mem) (c : Call) → among 11 (may_give c) ≡ true → (exec g m c).0 ≡ a_no 11 → in_handshake (phase m) ≡ true
unfolding exec
handshakes_only g m c t e = go (refusal (observe m) c) (refusal_stays (observe m) c).either e
  where
    go : (x : ℕ) → (x ≡ 0) ⊎ ((2 ≤ x) × (x ≤ 9)) → (refuse x m (act g m c)).0 ≡ a_no 11 → in_handshake (phase m) ≡ true
    go zero h e = act_11 g m c t e
    go (suc x) (inl h) e = absurd (omega arith)
    go (suc x) (inr h) e = other (suc x) 11 (λ z. let l = h.1 in omega arith) e
