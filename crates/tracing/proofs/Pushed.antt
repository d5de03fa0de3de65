-- A push on the trace stack by its tests, of a word and of the barrier's words.
use mathlib.Core.Path.{◌≡◌, refl, sym, ◌∙◌, ap, subst}
use mathlib.Core.Bool.{Bool, true, false, true≢false}
use mathlib.Core.Option.{some}
use mathlib.Core.Logic.{inl, inr}
use Prim.Native.Nat.{ℕ, suc, ◌+◌, ◌-◌, ◌≤◌}
use native.Mathlib.Omega.{arith}
use native.Mathlib.Nat.{pos_of_ne-zero}
use borrow.Author.Tests.{eq-eqb, ne_eqb}
use Rattle.std.specs.Prelude.{Some, None}
use Rattle.words.specs.Bits.{bit_at}
use Rattle.layout.specs.declared.Geometry.{Geometry}
use Rattle.layout.specs.Geometry.{len, mark_bit}
use Rattle.layout.specs.Mem.{Mem, set_trace}
use Rattle.model.specs.Fields.{trace_count, set_trace_count}
use Rattle.model.specs.Records.{record?}
use Rattle.model.specs.Tracing.{push}
use Rattle.model.specs.declared.Duty.{Duty}
use Rattle.marks.specs.Bits.{record_bit_at, with_mark}
use Rattle.marks.proofs.Bits.{bit_within}
use Rattle.tracing.specs.Pushing.{pushed_bit, PushesBit, PushFails, Pushes, BarrierRuns}
use Rattle.model.specs.Records as records
use Rattle.model.specs.declared.Duty.TheVariants as duty
use Rattle.layout.specs.Region as Region

-- ---- bit k is set, or it is not

module _ (g : Geometry) (m : Mem) (w k : ℕ) where
  pub push_old : bit_at m.marks k ≡ 1 → PushesBit g m w k true m
  unfolding pushed_bit
  push_old q = record { done = λ _. rw (eq-eqb _ _ q) refl; full = λ t. absurd (true≢false t) }

  module _ (unset : bit_at m.marks k ≡ 1 → ⊥) (n : ℕ) (j : n ≡ trace_count m) where
    pub push_full : (d : ℕ) → d ≡ len g Region.trace → d ≤ n → PushesBit g m w k false m
    push_full d t o = record {
      done = λ y. absurd (true≢false (sym y));
      full = λ _. (unset, subst (λ z. len g Region.trace ≤ z) j (subst (λ z. z ≤ n) t o));
    }

    pub push_done : (m₁ m₂ m₃ : Mem) → m₁ ≡ with_mark m k → m₂ ≡ set_trace m₁ n w → m₃ ≡ set_trace_count m₂ (n + 1) → PushesBit g m w k true m₃
    unfolding pushed_bit
    push_done m₁ m₂ m₃ e₁ e₂ e₃ = record {
      done = λ _. e₃ ∙ rw (e₂, e₁, j, ne_eqb _ _ unset) refl;
      full = λ t. absurd (true≢false t);
    }

-- ---- a push of a word

pushed_is : (g : Geometry) (m : Mem) (at k : ℕ) → k ≡ mark_bit at → pushed_bit m (suc at) k ≡ push g m (some at)
unfolding push pushed_bit with_mark records.set_entered
pushed_is g m at k e = rw e refl

module _ (g : Geometry) (m : Mem) (w : ℕ) where
  pub push_nil : w ≡ 0 → Pushes g m w true m
  unfolding push
  push_nil e = record { done = λ _. rw e refl; fails = λ t. absurd (true≢false t) }

  named : (w ≡ 0 → ⊥) → w ≡ suc (w - 1)
  named f = let l = pos_of_ne-zero f in omega arith

  pub push_torn : (w ≡ 0 → ⊥) → None ≡ record_bit_at g (w - 1) → Pushes g m w false m
  push_torn f e = record { done = λ t. absurd (true≢false (sym t)); fails = λ _. record { at = w - 1; names = named f; why = inl (sym e) } }

  pub push_by : (k : ℕ) (r : Bool) (after : Mem) → (w ≡ 0 → ⊥) → Some k ≡ record_bit_at g (w - 1) → PushesBit g m w k r after → Pushes g m w r after
  push_by k r after f e p =
      let z = (bit_within g (w - 1) k e).0 in
      record {
        done = λ t. p.done t ∙ subst (λ v. pushed_bit m v k ≡ push g m (record? v)) (sym (named f)) (pushed_is g m (w - 1) k z);
        fails = λ t. let h = p.full t in record { at = w - 1; names = named f; why = inr ((λ q. h.0 (ap (bit_at m.marks) z ∙ q)), h.1) };
      }

-- ---- the barrier

module _ (g : Geometry) (m : Mem) (d : Duty) (new o : ℕ) where
  pub barrier_nothing : d ≡ duty.Nothing → BarrierRuns g m d new o true m
  barrier_nothing k = subst (λ z. BarrierRuns g m z new o true m) (sym k) (record { done = λ _. refl; fails = λ t. absurd (true≢false t) })

  pub barrier_old : d ≡ duty.Old → (r : Bool) (after : Mem) → Pushes g m o r after → BarrierRuns g m d new o r after
  barrier_old k r after p =
      subst (λ z. BarrierRuns g m z new o r after) (sym k) (record { done = λ t. p.done t; fails = λ t. inr (inl (p.fails t)) })

  pub barrier_stops : d ≡ duty.Both → (r : Bool) (after : Mem) → Pushes g m new r after → r ≡ false → BarrierRuns g m d new o false after
  barrier_stops k r after p f =
      subst (λ z. BarrierRuns g m z new o false after) (sym k)
      (record { done = λ t. absurd (true≢false (sym t)); fails = λ _. inl (p.fails f) })

  pub barrier_both : d ≡ duty.Both → (r : Bool) (m₁ : Mem) (q : Bool) (after : Mem) → Pushes g m new r m₁ → r ≡ true → Pushes g m₁ o q after → BarrierRuns g m d new o q after
  barrier_both k r m₁ q after p t u =
      let e = p.done t in
      subst (λ z. BarrierRuns g m z new o q after) (sym k)
      (record {
        done = λ v. u.done v ∙ ap (λ z. push g z (record? o)) e;
        fails = λ v. inr (inr (subst (λ z. PushFails g z o) e (u.fails v)));
      })
