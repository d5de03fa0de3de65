-- What `(a..b).all(f)` answers: it decides what f decides of each number from a on, below b.
use mathlib.Core.Path.{◌≡◌, sym, ◌∙◌, refl, subst}
use mathlib.Core.Bool.{Bool, true, false}
use mathlib.Core.List.{List}
use Prim.Native.Nat.{ℕ, ◌+◌, ◌-◌, ◌≤◌, ◌<◌}
use native.Mathlib.Omega.{arith}
use lib.ListN.{length}
use denote.Param.Members.{Mut}
use Rattle.std.specs.Prelude.{Option}
use Rattle.std.specs.Option.{MatchOption}
use Rattle.std.specs.Bool.{MatchBool}
use Rattle.std.specs.Fn.{Called}
use Rattle.std.specs.Iterator.{YieldsThen}
use Rattle.std.specs.List.{FoldsTo, AllWithin, HoldsAt, range_with_len}
use Rattle.std.proofs.iter.Yields.{nat_range_steps}
use Rattle.std.specs.declared.ops.Range.{Range}
use Rattle.std.proofs.lemmas.Iterator.{cases_from_all, YieldsList-from_range}
use Rattle.std.proofs.lemmas.List.FromFn.{length-range_with_len, get_or-range_with_len}
use Rattle.basics.specs.Decides.{Decides}
use Rattle.basics.proofs.Deciding.{holds, fails, refuted}

by_cases : (r : Bool) (a n : ℕ) (P : ℕ → Type 0) → MatchBool r (AllWithin P (range_with_len a n) 0 (length (range_with_len a n))) ((k : ℕ) × (k < length (range_with_len a n)) × HoldsAt (λ x. P x → ⊥) (range_with_len a n) k) → Decides r ((k : ℕ) → k < a + n → a ≤ k → P k)
by_cases true a n P h =
    holds (λ k l m. let i : k - a < n = omega arith in subst P (get_or-range_with_len a n (k - a) 0 i ∙ omega arith) (h (k - a) 0 (omega arith) (subst (λ z. k - a < z) (sym (length-range_with_len a n)) i)))
by_cases false a n P h =
    fails (λ q. let l = subst (λ z. h.0 < z) (length-range_with_len a n) h.1 in h.2 0 (subst P (sym (get_or-range_with_len a n h.0 0 l)) (q (a + h.0) (omega arith) (omega arith))))

module _ {F : Type 0} {g : Mut F (ℕ × Unit {0}) Bool} {f : F} {u : Range ℕ} {r : Bool} {P : ℕ → Type 0} (a n : ℕ) where
  -- the last argument, of one call, ends in `search rules`
  pub every_from : (xs : List ℕ) × (o : Option ℕ) × (j : F) × YieldsThen nat_range_steps (record { start = a; end = a + n }) xs o u × FoldsTo (λ p x q. Called g p (x, tt) true q) f xs j × MatchOption o (r ≡ true) (λ x. (r ≡ false) × ((h : F) × Called g j (x, tt) false h))
      → ((x : ℕ) (b : Bool) (q : F) → Called g f (x, tt) b q → (q ≡ f) × Decides b (P x)) → Decides r ((k : ℕ) → k < a + n → a ≤ k → P k)
  every_from ran one = by_cases r a n P
      (cases_from_all u f r P (λ x. P x → ⊥) ran (YieldsList-from_range a (a + n) n refl (omega arith)) (λ x q k. let o = one x true q k in (o.0, o.1.sound refl)) (λ x q k. refuted (one x false q k).1 refl))
