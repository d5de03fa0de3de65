-- How a call of the collector keeps its promise: refused for a size, refused by another number with not a word changed, done as its definition says, and
-- for step a part of it.
use mathlib.Core.Path.{◌≡◌, refl, sym, ◌∙◌, ap, subst}
use mathlib.Core.Bool.{true, false, true≢false}
use mathlib.Core.Option.{none, none-ne-some, some-injective}
use mathlib.Core.List.{List}
use Prim.Native.Nat.{ℕ}
use native.Mathlib.Omega.{arith}
use lib.ListN.{length}
use Rattle.layout.specs.declared.Geometry.{Geometry}
use Rattle.layout.specs.Geometry.{wrong_size}
use Rattle.layout.specs.Mem.{Mem, mem_of}
use Rattle.theory.specs.Calls.{a_no}
use Rattle.model.specs.declared.Step.{Step}
use Rattle.model.specs.Answers.{refusal_in, step_may_give, among}
use Rattle.model.specs.Consistent.{Consistent}
use Rattle.model.specs.Promise.{PromiseOf, StepPromise}
use Rattle.model.specs.Collector.{step_of}
use Rattle.model.specs.StepParts.{StepsAs}
use Rattle.theory.specs.Calls as theory

module _ {A : Type 0} (value : A → theory.Answer) (Result : Geometry → theory.Answer → Type 0) (may_refuse : List ℕ)
    (does : Geometry → Mem → theory.Answer × Mem) (g : Geometry) (xs : List ℕ) (r : A) where
  -- "1, size", and not a word is changed
  pub promise_1 : value r ≡ a_no 1 → among 1 may_refuse ≡ true → wrong_size g (length xs) ≡ true → PromiseOf value Result may_refuse does g xs r xs
  promise_1 v a e = record {
    sizes = λ _. (v, refl);
    exact = λ f. absurd (true≢false (sym e ∙ f));
    kind = λ q. absurd (none-ne-some 1 (sym q ∙ ap refusal_in v));
    allowed = λ n q. subst (λ k. among k may_refuse ≡ true) (some-injective 1 n (sym (ap refusal_in v) ∙ q)) a;
    only_size = λ _. e;
  }

  module _ (e : wrong_size g (length xs) ≡ false) where
    -- refused n, a number that the call may give, where the definition says so
    pub promise_refused : (n : ℕ) → value r ≡ a_no n → among n may_refuse ≡ true → (n ≡ 1 → ⊥) → (ys : List ℕ)
        → (Consistent g (mem_of g xs) → (a_no n, mem_of g ys) ≡ does g (mem_of g xs)) → PromiseOf value Result may_refuse does g xs r ys
    promise_refused n v a f ys d = record {
      sizes = λ h. absurd (true≢false (sym h ∙ e));
      exact = λ _ c. (v ∙ ap (λ w. w.0) (d c), ap (λ w. w.1) (d c));
      kind = λ q. absurd (none-ne-some n (sym q ∙ ap refusal_in v));
      allowed = λ k q. subst (λ k. among k may_refuse ≡ true) (some-injective n k (sym (ap refusal_in v) ∙ q)) a;
      only_size = λ q. absurd (f (some-injective n 1 (sym (ap refusal_in v) ∙ q)));
    }

    -- a result of the call's kind, the definition's
    pub promise_done : refusal_in (value r) ≡ none → Result g (value r) → (ys : List ℕ)
        → (Consistent g (mem_of g xs) → (value r, mem_of g ys) ≡ does g (mem_of g xs)) → PromiseOf value Result may_refuse does g xs r ys
    promise_done v k ys d = record {
      sizes = λ h. absurd (true≢false (sym h ∙ e));
      exact = λ _ c. (ap (λ w. w.0) (d c), ap (λ w. w.1) (d c));
      kind = λ _. k;
      allowed = λ k q. absurd (none-ne-some k (sym v ∙ q));
      only_size = λ q. absurd (none-ne-some 1 (sym v ∙ q));
    }

-- step is one of its parts where its definition is that part's
pub promise_part : (part : Geometry → Mem → theory.Answer × Mem) (g : Geometry) (xs : List ℕ) (r : Step) (ys : List ℕ)
    → wrong_size g (length xs) ≡ false → part g (mem_of g xs) ≡ step_of g (mem_of g xs) → StepsAs part g (mem_of g xs) r (mem_of g ys)
    → StepPromise g xs r ys
promise_part part g xs r ys e d s = record {
  sizes = λ h. absurd (true≢false (sym h ∙ e));
  exact = λ _ c. let p = s.exact c in (p.0 ∙ ap (λ w. w.0) d, p.1 ∙ ap (λ w. w.1) d);
  kind = s.kind;
  allowed = λ n q. subst (λ k. among k step_may_give ≡ true) (sym (s.torn n q)) refl;
  only_size = λ q. absurd (let z = s.torn 1 q in omega arith);
}
