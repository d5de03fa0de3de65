-- How a mutator's call keeps its promise: refused for a size, refused by one of the numbers 2 to 9, or done.
use mathlib.Core.Path.{◌≡◌, refl, sym, ◌∙◌, ap, subst}
use mathlib.Core.Bool.{Bool, true, false, true≢false}
use mathlib.Core.Option.{none, some, none-ne-some, some-injective}
use mathlib.Core.List.{List}
use Prim.Native.Nat.{ℕ, zero, suc, ◌≤◌}
use native.Mathlib.Omega.{arith}
use lib.ListN.{length}
use Rattle.std.specs.Prelude.{Result, Ok, Err, is_ok}
use Rattle.basics.specs.Pick.{pick}
use Rattle.layout.specs.declared.Geometry.{Geometry}
use Rattle.layout.specs.Geometry.{wrong_size}
use Rattle.layout.specs.Mem.{Mem, mem_of}
use Rattle.theory.specs.Calls.{Call, refusal, refuse, a_no}
use Rattle.model.specs.declared.Answer.{Answer}
use Rattle.model.specs.declared.Refusal.{Refusal}
use Rattle.model.specs.declared.Refusal.TheVariants.{Size, Torn}
use Rattle.model.specs.Refusals.{number_of}
use Rattle.model.specs.Answers.{answer_of, ResultOf, refusal_of, among, may_give}
use Rattle.model.proofs.Refusals.{no_0}
use Rattle.model.proofs.Numbers.{Among, refusal_among, one_of, gives_1, gives_13}
use Rattle.model.specs.Calls.{observe, act, exec}
use Rattle.model.specs.Consistent.{Consistent}
use Rattle.model.specs.Promise.{Promise}
use Rattle.theory.specs.Calls as theory

refuse_is : {S : Type 0} (n : ℕ) (st : S) (r : theory.Answer × S) → (n ≡ 0 → ⊥) → refuse n st r ≡ (a_no n, st)
refuse_is zero st r f = absurd (f refl)
refuse_is (suc n) st r f = refl

exec_by : (g : Geometry) (m : Mem) (c : Call) {n : ℕ} → n ≡ refusal (observe m) c → exec g m c ≡ refuse n m (act g m c)
unfolding exec
exec_by g m c r = ap (λ k. refuse k m (act g m c)) (sym r)

-- a size that was not refused
pub fits : {w : Bool} {x : Unit {0}} → Ok x ≡ pick w (Err Size) (Ok tt) → w ≡ false
fits {w = false} e = refl
fits {w = true} e = absurd (true≢false (ap is_ok e))

module _ (c : Call) (g : Geometry) (xs : List ℕ) where
  -- "1, size", and not a word is changed
  pub size_1 : wrong_size g (length xs) ≡ true → Promise c g xs (Err Size) xs
  size_1 e = record {
    sizes = λ _. (refl, refl);
    exact = λ f. absurd (true≢false (sym e ∙ f));
    kind = λ q. absurd (none-ne-some 1 (sym q));
    allowed = λ n q. subst (λ k. among k (may_give c) ≡ true) (some-injective 1 n q) (gives_1 c);
    only_size = λ _. e;
  }

  -- the lowest of the numbers 2 to 9 that applies, and not a word is changed
  pub refused : (w : Refusal) → wrong_size g (length xs) ≡ false → number_of w ≡ refusal (observe (mem_of g xs)) c → Promise c g xs (Err w) xs
  refused w e r = record {
    sizes = λ h. absurd (true≢false (sym h ∙ e));
    exact = λ _ _. (sym (ap (λ a. a.0) does), sym (ap (λ a. a.1) does));
    kind = λ q. absurd (none-ne-some (number_of w) (sym q));
    allowed = λ k q. subst (λ k. among k (may_give c) ≡ true) (some-injective (number_of w) k q) can.0;
    only_size = λ q. absurd (big (some-injective (number_of w) 1 q));
  }
    where
      does : exec g (mem_of g xs) c ≡ (a_no (number_of w), mem_of g xs)
      does = exec_by g (mem_of g xs) c r ∙ refuse_is (number_of w) (mem_of g xs) (act g (mem_of g xs) c) (no_0 w)

      can : (among (number_of w) (may_give c) ≡ true) × (2 ≤ number_of w)
      can = one_of (may_give c) (number_of w) (no_0 w) (subst (Among (may_give c)) (sym r) (refusal_among (observe (mem_of g xs)) c))

      big : number_of w ≡ 1 → ⊥
      big q = let l = can.1 in omega arith

  -- not refused so, answer and memory are the definition's where the memory passes the examination; always, the result is of its kind, or a number that the call may give
  pub acted : {r : Result Answer Refusal} {ys : List ℕ} → wrong_size g (length xs) ≡ false → 0 ≡ refusal (observe (mem_of g xs)) c
      → (Consistent g (mem_of g xs) → (answer_of r ≡ (act g (mem_of g xs) c).0) × (mem_of g ys ≡ (act g (mem_of g xs) c).1)) → (refusal_of r ≡ none → ResultOf c (answer_of r))
      → ((n : ℕ) → refusal_of r ≡ some n → (among n (may_give c) ≡ true) × (2 ≤ n)) → Promise c g xs r ys
  acted {r} {ys} e z f k n = record {
    sizes = λ h. absurd (true≢false (sym h ∙ e));
    exact = λ _ x. let d = exec_by g (mem_of g xs) c z in ((f x).0 ∙ sym (ap (λ w. w.0) d), (f x).1 ∙ sym (ap (λ w. w.1) d));
    kind = k;
    allowed = λ i q. (n i q).0;
    only_size = λ q. absurd (let l = (n 1 q).1 in omega arith);
  }

  -- a result over memory of any content, or a number that what the call does gives: 10 or 11
  pub done : {r : Result Answer Refusal} {ys : List ℕ} → wrong_size g (length xs) ≡ false → 0 ≡ refusal (observe (mem_of g xs)) c → ResultOf c (answer_of r) → refusal_of r ≡ none
      → answer_of r ≡ (act g (mem_of g xs) c).0 → mem_of g ys ≡ (act g (mem_of g xs) c).1 → Promise c g xs r ys
  done e z k v a m = acted e z (λ _. (a, m)) (λ _. k) (λ n q. absurd (none-ne-some n (sym v ∙ q)))

  pub declined : (w : Refusal) {ys : List ℕ} → wrong_size g (length xs) ≡ false → 0 ≡ refusal (observe (mem_of g xs)) c → act g (mem_of g xs) c ≡ (a_no (number_of w), mem_of g xs)
      → mem_of g ys ≡ mem_of g xs → among (number_of w) (may_give c) ≡ true → 2 ≤ number_of w → Promise c g xs (Err w) ys
  declined w e z a m can big =
      acted e z (λ _. (sym (ap (λ w. w.0) a), m ∙ sym (ap (λ w. w.1) a))) (λ q. absurd (none-ne-some (number_of w) (sym q)))
      (λ i q. subst (λ v. (among v (may_give c) ≡ true) × (2 ≤ v)) (some-injective (number_of w) i q) (can, big))

  -- "13, torn": only where the memory fails the examination
  pub torn_13 : {ys : List ℕ} → wrong_size g (length xs) ≡ false → (Consistent g (mem_of g xs) → ⊥) → Promise c g xs (Err Torn) ys
  torn_13 e f = record {
    sizes = λ h. absurd (true≢false (sym h ∙ e));
    exact = λ _ k. absurd (f k);
    kind = λ q. absurd (none-ne-some 13 (sym q));
    allowed = λ n q. subst (λ k. among k (may_give c) ≡ true) (some-injective 13 n q) (gives_13 c);
    only_size = λ q. absurd (let z = some-injective 13 1 q in omega arith);
  }
