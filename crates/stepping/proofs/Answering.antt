-- The acknowledgements of the mutators outside, one after the other: from one to the next, one that is hindered, and that none is in consistent
-- memory.
use mathlib.Core.Path.{◌≡◌, refl, sym, ◌∙◌, ap, subst}
use mathlib.Core.Bool.{Bool, true, false, true≢false}
use mathlib.Core.Logic.{◌⊎◌, inl, inr}
use Prim.Native.Nat.{ℕ, zero, suc, ◌+◌, ◌-◌, ◌≤◌, ◌<◌}
use native.Mathlib.Numerals.{add-one}
use native.Mathlib.Omega.{arith}
use lib.Dec.{eqb}
use borrow.Author.Tests.{eq-eqb, ne_eqb}
use Rattle.basics.specs.Pick.{pick}
use Rattle.basics.proofs.Order.{le_or_lt}
use Rattle.layout.specs.declared.Geometry.{Geometry}
use Rattle.layout.specs.Geometry.{mutator_count}
use Rattle.layout.specs.Mem.{Mem, Sizes}
use Rattle.model.specs.Fields.{outside, state_at, state}
use Rattle.model.specs.Mutators.{acknowledged}
use Rattle.model.specs.Collector.{outside_answered}
use Rattle.model.specs.Consistent.{Consistent}
use Rattle.model_laws.proofs.Operations.{sizes_acknowledged}
use Rattle.model_laws.proofs.Acknowledgements.{acknowledged_word, roots_ready, answers_keep}
use Rattle.tracing.specs.Roots.{RootFails}
use Rattle.tracing.proofs.Roots.{roots_succeed}
use Rattle.handshake_calls.specs.Acknowledging.{Acknowledges}
use Rattle.stepping.specs.Handshaking.{FirstOutside, NextOutside, AnswerFails, AnswersOutside}
use Rattle.std.specs.Prelude as rust

-- ---- the next mutator outside

-- no mutator is outside, from the number `from` up to j
pub record NoneOutside (m : Mem) (from j : ℕ) : Type 0 where
  pub after : from ≤ j
  pub none : (i : ℕ) → from ≤ i → i < j → state m i ≡ outside → ⊥

module _ (m : Mem) (from : ℕ) where
  pub none_yet : NoneOutside m from from
  none_yet = record { after = omega arith; none = λ i a b. absurd (omega arith) }

  module _ (j : ℕ) (n : NoneOutside m from j) where
    pub none_more : (v : ℕ) → v ≡ state m j → (v ≡ outside → ⊥) → NoneOutside m from (j + 1)
    none_more v e f = record { after = let a = n.after in omega arith; none = λ i a b. go i a (le_or_lt j i) b }
      where
        go : (i : ℕ) → from ≤ i → (j ≤ i) ⊎ (i < j) → i < j + 1 → state m i ≡ outside → ⊥
        go i a (inl h) b q = let z : j ≡ i = omega arith in f (e ∙ ap (state m) z ∙ q)
        go i a (inr h) b q = n.none i a h q

    pub next_found : j < mutator_count → (v : ℕ) → v ≡ state m j → v ≡ outside → NextOutside m from (rust.Some j)
    next_found l v e o = record { some = λ k q. subst (FirstOutside m from) (same k q) first; none = λ q. absurd (other q) }
      where
        same : (k : ℕ) → rust.Some j ≡ rust.Some k → j ≡ k
        same k q = cc

        other : rust.Some j ≡ rust.None → ⊥
        other q = cc

        first : FirstOutside m from j
        first = record { after = n.after; few = l; before = n.none; is = sym e ∙ o }

    pub next_none : mutator_count ≤ j → NextOutside m from rust.None
    next_none l = record { some = λ k q. absurd (other k q); none = λ _ i a b. n.none i a (omega arith) }
      where
        other : (k : ℕ) → rust.None ≡ rust.Some k → ⊥
        other k q = cc

is_none : (r : rust.Option ℕ) → ((k : ℕ) → r ≡ rust.Some k → ⊥) → r ≡ rust.None
is_none (rust.Some k) f = absurd (f k refl)
is_none rust.None f = refl

-- ---- all of them, over memory of any content

-- the lengths stay, and the state words
record Stays (g : Geometry) (m m' : Mem) : Type 0 where
  pub sizes : Sizes g m'
  pub states : (j : ℕ) → state m' j ≡ state m j

-- m' has the acknowledgements of those before the next one that is outside, or of all where there is none
pub record AnsweredTo (g : Geometry) (m : Mem) (r : rust.Option ℕ) (m' : Mem) : Type 0 where
  pub few : (k : ℕ) → r ≡ rust.Some k → k < mutator_count
  pub next : (k : ℕ) → r ≡ rust.Some k → state m' k ≡ outside
  pub is : (k : ℕ) → r ≡ rust.Some k → m' ≡ outside_answered g m k
  pub all : r ≡ rust.None → m' ≡ outside_answered g m mutator_count

-- how many mutators are from the next one on
abbrev pub still_to_answer : rust.Option ℕ → ℕ
still_to_answer (rust.Some k) = mutator_count - k
still_to_answer rust.None = 0

-- fewer from the one after it on
pub nearer : (m : Mem) (k : ℕ) → k < mutator_count → (r r' : rust.Option ℕ) → r ≡ rust.Some k → NextOutside m (k + 1) r' → still_to_answer r' < still_to_answer r
nearer m k l r (rust.Some j) e n = let f = n.some j refl in let a = f.after in let b = f.few in rw e (omega arith)
nearer m k l r rust.None e n = rw e (omega arith)

module _ (g : Geometry) (m : Mem) where
  module _ (s : Sizes g m) where
    stays : (n : ℕ) → n ≤ mutator_count → Stays g m (outside_answered g m n)
    unfolding outside_answered
    stays zero l = record { sizes = s; states = λ j. refl }
    stays (suc k) l = go (eqb (state m k) outside) (stays k (omega arith))
      where
        go : (b : Bool) → Stays g m (outside_answered g m k) → Stays g m (pick b (acknowledged g (outside_answered g m k) k) (outside_answered g m k))
        go true y = record {
          sizes = sizes_acknowledged g (outside_answered g m k) y.sizes k;
          states = λ j. acknowledged_word g (outside_answered g m k) y.sizes k l j state_at (omega arith) (λ _ q. omega arith) ∙ y.states j;
        }
        go false y = y

  pub answered_none : outside_answered g m 0 ≡ m
  unfolding outside_answered
  answered_none = refl

  -- mutators that are not outside give none
  skipped : (from n : ℕ) → from ≤ n → ((i : ℕ) → from ≤ i → i < n → state m i ≡ outside → ⊥) → outside_answered g m from ≡ outside_answered g m n
  unfolding outside_answered
  skipped from zero l f = let z : from ≡ 0 = omega arith in ap (outside_answered g m) z
  skipped from (suc n) l f = go (le_or_lt from n) (λ h. skipped from n h (λ i a b. f i a (omega arith)))
    where
      go : (from ≤ n) ⊎ (n < from) → (from ≤ n → outside_answered g m from ≡ outside_answered g m n) → outside_answered g m from ≡ outside_answered g m (suc n)
      go (inl h) ih =
          ih h
          ∙ ap (λ b. pick b (acknowledged g (outside_answered g m n) n) (outside_answered g m n)) (sym (ne_eqb _ _ (f n h (omega arith))))
      go (inr h) ih = let z : from ≡ suc n = omega arith in ap (outside_answered g m) z

  -- one mutator more: m' has the acknowledgements of those before k, and v is its state word
  module _ (s : Sizes g m) (k : ℕ) (l : k < mutator_count) (m' : Mem) (e : m' ≡ outside_answered g m k) (v : ℕ) (w : v ≡ state m' k) where
    same : v ≡ state m k
    same = w ∙ ap (λ z. state z k) e ∙ (stays s k (omega arith)).states k

    pub not_outside : (v ≡ outside → ⊥) → m' ≡ outside_answered g m (k + 1)
    unfolding outside_answered
    not_outside f =
        e ∙ ap (λ b. pick b (acknowledged g (outside_answered g m k) k) (outside_answered g m k)) (sym (ne_eqb _ _ (λ q. f (same ∙ q))))
        ∙ ap (outside_answered g m) (sym (add-one k))

    module _ (o : v ≡ outside) (r : Bool) (m'' : Mem) (a : Acknowledges g m' k r m'') where
      pub answered_more : r ≡ true → m'' ≡ outside_answered g m (k + 1)
      unfolding outside_answered
      answered_more q =
          a.done q ∙ ap (λ z. acknowledged g z k) e
          ∙ ap (λ b. pick b (acknowledged g (outside_answered g m k) k) (outside_answered g m k)) (sym (eq-eqb _ _ (sym same ∙ o)))
          ∙ ap (outside_answered g m) (sym (add-one k))

      pub answer_hindered : r ≡ false → AnswersOutside g m false m''
      answer_hindered f = record {
        done = λ q. absurd (true≢false (sym q));
        fails = λ _. record { mutator = k; few = l; is = sym same ∙ o; why = subst (λ z. RootFails g z k) e (a.fails f) };
      }

  -- on to the next one outside: m' has the acknowledgements of those before `from`, and r is what the scan from there answers
  module _ (s : Sizes g m) (from : ℕ) (l : from ≤ mutator_count) (m' : Mem) (e : m' ≡ outside_answered g m from) (r : rust.Option ℕ)
      (n : NextOutside m' from r) where
    states : (j : ℕ) → state m' j ≡ state m j
    states j = ap (λ z. state z j) e ∙ (stays s from l).states j

    pub go_on : AnsweredTo g m r m'
    go_on = record {
      few = λ k q. (n.some k q).few;
      next = λ k q. (n.some k q).is;
      is = λ k q. (let f = n.some k q in e ∙ skipped from k f.after (λ i a b h. f.before i a b (states i ∙ h)));
      all = λ q. e ∙ skipped from mutator_count l (λ i a b h. n.none q i a b (states i ∙ h));
    }

  pub answered_first : Sizes g m → (r : rust.Option ℕ) → NextOutside m 0 r → AnsweredTo g m r m
  answered_first s r n = go_on s 0 (omega arith) m (sym answered_none) r n

  pub all_answered : (r : rust.Option ℕ) (m' : Mem) → AnsweredTo g m r m' → ((k : ℕ) → r ≡ rust.Some k → ⊥) → AnswersOutside g m true m'
  all_answered r m' t f = record { done = λ _. t.all (is_none r f); fails = λ q. absurd (true≢false q) }

  -- ---- nothing hinders them in consistent memory

  pub answers_succeed : Sizes g m → Consistent g m → AnswerFails g m → ⊥
  answers_succeed s c f =
      let k = f.mutator in
      let l = f.few in
      let y = answers_keep g m (roots_ready g m s c) k (omega arith) in
      roots_succeed g (outside_answered g m k) y.ready k l (λ z. let w = sym z ∙ (stays s k (omega arith)).states k ∙ f.is in omega arith) f.why
