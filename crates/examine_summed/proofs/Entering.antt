-- How many segments belong on a stack, and its entries entered one after the other.
use mathlib.Core.Path.{◌≡◌, refl, sym, ◌∙◌, ap, subst}
use mathlib.Core.Bool.{Bool, true, false, true≢false}
use mathlib.Core.Logic.{◌⊎◌, inl, inr}
use mathlib.Core.List.{List}
use Prim.Native.Nat.{ℕ, suc, ◌+◌, ◌≤◌, ◌<◌}
use native.Mathlib.Nat.{add-zero}
use native.Mathlib.Numerals.{add-one}
use native.Mathlib.Omega.{arith}
use lib.ListN.{length, get_or, set, length-set}
use lib.Seq.{get_or-set_same, get_or-set_other}
use Rattle.basics.specs.Pick.{one_if}
use Rattle.basics.proofs.Order.{same_or_not}
use Rattle.words.specs.Bits.{ones_among}
use Rattle.words.proofs.Ones.{among_le}
use Rattle.layout.specs.declared.Geometry.{Geometry}
use Rattle.layout.specs.Geometry.{max_segments}
use Rattle.layout.specs.Mem.{Mem}
use Rattle.model.specs.Segments.{count, entry}
use Rattle.model_laws.proofs.Bools.{one_less}
use Rattle.examine_summed.specs.Stacked.{on_stack, OrderedStack, Enters, Seen, EntersAll}

-- ---- how many belong on a stack

pub ones_none : (f : ℕ → ℕ) → 0 ≡ ones_among f 0
unfolding ones_among
ones_none f = refl

pub ones_next : (f : ℕ → ℕ) (s k r : ℕ) → k ≡ ones_among f s → r ≡ f s → k + r ≡ ones_among f (suc s)
unfolding ones_among
ones_next f s k r e q = ap (λ z. z + r) e ∙ ap (λ z. ones_among f s + z) q

module _ (test : ℕ → Bool) where
  pub ones_one : (s k : ℕ) → k ≡ ones_among (λ i. one_if (test i)) s → test s ≡ true → k + 1 ≡ ones_among (λ i. one_if (test i)) (s + 1)
  unfolding ones_among
  ones_one s k e q = rw (add-one s, q, e) refl

  pub ones_same : (s k : ℕ) → k ≡ ones_among (λ i. one_if (test i)) s → test s ≡ false → k ≡ ones_among (λ i. one_if (test i)) (s + 1)
  unfolding ones_among
  ones_same s k e q = rw (add-one s, q) (e ∙ sym (add-zero _))

  pub ones_most : (s k : ℕ) → k ≡ ones_among (λ i. one_if (test i)) s → k ≤ s
  ones_most s k e = subst (λ z. z ≤ s) (sym e) (among_le (λ i. one_if (test i)) (λ i. one_less (test i)) s)

pub ones_few : (test : ℕ → Bool) (s k r : ℕ) → k ≡ ones_among (λ i. one_if (test i)) s → r ≡ one_if (test s) → (k ≤ s) × (r < 2)
ones_few test s k r e q = (ones_most test s k e, subst (λ z. z < 2) (sym q) (one_less (test s)))

-- ---- the entries so far

module _ (g : Geometry) (m : Mem) (t : ℕ) where
  pub seen_none : (seen : List ℕ) → length seen ≡ max_segments → ((s : ℕ) → get_or seen s 0 ≡ 0) → Seen g m t 0 seen
  seen_none seen l z = record {
    long = l;
    members = λ k h. absurd (omega arith);
    once = λ j k x h. absurd (omega arith);
    there = λ k h. absurd (omega arith);
    only = λ s f. absurd (f (z s));
  }

  module _ (i : ℕ) (seen : List ℕ) (p : Seen g m t i seen) (r : Bool) (after : List ℕ) (q : Enters g m t i seen r after) where
    pub seen_more : g.segments ≤ max_segments → r ≡ true → Seen g m t (i + 1) after
    seen_more few e = subst (Seen g m t (i + 1)) (sym (q.new e).3) (record {
      long = length-set seen at 1 ∙ p.long;
      members = λ k h. member k h (same_or_not k i);
      once = λ j k x h. twice j k x h (same_or_not k i);
      there = λ k h. marked k h (same_or_not (entry g m t k) at);
      only = λ s f. found s f (same_or_not s at);
    })
      where
        at : ℕ
        at = entry g m t i

        inside : at < length seen
        inside = let a = (q.new e).0 in let b = p.long in omega arith

        member : (k : ℕ) → k < i + 1 → (k ≡ i) ⊎ (k ≡ i → ⊥) → (entry g m t k < g.segments) × (on_stack m t (entry g m t k) ≡ true)
        member k h (inl x) = subst (λ z. (entry g m t z < g.segments) × (on_stack m t (entry g m t z) ≡ true)) (sym x) ((q.new e).0, (q.new e).1)
        member k h (inr x) = p.members k (omega arith)

        twice : (j k : ℕ) → j < k → k < i + 1 → (k ≡ i) ⊎ (k ≡ i → ⊥) → entry g m t j ≡ entry g m t k → ⊥
        twice j k x h (inl y) w = p.there j (omega arith) (ap (λ z. get_or seen z 0) (w ∙ ap (entry g m t) y) ∙ (q.new e).2)
        twice j k x h (inr y) w = p.once j k x (omega arith) w

        marked : (k : ℕ) → k < i + 1 → (entry g m t k ≡ at) ⊎ (entry g m t k ≡ at → ⊥) → get_or (set seen at 1) (entry g m t k) 0 ≡ 0 → ⊥
        marked k h (inl y) w = let z : ◌≡◌ {A = ℕ} 1 0 = sym (get_or-set_same seen at 1 0 inside) ∙ ap (λ z. get_or (set seen at 1) z 0) (sym y) ∙ w in omega arith
        marked k h (inr y) w = p.there k (let x : k ≡ i → ⊥ = λ z. y (ap (entry g m t) z) in omega arith) (sym (get_or-set_other seen at (entry g m t k) 1 0 y) ∙ w)

        found : (s : ℕ) → (get_or (set seen at 1) s 0 ≡ 0 → ⊥) → (s ≡ at) ⊎ (s ≡ at → ⊥) → (k : ℕ) × (k < i + 1) × (entry g m t k ≡ s)
        found s f (inl y) = (i, omega arith, sym y)
        found s f (inr y) = let o = p.only s (λ z. f (get_or-set_other seen at s 1 0 y ∙ z)) in let l = o.1 in (o.0, omega arith, o.2)

    -- an entry that a stack in order has not
    pub seen_wrong : r ≡ false → i < count g m t → OrderedStack g m t → ⊥
    seen_wrong e l o = let a = o.members i l in q.wrong e a.0 a.1 (go (same_or_not (get_or seen (entry g m t i) 0) 0))
      where
        go : (get_or seen (entry g m t i) 0 ≡ 0) ⊎ (get_or seen (entry g m t i) 0 ≡ 0 → ⊥) → get_or seen (entry g m t i) 0 ≡ 0
        go (inl z) = z
        go (inr f) = let k = p.only (entry g m t i) f in absurd (o.once k.0 i k.1 l k.2)

  pub all_new : (n i : ℕ) (seen : List ℕ) → n ≡ count g m t → i ≤ n → n ≤ i → Seen g m t i seen → EntersAll g m t true seen
  all_new n i seen e a b p = record { new = λ _. subst (λ z. Seen g m t z seen) (let q : i ≡ n = omega arith in q ∙ e) p; wrong = λ f. absurd (true≢false f) }

  pub one_wrong : (n i : ℕ) (after seen : List ℕ) → n ≡ count g m t → i < n → Seen g m t i seen → (r : Bool) → Enters g m t i seen r after → r ≡ false → EntersAll g m t false after
  one_wrong n i after seen e l p r q f = record { new = λ x. absurd (true≢false (sym x)); wrong = λ _ o. seen_wrong i seen p r after q f (subst (λ z. i < z) e l) o }
