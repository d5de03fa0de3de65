-- How many blocks are in use and not marked: no more where each of them was one before, one fewer at least where one of those is marked, and never more
-- than are in use.
use mathlib.Core.Path.{◌≡◌, refl, sym, ◌∙◌, ap, subst}
use mathlib.Core.Logic.{◌⊎◌, inl, inr, ⊎_elim}
use mathlib.Core.Bool.{Bool, true, false}
use Prim.Native.Nat.{ℕ, zero, suc, ◌+◌, ◌≤◌, ◌<◌}
use native.Mathlib.Omega.{arith}
use lib.Dec.{eqb}
use borrow.Author.Tests.{ne_eqb, eqb-false}
use Rattle.basics.specs.Pick.{pick}
use Rattle.basics.proofs.Order.{same_or_not}
use Rattle.words.specs.Bits.{ones_among}
use Rattle.words.proofs.Ones.{among_most}
use Rattle.words.proofs.Counts.{lt_of, one_there}
use Rattle.layout.specs.declared.Geometry.{Geometry}
use Rattle.layout.specs.Geometry.{blocks_in}
use Rattle.layout.specs.Mem.{Mem}
use Rattle.model.specs.Fields.{tag, class}
use Rattle.model.specs.Segments.{used_bit, in_use}
use Rattle.model.specs.Records.{header_of, marked}
use Rattle.model_laws.proofs.Segments.{used_small}
use Rattle.guarantee.specs.Totals.{sum_over, blocks_in_use}
use Rattle.guarantee.proofs.Totals.{sum_is}
use Rattle.cycle_bound.specs.StepsLeft.{unmarked_bit, unmarked_of, unmarked_in}
use Rattle.cycle_bound.proofs.Unmarked.{Unmarked, WasUnmarked}
use Rattle.model.specs.Tag as Tag

-- ---- sums

-- nowhere more, and fewer at one place
among_less : (f h : ℕ → ℕ) (n k : ℕ) → k < n → ((i : ℕ) → i < n → h i ≤ f i) → h k + 1 ≤ f k → ones_among h n + 1 ≤ ones_among f n
unfolding ones_among
among_less f h zero k l e d = absurd (omega arith)
among_less f h (suc n) k l e d = go (same_or_not k n) (λ q. among_less f h n k q (λ i x. e i (omega arith)) d)
  where
    go : (k ≡ n) ⊎ (k ≡ n → ⊥) → (k < n → ones_among h n + 1 ≤ ones_among f n) → ones_among h n + h n + 1 ≤ ones_among f n + f n
    go (inl q) ih =
        let z = among_most h f n (λ i x. e i (omega arith)) in
        let a : f k ≡ f n = ap f q in
        let b : h k ≡ h n = ap h q in
        omega arith
    go (inr q) ih = let z = ih (lt_of l q) in let y = e n (omega arith) in omega arith

sum-most : (f h : ℕ → ℕ) (n : ℕ) → ((i : ℕ) → i < n → h i ≤ f i) → sum_over h n ≤ sum_over f n
sum-most f h n e = let a = sum_is f n in let b = sum_is h n in let c = among_most h f n e in omega arith

sum_less : (f h : ℕ → ℕ) (n k : ℕ) → k < n → ((i : ℕ) → i < n → h i ≤ f i) → h k + 1 ≤ f k → sum_over h n + 1 ≤ sum_over f n
sum_less f h n k l e d = let a = sum_is f n in let b = sum_is h n in let c = among_less f h n k l e d in omega arith

-- ---- one block

module _ (g : Geometry) (m : Mem) (s b : ℕ) where
  unmarked_small : unmarked_bit g m s b < 2
  unmarked_small = let l = used_small g m s b in omega arith

  -- its bit says it
  unmarked_of_lem : (tag m s ≡ Tag.free → ⊥) → b < blocks_in g (class m s) → unmarked_bit g m s b ≡ 1 → Unmarked g m s b
  unmarked_of_lem f l e =
      let x = used_small g m s b in
      record { in_use = record { used = f; within = l; block = omega arith }; unmarked = omega arith }

  unmarked_bit_lem : Unmarked g m s b → unmarked_bit g m s b ≡ 1
  unmarked_bit_lem u = let x = u.in_use.block in let y = u.unmarked in omega arith

-- ---- one segment

module _ (g : Geometry) (m : Mem) (s : ℕ) where
  of_used : (tag m s ≡ Tag.free → ⊥) → unmarked_of g m s ≡ ones_among (unmarked_bit g m s) (blocks_in g (class m s))
  of_used f = ap (λ (t : Bool). pick t 0 (ones_among (unmarked_bit g m s) (blocks_in g (class m s)))) (ne_eqb (tag m s) Tag.free f)

  -- not more than are in use
  of_most : unmarked_of g m s ≤ in_use g m s
  of_most = go (eqb (tag m s) Tag.free)
    where
      go : (t : Bool) → pick t 0 (ones_among (unmarked_bit g m s) (blocks_in g (class m s))) ≤ pick t 0 (ones_among (used_bit g m s) (blocks_in g (class m s)))
      go true = omega arith
      go false = among_most (unmarked_bit g m s) (used_bit g m s) (blocks_in g (class m s)) (λ i l. omega arith)

module _ (g : Geometry) (m m' : Mem) (was : WasUnmarked g m m') (s : ℕ) where
  bit_most : (tag m' s ≡ Tag.free → ⊥) → (b : ℕ) → b < blocks_in g (class m' s) → unmarked_bit g m' s b ≤ unmarked_bit g m s b
  bit_most f b l = ⊎_elim (λ z. omega arith)
      (λ n. let x = unmarked_small g m' s b in let y = unmarked_bit_lem g m s b (was s b (unmarked_of_lem g m' s b f l (omega arith))).0 in omega arith)
      (same_or_not (unmarked_bit g m' s b) 0)

  of_was : unmarked_of g m' s ≤ unmarked_of g m s
  of_was = go (eqb (tag m' s) Tag.free) refl
    where
      n : ℕ
      n = blocks_in g (class m' s)

      some_there : (tag m' s ≡ Tag.free → ⊥) → (b : ℕ) × (b < n) × (unmarked_bit g m' s b ≡ 1) → ones_among (unmarked_bit g m' s) n ≤ unmarked_of g m s
      some_there f x =
          let y = was s x.0 (unmarked_of_lem g m' s x.0 f x.1 x.2) in
          let z = of_used g m s y.0.in_use.used in
          let w : ones_among (unmarked_bit g m s) (blocks_in g (class m s)) ≡ ones_among (unmarked_bit g m s) n = ap (λ c. ones_among (unmarked_bit g m s) (blocks_in g c)) (sym y.1) in
          let v = among_most (unmarked_bit g m' s) (unmarked_bit g m s) n (bit_most f) in
          omega arith

      go : (t : Bool) → eqb (tag m' s) Tag.free ≡ t → pick t 0 (ones_among (unmarked_bit g m' s) n) ≤ unmarked_of g m s
      go true e = omega arith
      go false e = ⊎_elim (λ z. omega arith) (λ f. some_there (eqb-false _ _ e) (one_there (unmarked_bit g m' s) (unmarked_small g m' s) n f)) (same_or_not (ones_among (unmarked_bit g m' s) n) 0)

-- ---- the whole memory

pub unmarked_used : (g : Geometry) (m : Mem) → unmarked_in g m ≤ blocks_in_use g m
unmarked_used g m = sum-most (in_use g m) (unmarked_of g m) g.segments (λ s l. of_most g m s)

pub unmarked_most : (g : Geometry) (m m' : Mem) → WasUnmarked g m m' → unmarked_in g m' ≤ unmarked_in g m
unmarked_most g m m' was = sum-most (unmarked_of g m) (unmarked_of g m') g.segments (λ s l. of_was g m m' was s)

-- and one of them is marked now, in a segment with its tag and class
module _ (g : Geometry) (m m' : Mem) (was : WasUnmarked g m m') (s b : ℕ) (l : s < g.segments) (u : Unmarked g m s b) (t : tag m' s ≡ tag m s) (c : class m' s ≡ class m s)
    (e : marked g m' (header_of g s (class m s) b) ≡ 1) where
  used_now : tag m' s ≡ Tag.free → ⊥
  used_now z = u.in_use.used (sym t ∙ z)

  marked_now : unmarked_bit g m' s b ≡ 0
  marked_now =
      let x : marked g m' (header_of g s (class m' s) b) ≡ 1 = ap (λ z. marked g m' (header_of g s z b)) c ∙ e in
      let y = used_small g m' s b in
      omega arith

  of_less : unmarked_of g m' s + 1 ≤ unmarked_of g m s
  of_less =
      let n = blocks_in g (class m s) in
      let a = of_used g m s u.in_use.used in
      let d = of_used g m' s used_now in
      let w : ones_among (unmarked_bit g m' s) (blocks_in g (class m' s)) ≡ ones_among (unmarked_bit g m' s) n = ap (λ c. ones_among (unmarked_bit g m' s) (blocks_in g c)) c in
      let v = among_less (unmarked_bit g m s) (unmarked_bit g m' s) n b u.in_use.within
      (λ i k. bit_most g m m' was s used_now i (subst (λ z. i < blocks_in g z) (sym c) k)) (let x = marked_now in let y = unmarked_bit_lem g m s b u in omega arith) in
      omega arith

  pub unmarked_less : unmarked_in g m' + 1 ≤ unmarked_in g m
  unmarked_less = sum_less (unmarked_of g m) (unmarked_of g m') g.segments s l (λ i k. of_was g m m' was i) of_less
