-- Words of fields cleared one by one are a run of zeros, and runs that meet are one.
use mathlib.Core.Path.{◌≡◌, refl, ◌∙◌}
use mathlib.Core.Bool.{Bool, true, false}
use Prim.Native.Nat.{ℕ, ◌+◌, ◌-◌, ◌≤◌, ◌<◌}
use native.Mathlib.Numerals.{add-one}
use native.Mathlib.Omega.{arith}
use lib.Dec.{eqb}
use lib.ListN.{replicate}
use borrow.Author.Tests.{eqb-true, eqb-false}
use Rattle.basics.specs.Pick.{pick}
use Rattle.layout.specs.Mem.{Mem, set_heap, set_run}
use Rattle.layout.proofs.Spliced.{run_sets, runs_meet}
use Rattle.layout.specs.Region as Region

-- ---- single words

module _ (m : Mem) (i : ℕ) where
  pub cleared_0 : (n : ℕ) → n ≡ 0 → m ≡ set_run m Region.heap i (replicate n 0)
  cleared_0 n e = rw (e, run_sets) refl

  module _ (m₁ : Mem) (e₁ : m₁ ≡ set_heap m i 0) where
    cleared_1 : m₁ ≡ set_run m Region.heap i (replicate 1 0)
    unfolding set_heap
    cleared_1 = e₁ ∙ rw run_sets refl

    module _ (m₂ : Mem) (e₂ : m₂ ≡ set_heap m₁ (i + 1) 0) where
      cleared_2 : m₂ ≡ set_run m Region.heap i (replicate 2 0)
      unfolding set_heap
      cleared_2 = e₂ ∙ rw (e₁, run_sets, add-one i) refl

      pub cleared_4 : (m₃ m₄ : Mem) → m₃ ≡ set_heap m₂ (i + 2) 0 → m₄ ≡ set_heap m₃ (i + 3) 0 → m₄ ≡ set_run m Region.heap i (replicate 4 0)
      unfolding set_heap
      cleared_4 m₃ m₄ e₃ e₄ =
          let f : i + 2 ≡ i + 1 + 1 = omega arith in
          let h : i + 3 ≡ i + 1 + 1 + 1 = omega arith in
          e₄ ∙ rw (e₃, e₂, e₁, run_sets, h, f, add-one (i + 1 + 1), add-one (i + 1), add-one i) refl

-- ---- the fields of the record at a word: n words after it

pub cleared_pair : (m : Mem) (at : ℕ) (m₁ m₂ : Mem) → m₁ ≡ set_heap m (at + 1) 0 → m₂ ≡ set_heap m₁ (at + 2) 0 → m₂ ≡ set_run m Region.heap (at + 1) (replicate 2 0)
cleared_pair m at m₁ m₂ e₁ e₂ = let f : at + 2 ≡ at + 1 + 1 = omega arith in cleared_2 m (at + 1) m₁ e₁ m₂ (e₂ ∙ rw f refl)

module _ (m : Mem) (at n : ℕ) where
  -- at most three: two, unless there is only one, and the last
  pub cleared_three : 1 ≤ n → n < 4 → (m₁ m₂ : Mem) → m₁ ≡ pick (eqb n 1) m (set_run m Region.heap (at + 1) (replicate 2 0)) → m₂ ≡ set_heap m₁ (at + n) 0
      → m₂ ≡ set_run m Region.heap (at + 1) (replicate n 0)
  cleared_three some few m₁ m₂ e₁ e₂ = go (eqb n 1) refl e₁
    where
      go : (t : Bool) → eqb n 1 ≡ t → m₁ ≡ pick t m (set_run m Region.heap (at + 1) (replicate 2 0)) → m₂ ≡ set_run m Region.heap (at + 1) (replicate n 0)
      go true q f = let e : n ≡ 1 = eqb-true n 1 q in cleared_1 m (at + 1) m₂ (e₂ ∙ rw (f, e) refl) ∙ rw e refl
      go false q f =
          let d = eqb-false n 1 q in
          let l : 2 ≤ n = omega arith in
          cleared_1 m₁ (at + n) m₂ e₂ ∙ rw f (runs_meet m (at + 1) (at + n) 2 1 n (omega arith) (omega arith) (omega arith) (omega arith))

  -- at most eight: four from either end
  pub cleared_eight : 4 ≤ n → n ≤ 8 → (m₁ m₂ : Mem) → m₁ ≡ set_run m Region.heap (at + 1) (replicate 4 0) → m₂ ≡ set_run m₁ Region.heap (at + n - 3) (replicate 4 0)
      → m₂ ≡ set_run m Region.heap (at + 1) (replicate n 0)
  cleared_eight l h m₁ m₂ e₁ e₂ = e₂ ∙ rw e₁ (runs_meet m (at + 1) (at + n - 3) 4 4 n (omega arith) (omega arith) (omega arith) (omega arith))

  -- at most sixteen: eight from either end
  module _ (l : 8 < n) (h : n ≤ 16) (m₁ m₂ m₃ m₄ : Mem) (e₁ : m₁ ≡ set_run m Region.heap (at + 1) (replicate 4 0)) (e₂ : m₂ ≡ set_run m₁ Region.heap (at + 5) (replicate 4 0)) where
    first_eight : m₂ ≡ set_run m Region.heap (at + 1) (replicate 8 0)
    first_eight = e₂ ∙ rw e₁ (runs_meet m (at + 1) (at + 5) 4 4 8 (omega arith) (omega arith) (omega arith) (omega arith))

    pub cleared_sixteen : m₃ ≡ set_run m₂ Region.heap (at + n - 7) (replicate 4 0) → m₄ ≡ set_run m₃ Region.heap (at + n - 3) (replicate 4 0) → m₄ ≡ set_run m Region.heap (at + 1) (replicate n 0)
    cleared_sixteen e₃ e₄ =
        let last : m₄ ≡ set_run m₂ Region.heap (at + n - 7) (replicate 8 0) = e₄ ∙ rw e₃ (runs_meet m₂ (at + n - 7) (at + n - 3) 4 4 8 (omega arith) (omega arith) (omega arith) (omega arith)) in
        last ∙ rw first_eight (runs_meet m (at + 1) (at + n - 7) 8 8 n (omega arith) (omega arith) (omega arith) (omega arith))
