-- A list with other elements from a place on, as one splice and as a run of stores.
use mathlib.Core.Path.{◌≡◌, refl, sym, ◌∙◌, ap}
use mathlib.Core.List.{List, [], ◌∷◌}
use Prim.Native.Nat.{ℕ, zero, suc, ◌+◌, ◌-◌, ◌≤◌}
use native.Mathlib.Omega.{arith}
use lib.ListN.{length, replicate}
use lib.Seq.{sets, take-nil, drop-nil}
use Rattle.layout.specs.Mem.{Mem, region, with_region, spliced, set_run}
use Rattle.layout.specs.Region as Region

sets_nil : (i : ℕ) (vs : List ℕ) → sets [] i vs ≡ []
sets_nil i [] = refl
sets_nil i (v ∷ vs) = sets_nil (suc i) vs

sets_cons : (x : ℕ) (l : List ℕ) (i : ℕ) (vs : List ℕ) → sets (x ∷ l) (suc i) vs ≡ x ∷ sets l i vs
sets_cons x l i [] = refl
sets_cons x l i (v ∷ vs) = sets_cons x _ (suc i) vs

pub spliced_sets : (l : List ℕ) (i : ℕ) (vs : List ℕ) → spliced l i vs ≡ sets l i vs
unfolding spliced
spliced_sets [] zero vs = rw (drop-nil (0 + length vs), sets_nil 0 vs) refl
spliced_sets [] (suc i) vs = let e : 0 - suc i ≡ 0 = omega arith in rw (drop-nil (suc i + length vs), sets_nil (suc i) vs, e) refl
spliced_sets (x ∷ l) zero [] = rw (take-nil (length (x ∷ l) - 0)) refl
spliced_sets (x ∷ l) zero (v ∷ vs) =
    let e : suc (length l) - 0 ≡ suc (length l - 0) = omega arith in
    let f : 0 + suc (length vs) ≡ suc (0 + length vs) = omega arith in
    rw (e, f) (ap (λ z. v ∷ z) (spliced_sets l zero vs) ∙ sym (sets_cons v l zero vs))
spliced_sets (x ∷ l) (suc i) vs =
    let e : suc (length l) - suc i ≡ length l - i = omega arith in
    let f : suc i + length vs ≡ suc (i + length vs) = omega arith in
    rw (e, f) (ap (λ z. x ∷ z) (spliced_sets l i vs) ∙ sym (sets_cons x l i vs))

pub run_sets : (m : Mem) (k i : ℕ) (vs : List ℕ) → set_run m k i vs ≡ with_region m k (sets (region m k) i vs)
unfolding set_run
run_sets m k i vs = ap (with_region m k) (spliced_sets (region m k) i vs)

-- ---- two runs of zeros that meet are one

zeros_meet : (l : List ℕ) (i j a b n : ℕ) → i ≤ j → j ≤ i + a → i + a ≤ j + b → i + n ≡ j + b → sets (sets l i (replicate a 0)) j (replicate b 0) ≡ sets l i (replicate n 0)
zeros_meet [] i j a b n p q r e = rw (sets_nil i (replicate a 0), sets_nil j (replicate b 0), sets_nil i (replicate n 0)) refl
zeros_meet (x ∷ l) (suc i) zero a b n p q r e = absurd (omega arith)
zeros_meet (x ∷ l) (suc i) (suc j) a b n p q r e =
    rw (sets_cons x l i (replicate a 0), sets_cons x (sets l i (replicate a 0)) j (replicate b 0), sets_cons x l i (replicate n 0))
    (ap (λ z. x ∷ z) (zeros_meet l i j a b n (omega arith) (omega arith) (omega arith) (omega arith)))
zeros_meet (x ∷ l) zero zero zero b n p q r e = let f : n ≡ b = omega arith in rw f refl
zeros_meet (x ∷ l) zero zero (suc a) zero n p q r e = absurd (omega arith)
zeros_meet (x ∷ l) zero zero (suc a) (suc b) zero p q r e = absurd (omega arith)
zeros_meet (x ∷ l) zero zero (suc a) (suc b) (suc n) p q r e =
    rw (sets_cons 0 l zero (replicate a 0), sets_cons 0 (sets l zero (replicate a 0)) zero (replicate b 0), sets_cons 0 l zero (replicate n 0))
    (ap (λ z. 0 ∷ z) (zeros_meet l zero zero a b n (omega arith) (omega arith) (omega arith) (omega arith)))
zeros_meet (x ∷ l) zero (suc j) zero b n p q r e = absurd (omega arith)
zeros_meet (x ∷ l) zero (suc j) (suc a) b zero p q r e = absurd (omega arith)
zeros_meet (x ∷ l) zero (suc j) (suc a) b (suc n) p q r e =
    rw (sets_cons 0 l zero (replicate a 0), sets_cons 0 (sets l zero (replicate a 0)) j (replicate b 0), sets_cons 0 l zero (replicate n 0))
    (ap (λ z. 0 ∷ z) (zeros_meet l zero j a b n (omega arith) (omega arith) (omega arith) (omega arith)))

-- of words of the heap
pub runs_meet : (m : Mem) (i j a b n : ℕ) → i ≤ j → j ≤ i + a → i + a ≤ j + b → i + n ≡ j + b
    → set_run (set_run m Region.heap i (replicate a 0)) Region.heap j (replicate b 0) ≡ set_run m Region.heap i (replicate n 0)
runs_meet m i j a b n p q r e = rw (run_sets m Region.heap i (replicate a 0), run_sets m Region.heap i (replicate n 0), run_sets)
    (ap (with_region m Region.heap) (zeros_meet m.heap i j a b n p q r e))
