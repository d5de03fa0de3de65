-- The free stack as the opening fills it, one entry at a time, and what the whole comes to.
use mathlib.Core.Path.{◌≡◌, refl, sym, ◌∙◌, ap}
use mathlib.Core.Bool.{true, false, true≢false}
use mathlib.Core.List.{List, ◌∷◌, ◌++◌}
use Prim.Native.Nat.{ℕ, zero, suc, ◌+◌, ◌-◌, ◌≤◌, ◌<◌}
use native.Mathlib.Omega.{arith}
use lib.ListN.{length, drop, set, replicate, length-replicate}
use lib.Seq.{sets, sets-eq}
use Rattle.layout.specs.declared.Geometry.{Geometry}
use Rattle.layout.specs.Geometry.{len, wrong_size}
use Rattle.layout.specs.Mem.{Mem, mem_of, with_region, clear_region, set_stack}
use Rattle.std.specs.Prelude.{Ok, Err}
use Rattle.model.specs.declared.Answer.TheVariants.{Done}
use Rattle.model.specs.declared.Refusal.TheVariants.{Size}
use Rattle.model.specs.Opening.{down_to0, opened}
use Rattle.model.specs.Promise.{OpenPromise}
use Rattle.opening.specs.Stacking.{stacked_down}
use Rattle.layout.specs.Region as Region

-- ---- entry by entry: with i of n entries written, what is left to do comes to the whole

pub left_all : (m : Mem) (at n : ℕ) → stacked_down m (at + 0) (n - 0) ≡ stacked_down m at n
left_all m at n = let p : at + 0 ≡ at = omega arith in let q : n - 0 ≡ n = omega arith in rw (p, q)

first_down : (m : Mem) (at k n : ℕ) → k ≡ suc n → stacked_down m at k ≡ stacked_down (set_stack m at n) (at + 1) n
unfolding stacked_down down_to0 set_stack
first_down m at k n e = let q : at + 1 ≡ suc at = omega arith in rw (e, q) refl

pub left_next : (m : Mem) (at n i : ℕ) → i < n → stacked_down (set_stack m (at + i) (n - 1 - i)) (at + (i + 1)) (n - (i + 1)) ≡ stacked_down m (at + i) (n - i)
left_next m at n i l =
    let p : n - i ≡ suc (n - 1 - i) = omega arith in
    let q : at + (i + 1) ≡ at + i + 1 = omega arith in
    let r : n - (i + 1) ≡ n - 1 - i = omega arith in
    rw (q, r) (sym (first_down m (at + i) (n - i) (n - 1 - i) p))

pub left_none : (m : Mem) (at n i : ℕ) → n ≤ i → stacked_down m (at + i) (n - i) ≡ m
unfolding stacked_down down_to0
left_none m at n i l = let z : n - i ≡ 0 = omega arith in rw z refl

-- ---- what the whole comes to

length-down : (n : ℕ) → length (down_to0 n) ≡ n
unfolding down_to0
length-down zero = refl
length-down (suc n) = ap suc (length-down n)

drop-zeros : (n k : ℕ) → drop {A = ℕ} n (replicate k 0) ≡ replicate (k - n) 0
drop-zeros zero k = let e : k ≡ k - 0 = omega arith in ap (λ j. replicate j 0) e
drop-zeros (suc n) zero = let e : 0 ≡ 0 - suc n = omega arith in ap (λ j. replicate j 0) e
drop-zeros (suc n) (suc k) = let e : k - n ≡ suc k - suc n = omega arith in drop-zeros n k ∙ ap (λ j. replicate j 0) e

filled : (k n : ℕ) → 1 + n ≤ k → sets (set (replicate k 0) 0 n) 1 (down_to0 n) ≡ n ∷ down_to0 n ++ replicate (k - (1 + n)) 0
filled zero n h = absurd (omega arith)
filled (suc k) n h =
    let e = length-down n in
    let r : length (n ∷ replicate k 0) ≡ suc k = ap suc (length-replicate k 0) in
    let p : 1 + length (down_to0 n) ≡ suc n = omega arith in
    let q : k - n ≡ suc k - (1 + n) = omega arith in
    sets-eq (down_to0 n) (n ∷ replicate k 0) 1 (omega arith)
    ∙ ap (λ j. n ∷ down_to0 n ++ drop j (n ∷ replicate k 0)) p
    ∙ ap (λ l. n ∷ down_to0 n ++ l) (drop-zeros n k ∙ ap (λ j. replicate j 0) q)

-- the memory with four regions cleared
abbrev cleared : Geometry → Mem → Mem
cleared g m = record {
  control = replicate (len g Region.control) 0;
  mutators = replicate (len g Region.mutators) 0;
  segments = replicate (len g Region.segments) 0;
  stacks = replicate (len g Region.stacks) 0;
  bitmaps = m.bitmaps;
  marks = m.marks;
  trace = m.trace;
  heap = m.heap;
}

-- the memory after each write of the opening
module _ (g : Geometry) (m : Mem) {m₀ m₁ m₂ m₃ m₅ m₆ : Mem} where
  pub opened_by : m₀ ≡ clear_region g m Region.control → m₁ ≡ clear_region g m₀ Region.mutators → m₂ ≡ clear_region g m₁ Region.segments → m₃ ≡ clear_region g m₂ Region.stacks
      → m₅ ≡ set_stack m₃ 0 g.segments → m₆ ≡ stacked_down m₅ 1 g.segments → m₆ ≡ opened g m
  unfolding clear_region set_stack stacked_down opened
  opened_by e₀ e₁ e₂ e₃ e₅ e₆ =
      e₆ ∙ rw (e₅, e₃, e₂, e₁, e₀) (ap (with_region (cleared g m) Region.stacks) (filled (len g Region.stacks) g.segments (omega arith)))

-- ---- the promise of the opening

module _ (g : Geometry) (xs : List ℕ) where
  pub open_1 : wrong_size g (length xs) ≡ true → OpenPromise g xs (Err Size) xs
  open_1 e = record { sizes = λ _. (refl, refl); exact = λ f. absurd (true≢false (sym e ∙ f)) }

  pub open_ok : {ys : List ℕ} → wrong_size g (length xs) ≡ false → mem_of g ys ≡ opened g (mem_of g xs) → OpenPromise g xs (Ok Done) ys
  open_ok e h = record { sizes = λ f. absurd (true≢false (sym f ∙ e)); exact = λ _. (refl, h) }
