-- `bitmap_write::gather` meets its contract: each arm's step is the one that was asked.
use mathlib.Core.Path.{◌≡◌, refl, sym, subst, ◌∙◌, ap}
use mathlib.Core.Logic.{inl, inr}
use mathlib.Core.List.{List}
use Prim.Native.Nat.{ℕ, ◌-◌, ◌*◌, ◌^◌, ◌%◌, ◌≤◌}
use lib.ListN.{drop}
use Rattle.words.specs.Levels.{words_for}
use Rattle.bitmap_write.specs.Completed.{Pressable, Ways, copied, gathered}
use Rattle.bitmap_write.proofs.gather.Goals as goal

-- what is asked of a call, and what is told of it, by the step
abbrev Asks : ℕ → ℕ → ℕ → ℕ → Type 0
Asks n from most step = (words_for n ≤ from) × (from ≤ most) × (n * step ≤ (most - from) * 32) × (n * step ≤ 2 ^ 20) × (1 ≤ step)

asked : (n from most step k count : ℕ) → step ≡ k → Asks n from most step → n % 32 ≡ 0 → Pressable k count
    → (words_for n ≤ from) × (from ≤ most) × (n * k ≤ (most - from) * 32) × (n * k ≤ 2 ^ 20) × (1 ≤ k) × Ways n k count
asked n from most step k count e p w q = let a = subst (Asks n from most) e p in (a.0, a.1, a.2, a.3, a.4, inr (w, q))

told : (s t : List ℕ) (from n step k : ℕ) → step ≡ k → t ≡ copied (words_for n) (gathered (drop from s) k n) s → t ≡ copied (words_for n) (gathered (drop from s) step n) s
told s t from n step k e q = q ∙ ap (λ (x : ℕ). copied (words_for n) (gathered (drop from s) x n) s) (sym e)

pub gather_by-requires : goal.gather_by-requires
gather_by-requires c = let p = c.requires in (p.0, p.1, p.2, p.3, p.4, inl refl)

pub gather_by-requires-in-1 : goal.gather_by-requires-in-1
gather_by-requires-in-1 c = asked _ _ _ _ 1 32 c.in-1.is c.requires c.if-n-ne0.false (inl (refl, refl))

pub gather_by-requires-in-2 : goal.gather_by-requires-in-2
gather_by-requires-in-2 c = asked _ _ _ _ 2 16 c.in-2.is c.requires c.if-n-ne0.false (inr (inl (refl, refl)))

pub gather_by-requires-in-4 : goal.gather_by-requires-in-4
gather_by-requires-in-4 c = asked _ _ _ _ 4 8 c.in-4.is c.requires c.if-n-ne0.false (inr (inr (inl (refl, refl))))

pub gather_by-requires-in-8 : goal.gather_by-requires-in-8
gather_by-requires-in-8 c = asked _ _ _ _ 8 4 c.in-8.is c.requires c.if-n-ne0.false (inr (inr (inr (refl, refl))))

pub gather_by-requires-in_default : goal.gather_by-requires-in_default
gather_by-requires-in_default c = let p = c.requires in (p.0, p.1, p.2, p.3, p.4, inl refl)

pub returns-in-1 : goal.returns-in-1
returns-in-1 c =
    let a = c.args in
    told a.s.now c.gather_by-in-1.new.s a.from a.n a.step 1 c.in-1.is c.gather_by-in-1.ensures

pub returns-in-2 : goal.returns-in-2
returns-in-2 c =
    let a = c.args in
    told a.s.now c.gather_by-in-2.new.s a.from a.n a.step 2 c.in-2.is c.gather_by-in-2.ensures

pub returns-in-4 : goal.returns-in-4
returns-in-4 c =
    let a = c.args in
    told a.s.now c.gather_by-in-4.new.s a.from a.n a.step 4 c.in-4.is c.gather_by-in-4.ensures

pub returns-in-8 : goal.returns-in-8
returns-in-8 c =
    let a = c.args in
    told a.s.now c.gather_by-in-8.new.s a.from a.n a.step 8 c.in-8.is c.gather_by-in-8.ensures
