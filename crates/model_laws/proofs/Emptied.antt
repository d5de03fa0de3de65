-- The part stacks emptied: their counts are 0, and no other word changes. Where no segment is part they were empty, and the memory is as it was.
use mathlib.Core.Path.{◌≡◌, refl, sym, ◌∙◌, ap, subst}
use mathlib.Core.Logic.{◌⊎◌, inl, inr}
use Prim.Native.Nat.{ℕ, zero, suc, ◌+◌, ◌-◌, ◌*◌, ◌≤◌, ◌<◌}
use native.Mathlib.Omega.{arith}
use lib.ListN.{set}
use lib.Seq.{set-get_or}
use Rattle.basics.proofs.Order.{same_or_not}
use Rattle.classes.specs.Class.{IsClass, first_class, class_count}
use Rattle.layout.specs.declared.Geometry.{Geometry}
use Rattle.layout.specs.Geometry.{stack_count}
use Rattle.layout.specs.Mem.{Mem, stack_word, set_stack, with_region, Sizes}
use Rattle.model.specs.Segments.{part_stack, count, emptied}
use Rattle.model.specs.Collector.{parts_emptied}
use Rattle.model_laws.proofs.Words.{stack_there, stack_other}
use Rattle.model_laws.proofs.Operations.{sizes_emptied}
use Rattle.words.proofs.Counts.{lt_of}
use Rattle.layout.specs.Region as Region

-- ---- the other regions

pub record BesideStacks (m m' : Mem) : Type 0 where
  pub control : m'.control ≡ m.control
  pub mutators : m'.mutators ≡ m.mutators
  pub segments : m'.segments ≡ m.segments
  pub bitmaps : m'.bitmaps ≡ m.bitmaps
  pub marks : m'.marks ≡ m.marks
  pub trace : m'.trace ≡ m.trace
  pub heap : m'.heap ≡ m.heap

pub beside_emptied : (g : Geometry) (m : Mem) (n : ℕ) → BesideStacks m (parts_emptied g m n)
unfolding parts_emptied set_stack
beside_emptied g m zero = record { control = refl; mutators = refl; segments = refl; bitmaps = refl; marks = refl; trace = refl; heap = refl }
beside_emptied g m (suc n) =
    let b = beside_emptied g m n in
    record { control = b.control; mutators = b.mutators; segments = b.segments; bitmaps = b.bitmaps; marks = b.marks; trace = b.trace; heap = b.heap }

-- ---- the stacks' words

-- where stack t begins
no_add : (g : Geometry) (t : ℕ) → t * (1 + g.segments) + 0 ≡ t * (1 + g.segments)
no_add g t = omega arith

module _ (g : Geometry) (m : Mem) (z : Sizes g m) where
  one_there : (t : ℕ) → t < stack_count → count g (emptied g m t) t ≡ 0
  one_there t l = subst (λ i. stack_word (set_stack m i 0) i ≡ 0) (no_add g t) (stack_there g m z t 0 0 l (omega arith))

  one_other : (t : ℕ) → t < stack_count → (t' j : ℕ) → j < 1 + g.segments → (t' ≡ t → j ≡ 0 → ⊥)
      → stack_word (emptied g m t) (t' * (1 + g.segments) + j) ≡ stack_word m (t' * (1 + g.segments) + j)
  one_other t l t' j h f =
      subst (λ i. stack_word (set_stack m i 0) (t' * (1 + g.segments) + j) ≡ stack_word m (t' * (1 + g.segments) + j)) (no_add g t)
      (stack_other g m z t 0 0 l (omega arith) t' j h f)

module _ (g : Geometry) (m : Mem) (z : Sizes g m) where
  -- the stack of the n-th class
  few : (n : ℕ) → n < class_count → part_stack (first_class + n) < stack_count
  few n l = omega arith

  words_kept : (n : ℕ) → n ≤ class_count → (t j : ℕ) → j < 1 + g.segments → (1 ≤ t → j ≡ 0 → ⊥)
      → stack_word (parts_emptied g m n) (t * (1 + g.segments) + j) ≡ stack_word m (t * (1 + g.segments) + j)
  unfolding parts_emptied
  words_kept zero h t j l f = refl
  words_kept (suc n) h t j l f =
      one_other g (parts_emptied g m n) (sizes_emptied g m z n) (part_stack (first_class + n)) (few n (omega arith)) t j l (λ e. f (omega arith))
      ∙ words_kept n (omega arith) t j l f

  counts_below : (n : ℕ) → n ≤ class_count → (i : ℕ) → i < n → count g (parts_emptied g m n) (part_stack (first_class + i)) ≡ 0
  unfolding parts_emptied
  counts_below zero h i l = absurd (omega arith)
  counts_below (suc n) h i l = go (same_or_not i n) (λ q. counts_below n (omega arith) i q)
    where
      m₁ : Mem
      m₁ = parts_emptied g m n

      y : Sizes g m₁
      y = sizes_emptied g m z n

      t : ℕ
      t = part_stack (first_class + n)

      go : (i ≡ n) ⊎ (i ≡ n → ⊥) → (i < n → count g m₁ (part_stack (first_class + i)) ≡ 0) → count g (emptied g m₁ t) (part_stack (first_class + i)) ≡ 0
      go (inl e) ih = ap (λ x. count g (emptied g m₁ t) (part_stack (first_class + x))) e ∙ one_there g m₁ y t (few n (omega arith))
      go (inr f) ih =
          subst (λ a. stack_word (emptied g m₁ t) a ≡ stack_word m₁ a) (no_add g (part_stack (first_class + i)))
          (one_other g m₁ y t (few n (omega arith)) (part_stack (first_class + i)) 0 (omega arith) (λ e _. f (omega arith)))
          ∙ ih (lt_of l f)

  -- the free stack's words stay
  pub free_kept : (j : ℕ) → j < 1 + g.segments → stack_word (parts_emptied g m class_count) (0 * (1 + g.segments) + j) ≡ stack_word m (0 * (1 + g.segments) + j)
  free_kept j l = words_kept class_count (omega arith) 0 j l (λ a. absurd (omega arith))

  -- and every part stack is empty
  pub part_emptied : (c : ℕ) → IsClass c → count g (parts_emptied g m class_count) (part_stack c) ≡ 0
  part_emptied c k =
      let l = k.0 in
      let h = k.1 in
      let e : first_class + (c - first_class) ≡ c = omega arith in
      subst (λ x. count g (parts_emptied g m class_count) (part_stack x) ≡ 0) e (counts_below class_count (omega arith) (c - first_class) (omega arith))

-- ---- emptied though empty

pub emptied_same : (g : Geometry) (m : Mem) → ((c : ℕ) → IsClass c → count g m (part_stack c) ≡ 0) → (n : ℕ) → n ≤ class_count → parts_emptied g m n ≡ m
unfolding parts_emptied set_stack
emptied_same g m e zero l = refl
emptied_same g m e (suc n) l =
    ap (λ x. emptied g x (part_stack (first_class + n))) (emptied_same g m e n (omega arith))
    ∙ ap (λ v. with_region m Region.stacks (set m.stacks (part_stack (first_class + n) * (1 + g.segments)) v)) (sym (e (first_class + n) (omega arith, omega arith)))
    ∙ ap (with_region m Region.stacks) (set-get_or m.stacks (part_stack (first_class + n) * (1 + g.segments)) 0)
