-- A segment that was on no stack becomes part and is put on its class's stack: the stacks of free and of part segments.
use mathlib.Core.Path.{◌≡◌, refl, sym, ◌∙◌, subst}
use mathlib.Core.Logic.{⊎_elim}
use mathlib.Core.Bool.{Bool}
use Prim.Native.Nat.{ℕ, ◌≤◌, ◌<◌}
use native.Mathlib.Omega.{arith}
use Rattle.basics.proofs.Order.{same_or_not}
use Rattle.layout.specs.declared.Geometry.{Geometry}
use Rattle.layout.specs.Mem.{Mem, Sizes}
use Rattle.model.specs.Fields.{tag, class}
use Rattle.model.specs.Segments.{free_stack, part_stack, stacked}
use Rattle.classes.specs.Class.{IsClass}
use Rattle.model.specs.Consistent.{StackOk, is_free, is_part}
use Rattle.model_laws.proofs.Words.{Untouched}
use Rattle.model_laws.proofs.Stacks.{push_ok}
use Rattle.model_laws.proofs.OtherStacks.{part_few, part_apart, stack_by, push_left}
use Rattle.model_laws.proofs.Segments.{is_part_lem, not_part, part_other, free_left, part_left}
use Rattle.model.specs.Tag as Tag

abbrev pub Stacks : Geometry → Mem → Type 0
Stacks g m = StackOk g m free_stack (is_free m) × ((d : ℕ) → IsClass d → StackOk g m (part_stack d) (is_part m d))

-- m before, m₁ with the segment's state set, m₂ with the segment on its stack
module _ (g : Geometry) (m m₁ : Mem) (s : Sizes g m₁) (same : m₁.stacks ≡ m.stacks) (d r : ℕ) (k : IsClass d) (l : r < g.segments) (busy : Tag.held ≤ tag m r)
    (other : (i : ℕ) → (i ≡ r → ⊥) → Untouched m (stacked g m₁ (part_stack d) r) i)
    (t : tag (stacked g m₁ (part_stack d) r) r ≡ Tag.part) (c : class (stacked g m₁ (part_stack d) r) r ≡ d) (o : Stacks g m) where
  abbrev m₂ : Mem
  m₂ = stacked g m₁ (part_stack d) r

  before : (u : ℕ) (p : ℕ → Bool) → StackOk g m u p → StackOk g m₁ u p
  before u p q = stack_by g m m₁ u p p same q (λ i h. refl)

  pushed : StackOk g m₂ (part_stack d) (is_part m₂ d)
  pushed =
      push_ok g m₁ s (part_stack d) (part_few d k) (is_part m d) (before _ _ (o.1 d k)) (is_part m₂ d) r l
      (not_part m d r (λ e f. omega arith)) (is_part_lem m₂ d r t c) (λ i h n. part_other m m₂ r other d i n)

  rest : (u : ℕ) → (u ≡ part_stack d → ⊥) → (p p' : ℕ → Bool) → StackOk g m u p → ((i : ℕ) → p' i ≡ p i) → StackOk g m₂ u p'
  rest u n p p' q e =
      push_left g m₁ s (part_stack d) (part_few d k) (is_part m d) (before _ _ (o.1 d k)) (is_part m₂ d) r l
      (not_part m d r (λ e f. omega arith)) (is_part_lem m₂ d r t c) (λ i h n. part_other m m₂ r other d i n) u n p p' (before u p q)
      (λ i h. e i)

  pub parted : Stacks g m₂
  parted = (
    rest free_stack (λ e. omega arith) (is_free m) (is_free m₂) o.0 (free_left m m₂ r other (λ e. omega arith) (λ e. omega arith)),
    λ x i. ⊎_elim (λ e. subst (λ z. StackOk g m₂ (part_stack z) (is_part m₂ z)) (sym e) pushed)
        (λ n. rest (part_stack x) (part_apart x d i k n) (is_part m x) (is_part m₂ x) (o.1 x i) (part_left m m₂ r other x (λ e f. omega arith) (λ e f. n (sym f ∙ c))))
        (same_or_not x d),
  )
