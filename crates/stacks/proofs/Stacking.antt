-- What the words of a stack say of its top, and what becomes of them where a segment is put on or taken off, or every segment: at is where stack t
-- begins, n the word there.
use mathlib.Core.Path.{◌≡◌, refl, sym, ◌∙◌, ap, subst}
use mathlib.Core.Bool.{true, false, true≢false}
use mathlib.Core.Logic.{◌⊎◌, inl, inr}
use Prim.Native.Nat.{ℕ, ◌+◌, ◌-◌, ◌*◌, ◌≤◌, ◌<◌}
use native.Mathlib.Nat.{pos_of_ne-zero}
use native.Mathlib.Omega.{arith}
use lib.ListN.{set}
use lib.Seq.{set-get_or}
use Rattle.layout.specs.declared.Geometry.{Geometry}
use Rattle.layout.specs.Geometry.{stack_count, len}
use Rattle.layout.specs.Mem.{Mem, stack_word, set_stack, with_region}
use Rattle.layout.proofs.Sizes.{within}
use Rattle.model.specs.Segments.{count, top, pop, emptied}
use Rattle.std.specs.Prelude.{Some, None, Ok, Err}
use Rattle.model.specs.declared.Refusal.TheVariants.{Torn}
use Rattle.stacks.specs.Stacking.{StackAt, Tops, PushesSegment}
use Rattle.layout.specs.Region as Region

pub stack_inside : (g : Geometry) (t : ℕ) → t < stack_count → t * (1 + g.segments) + g.segments < len g Region.stacks
stack_inside g t l = let q = within (1 + g.segments) t stack_count g.segments l (omega arith) in omega arith

-- ---- by the words

module _ (g : Geometry) (m : Mem) (t at n : ℕ) (a : StackAt g t at) (e : n ≡ stack_word m at) where
  is_count : n ≡ count g m t
  is_count = e ∙ ap (stack_word m) a.is

  pub top_none : n ≡ 0 → Tops g m t (Ok None)
  top_none z = sym is_count ∙ z

  module _ (some : n ≡ 0 → ⊥) where
    positive : 1 ≤ count g m t
    positive = subst (λ z. 1 ≤ z) is_count (pos_of_ne-zero some)

    pub top_over : g.segments < n → Tops g m t (Err Torn)
    top_over l = (refl, positive, inl (subst (λ z. g.segments < z) is_count l))

    module _ (l : n ≤ g.segments) (r : ℕ) (h : r ≡ stack_word m (at + n)) where
      is_top : r ≡ top g m t
      is_top =
          let p = pos_of_ne-zero some in
          let b = a.is in
          let q : at + n ≡ t * (1 + g.segments) + 1 + (n - 1) = omega arith in
          h ∙ ap (stack_word m) q ∙ ap (λ z. stack_word m (t * (1 + g.segments) + 1 + (z - 1))) is_count

      pub top_there : r < g.segments → Tops g m t (Ok (Some r))
      top_there u = (is_top, u, positive, subst (λ z. z ≤ g.segments) is_count l)

      pub top_off : g.segments ≤ r → Tops g m t (Err Torn)
      top_off u = (refl, positive, inr (subst (λ z. g.segments ≤ z) is_top u))

  -- ---- taken off

  pub pop_none : n ≡ 0 → m ≡ pop g m t
  unfolding set_stack
  pop_none z =
      let k : count g m t - 1 ≡ count g m t = rw (← is_count, z) refl in
      sym (ap (λ v. with_region m Region.stacks (set m.stacks (t * (1 + g.segments)) v)) k ∙ ap (with_region m Region.stacks) (set-get_or m.stacks (t * (1 + g.segments)) 0))

  pub pop_some : (after : Mem) → after ≡ set_stack m at (n - 1) → after ≡ pop g m t
  pop_some after f = f ∙ rw (is_count, a.is) refl

  -- ---- put on

  pub push_full : (s : ℕ) → g.segments ≤ n → PushesSegment g m t s false m
  push_full s h = record { done = λ x. absurd (true≢false (sym x)); full = λ _. subst (λ z. g.segments ≤ z) is_count h }

  pub push_done : (s : ℕ) (m₁ after : Mem) → m₁ ≡ set_stack m (at + 1 + n) s → after ≡ set_stack m₁ at (n + 1) → PushesSegment g m t s true after
  push_done s m₁ after f h = record { done = λ _. h ∙ rw (f, is_count, a.is) refl; full = λ x. absurd (true≢false x) }

-- ---- every segment taken off

pub emptied_at : (g : Geometry) (m : Mem) (t at : ℕ) → StackAt g t at → (after : Mem) → after ≡ set_stack m at 0 → after ≡ emptied g m t
emptied_at g m t at a after f = f ∙ ap (λ i. set_stack m i 0) a.is
