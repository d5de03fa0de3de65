-- A swept segment gets its state and goes on its stack.
use mathlib.Core.Path.{◌≡◌, sym, ◌∙◌, ap, subst}
use mathlib.Core.Bool.{Bool, true, false, true≢false}
use mathlib.Core.List.{List}
use Prim.Native.Nat.{ℕ, ◌*◌, ◌+◌, ◌≤◌, ◌<◌}
use native.Mathlib.Omega.{arith}
use lib.Dec.{eqb}
use lib.ListN.{get_or}
use borrow.Author.Tests.{eq-eqb, ne_eqb}
use Rattle.basics.specs.Pick.{pick}
use Rattle.classes.specs.Class.{IsClass}
use Rattle.layout.specs.declared.Geometry.{Geometry}
use Rattle.layout.specs.Geometry.{blocks_in, stack_count}
use Rattle.layout.specs.Mem.{Mem}
use Rattle.model.specs.declared.SegmentState.{SegmentState}
use Rattle.model.specs.Segments.{set_segment_state, free_stack, part_stack, stacked}
use Rattle.model_laws.proofs.Words.{state_others}
use Rattle.model_laws.proofs.OtherStacks.{part_few}
use Rattle.stacks.specs.Stacking.{PushesSegment}
use Rattle.sweeping.specs.Sweeping.{state_after, stack_after, settled, Settles}

pub stack_few : (c n t : ℕ) → IsClass c → t ≡ stack_after c n → t < stack_count
unfolding stack_after
stack_few c n t k e = subst (λ z. z < stack_count) (sym e) (go (eqb n 0))
  where
    go : (b : Bool) → pick b free_stack (part_stack c) < stack_count
    go true = omega arith
    go false = part_few c k

module _ (g : Geometry) (m : Mem) (s c n : ℕ) (x : SegmentState) (ex : x ≡ state_after g c n) (m₁ : Mem) (e : m₁ ≡ set_segment_state g m s x) (d : ℕ) (z : d ≡ blocks_in g c) where
  state_is : m₁ ≡ set_segment_state g m s (state_after g c n)
  state_is = e ∙ ap (set_segment_state g m s) ex

  pub settled_full : n ≡ d → Settles g m s c n true m₁
  unfolding settled
  settled_full f = record { done = λ _. rw (eq-eqb n (blocks_in g c) (f ∙ z)) state_is; full = λ t. absurd (true≢false t) }

  pub settled_on : (n ≡ d → ⊥) → (t : ℕ) → t ≡ stack_after c n → (r : Bool) (m₂ : Mem) → PushesSegment g m₁ t s r m₂ → Settles g m s c n r m₂
  unfolding settled
  settled_on f t et r m₂ p = record {
    done = λ q. rw (ne_eqb n (blocks_in g c) (λ y. f (y ∙ sym z))) (p.done q ∙ ap (λ y. stacked g m₁ y s) et ∙ ap (λ y. stacked g y (stack_after c n) s) state_is);
    full = λ q.
        subst (λ (y : List ℕ). g.segments ≤ get_or y (stack_after c n * (1 + g.segments)) 0) (ap (λ y. y.stacks) e ∙ (state_others g m s x).stacks)
        (subst (λ y. g.segments ≤ get_or m₁.stacks (y * (1 + g.segments)) 0) et (p.full q));
  }
