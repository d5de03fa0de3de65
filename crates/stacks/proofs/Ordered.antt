-- A stack that is in order has no torn top, and room for a segment that is not on it.
use mathlib.Core.Path.{◌≡◌, refl}
use mathlib.Core.Bool.{Bool, false}
use mathlib.Core.Logic.{◌⊎◌, inl, inr}
use Prim.Native.Nat.{ℕ, ◌-◌, ◌≤◌, ◌<◌}
use native.Mathlib.Omega.{arith}
use Rattle.layout.specs.declared.Geometry.{Geometry}
use Rattle.layout.specs.Mem.{Mem}
use Rattle.model.specs.Segments.{count, top}
use Rattle.model.specs.Consistent.{StackOk}
use Rattle.model_laws.proofs.Stacks.{count_le, stack_room}
use Rattle.std.specs.Prelude.{Err}
use Rattle.model.specs.declared.Refusal.{Refusal}
use Rattle.stacks.specs.Stacking.{Tops, PushesSegment}

module _ (g : Geometry) (m : Mem) (t : ℕ) (test : ℕ → Bool) (o : StackOk g m t test) where
  pub top_ordered : (w : Refusal) → Tops g m t (Err w) → ⊥
  top_ordered w r = let a : 1 ≤ count g m t = r.1 in go a r.2
    where
      go : 1 ≤ count g m t → (g.segments < count g m t) ⊎ (g.segments ≤ top g m t) → ⊥
      go a (inl h) = let l = count_le g m t test o in omega arith
      go a (inr h) = let l = (o.members (count g m t - 1) (omega arith)).0 in omega arith

  pub push_ordered : (s : ℕ) → s < g.segments → test s ≡ false → (after : Mem) → PushesSegment g m t s false after → ⊥
  push_ordered s l e after r = let a = stack_room g m t test o s l e in let b = r.full refl in omega arith
