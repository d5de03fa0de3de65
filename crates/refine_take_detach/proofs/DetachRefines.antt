-- The call detach: refused in a handshake, else the mutator is detached.
use mathlib.Core.Path.{◌≡◌, refl}
use mathlib.Core.Bool.{Bool, true}
use Prim.Native.Nat.{ℕ}
use Rattle.layout.specs.declared.Geometry.{Geometry}
use Rattle.layout.specs.Mem.{Mem, Sizes}
use Rattle.theory.specs.Phases.{in_handshake}
use Rattle.theory.specs.Calls.{c_detach, refusal}
use Rattle.theory.proofs.Refusals.{by_ok}
use Rattle.model.specs.Fields.{phase}
use Rattle.model.specs.Mutators.{detached}
use Rattle.model.specs.Calls.{observe, act}
use Rattle.refine_view.specs.Refines.{Ordered, CallRefines}
use Rattle.refine_view.proofs.SelfSimulation.{matches_by, unless_refines}
use Rattle.refine_take_detach.proofs.Detached.{detached_moves}

module _ (out : ℕ → Bool) (late : out 11 ≡ true) (g : Geometry) (m : Mem) (s : Sizes g m) (c : Ordered g m) where
  pub detach_refines : (k : ℕ) → refusal (observe m) (c_detach k) ≡ 0 → CallRefines out g m (c_detach k)
  unfolding act
  detach_refines k e =
      unless_refines out g m (detached g m k) (c_detach k) 11 late (in_handshake (phase m))
      (λ x. matches_by g m (c_detach k) _ tt refl (detached_moves g m s c k (by_ok (observe m) k 0 e).0))
