-- What a memory with a segment taken is to the memory before: in order, and to the machine the same.
use mathlib.Core.Path.{◌≡◌}
use mathlib.Core.Bool.{true}
use Prim.Native.Nat.{ℕ, suc, ◌<◌}
use Rattle.layout.specs.Geometry.{segment_of}
use Rattle.layout.specs.declared.Geometry.{Geometry}
use Rattle.layout.specs.Mem.{Mem, Sizes}
use Rattle.theory.proofs.Agree.{Agree}
use Rattle.model.specs.Fields.{holding}
use Rattle.model.specs.Calls.{is_attached}
use Rattle.model.specs.Consistent.{Occupied, Behind}
use Rattle.model_laws.proofs.Words.{CountsStay}
use Rattle.refine_view.specs.View.{view}
use Rattle.refine_view.specs.Refines.{EachOccupied, Structure, Steady}
use Rattle.theory.specs.MachineCalls as machine

-- mutator k holds segment r of class cl
pub record SegmentTaken (g : Geometry) (m m₁ : Mem) (k cl r : ℕ) : Type 0 where
  pub sizes : Sizes g m₁
  pub structure : Structure g m₁
  -- the other segments have a block in use as before; this one gets it with what is handed out
  pub occupied : EachOccupied g m → (q : ℕ) → q < g.segments → (q ≡ r → ⊥) → Occupied g m₁ q
  pub behind : Behind g m → Behind g m₁
  pub prepared : Agree (segment_of g) (view g m) (view g m₁)
  pub shows : machine.observe (view g m₁) ≡ machine.observe (view g m)
  pub steady : Steady g m m₁
  pub counts : (q : ℕ) → CountsStay m m₁ q
  pub holds : holding m₁ k cl ≡ suc r
  pub known : is_attached m₁ k ≡ true
