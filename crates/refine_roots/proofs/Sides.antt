-- The call enter: a mutator's side set.
use mathlib.Core.Path.{◌≡◌, refl}
use Prim.Native.Nat.{ℕ}
use native.Mathlib.Omega.{arith}
use lib.Dec.{ltb}
use borrow.Author.Tests.{ltb-true}
use Rattle.layout.specs.declared.Geometry.{Geometry}
use Rattle.layout.specs.Geometry.{mutator_count}
use Rattle.layout.specs.Mem.{Mem, Sizes}
use Rattle.theory.specs.Calls.{c_enter, refusal}
use Rattle.theory.proofs.Refusals.{require_ok}
use Rattle.model.specs.Fields.{inside}
use Rattle.model.specs.Calls.{is_attached, observe, act}
use Rattle.refine_view.specs.Refines.{Ordered, ActRefines}
use Rattle.model_laws.proofs.Bools.{not_eq}
use Rattle.refine_view.proofs.Invariants.{structure_of}
use Rattle.refine_view.proofs.SelfSimulation.{matches_by}
use Rattle.refine_view.proofs.Sides.{side_moves}

pub enter_refines : (g : Geometry) (m : Mem) → Sizes g m → Ordered g m → (k : ℕ) → refusal (observe m) (c_enter k) ≡ 0 → ActRefines g m (c_enter k)
unfolding act
enter_refines g m s c k e =
    let p = require_ok (ltb k mutator_count) 2 _ (omega arith) e in
    let q = require_ok (is_attached m k) 4 _ (omega arith) p.1 in
    matches_by g m _ _ tt refl (side_moves g m s (structure_of g m c) k inside (ltb-true _ _ p.0) (not_eq _ _ q.0) (omega arith) (omega arith))
