-- An attached mutator goes outside, on the memory and on the machine.
use mathlib.Core.Path.{◌≡◌, refl}
use mathlib.Core.Bool.{false}
use Prim.Native.Nat.{ℕ, zero, suc, ◌<◌}
use native.Mathlib.Omega.{arith}
use Rattle.layout.specs.declared.Geometry.{Geometry}
use Rattle.layout.specs.Geometry.{mutator_count, segment_of}
use Rattle.layout.specs.Mem.{Mem, Sizes}
use Rattle.theory.specs.Phases.{Phase, idle, sync1, sync2, mark, sweep}
use Rattle.theory.specs.Machine.{State, set_inside, acknowledge}
use Rattle.model.specs.Fields.{absent, outside, state, set_mutator_state}
use Rattle.refine_view.specs.View.{view}
use Rattle.refine_view.specs.Refines.{Moves}
use Rattle.refine_view.proofs.Following.{moves_then}
use Rattle.refine_view.proofs.Sides.{side_moves}
use Rattle.theory.proofs.AgreeKeeps.{inside_agree}

-- an acknowledgement attaches and detaches nobody, and changes nobody's side
pub check_attached : (p : Phase) (a : ℕ) (st : State) (k i : ℕ) → (acknowledge p a st k).attached i ≡ st.attached i
check_attached idle a st k i = refl
check_attached sync1 zero st k i = refl
check_attached sync1 (suc a) st k i = refl
check_attached sync2 zero st k i = refl
check_attached sync2 (suc zero) st k i = refl
check_attached sync2 (suc (suc a)) st k i = refl
check_attached mark a st k i = refl
check_attached sweep a st k i = refl

pub left_moves : (g : Geometry) (m m' : Mem) (st : State) → Moves g m m' st → Sizes g m' → (k : ℕ) → k < mutator_count → (state m' k ≡ absent → ⊥)
    → Moves g m (set_mutator_state m' k outside) (set_inside st k false)
left_moves g m m' st v s k few there =
    moves_then g m m' (set_mutator_state m' k outside) st (set_inside st k false) (set_inside (view g m') k false) v
    (inside_agree (segment_of g) st (view g m') v.agree k false)
    (side_moves g m' s v.structure k outside few there (omega arith) (omega arith))
