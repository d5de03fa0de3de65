-- The step in sweep that finds no segment left: the phase becomes idle, and nothing else changes.
use mathlib.Core.Path.{◌≡◌}
use Prim.Native.Nat.{ℕ, ◌<◌}
use Rattle.layout.specs.declared.Geometry.{Geometry}
use Rattle.layout.specs.Mem.{Mem, Sizes}
use Rattle.theory.specs.Phases.{idle}
use Rattle.model.specs.Fields.{set_phase, tag}
use Rattle.refine_view.specs.View.{view}
use Rattle.refine_view.specs.Refines.{Ordered, Moves}
use Rattle.refine_view.proofs.SelfSimulation.{moves_self}
use Rattle.refine_view.proofs.Phasing.{phase_moves}
use Rattle.theory.specs.Machine as machine
use Rattle.model.specs.Tag as Tag

pub moves_done : (g : Geometry) (m : Mem) → Sizes g m → Ordered g m → ((x : ℕ) → x < g.segments → tag m x ≡ Tag.condemned → ⊥) → Moves g m (set_phase m idle) (machine.set_phase (view g m) idle)
moves_done g m s c left = phase_moves g m m (view g m) (moves_self g m c) s idle (λ t. absurd t) left
