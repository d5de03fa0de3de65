-- The collector's steps in the handshakes and in mark move as the machine's.
use mathlib.Core.Path.{◌≡◌, refl}
use mathlib.Core.Option.{Option}
use Prim.Native.Nat.{ℕ}
use native.Mathlib.Omega.{arith}
use Rattle.layout.specs.declared.Geometry.{Geometry}
use Rattle.layout.specs.Geometry.{mutator_count, segment_of}
use Rattle.layout.specs.Mem.{Mem, Sizes}
use Rattle.theory.specs.Phases.{sync1, sync2, mark}
use Rattle.theory.specs.MachineCalls.{step_by}
use Rattle.model.specs.Fields.{phase, trace_count}
use Rattle.model.specs.Collector.{step_in}
use Rattle.refine_view.specs.View.{view}
use Rattle.refine_view.specs.Refines.{Ordered, Moves}
use Rattle.refine_trace.proofs.TraceStep.{trace_by}
use Rattle.refine_trace.proofs.Handshakes.{first_by, second_by}

module _ (g : Geometry) (m : Mem) (s : Sizes g m) (c : Ordered g m) where
  pub handshake1_moves : (v : Option ℕ) → phase m ≡ sync1 → Moves g m (step_in sync1 g m).1 (step_by (segment_of g) (λ _. v) sync1 (view g m))
  handshake1_moves v e = first_by g m s c mutator_count (omega arith) e

  pub handshake2_moves : (v : Option ℕ) → phase m ≡ sync2 → Moves g m (step_in sync2 g m).1 (step_by (segment_of g) (λ _. v) sync2 (view g m))
  handshake2_moves v e = second_by g m s c mutator_count (omega arith) e

  pub trace_moves : (v : Option ℕ) → phase m ≡ mark → Moves g m (step_in mark g m).1 (step_by (segment_of g) (λ _. v) mark (view g m))
  trace_moves v e = trace_by g m s c e (trace_count m) refl
