-- Start and step keep the lengths of the regions, over memory of any content.
use mathlib.Core.Option.{Option, none, some}
use Prim.Native.Nat.{ℕ, zero, suc, ◌-◌, ◌*◌}
use lib.Dec.{eqb}
use Rattle.basics.specs.Pick.{pick}
use Rattle.layout.specs.declared.Geometry.{Geometry}
use Rattle.layout.specs.Geometry.{mutator_count, blocks_in, bitmap_words}
use Rattle.layout.specs.Mem.{Mem, trace_word, Sizes}
use Rattle.bitmap_write.specs.Completed.{adopted}
use Rattle.theory.specs.Phases.{Phase, idle, sync1, sync2, mark, sweep}
use Rattle.model.specs.PhaseNumbers.{phase_number}
use Rattle.model.specs.Fields.{phase, trace_count, outside, state, class}
use Rattle.model.specs.Segments.{set_segment_state, free_stack, part_stack, stacked, above, bitmap, marks_of}
use Rattle.model.specs.Mutators.{acknowledged}
use Rattle.model.specs.Collector.{start_in, start_of, outside_answered, waiting, moved_or_waiting, traces, lowest, marked_blocks, rebuilt_by, recounted, swept, sweeps, step_in, step_of, settled_by}
use Rattle.model_laws.proofs.Lengths.{sizes_control, sizes_bitmap, sizes_segment, sizes_state}
use Rattle.model_laws.proofs.Operations.{sizes_pick, sizes_traced, sizes_acknowledged, sizes_stacked, sizes_started}
use Rattle.model.specs.declared.SegmentState.TheVariants as segment

module _ (g : Geometry) where
  -- ---- start

  sizes_start_in : (p : Phase) (m : Mem) → Sizes g m → Sizes g (start_in p g m).1
  sizes_start_in idle m z = sizes_started g m z
  sizes_start_in sync1 m z = z
  sizes_start_in sync2 m z = z
  sizes_start_in mark m z = z
  sizes_start_in sweep m z = z

  pub sizes_start : (m : Mem) → Sizes g m → Sizes g (start_of g m).1
  unfolding start_of
  sizes_start m z = sizes_start_in (phase m) m z

  -- ---- step

  pub sizes_answered : (m : Mem) → Sizes g m → (n : ℕ) → Sizes g (outside_answered g m n)
  unfolding outside_answered
  sizes_answered m z zero = z
  sizes_answered m z (suc k) =
      let y : Sizes g (outside_answered g m k) = sizes_answered m z k in
      sizes_pick g (eqb (state m k) outside) (acknowledged g (outside_answered g m k) k) (outside_answered g m k) (sizes_acknowledged g (outside_answered g m k) y k) y

  sizes_moves : (n : ℕ) (m : Mem) → Sizes g m → (p : Phase) → Sizes g (moved_or_waiting n m p).1
  sizes_moves zero m z p = sizes_control g m z 0 (phase_number p)
  sizes_moves (suc n) m z p = z

  sizes_traces : (n : ℕ) (m : Mem) → Sizes g m → Sizes g (traces g n m).1
  sizes_traces zero m z = sizes_control g m z 0 (phase_number sweep)
  sizes_traces (suc n) m z = sizes_traced g m z (trace_word m n - 1)

  sizes_settled : (m : Mem) → Sizes g m → (s : ℕ) → Sizes g (settled_by g m s)
  unfolding settled_by
  sizes_settled m z s =
      let c : ℕ = class m s in
      let m₀ : Mem = rebuilt_by g m s in
      let z₀ : Sizes g m₀ = sizes_bitmap g m z (s * bitmap_words g) (adopted (above g c) (blocks_in g c) (marks_of g m s) (bitmap g m s)) in
      let m₁ : Mem = recounted g m s in
      let z₁ : Sizes g m₁ = sizes_segment g _ (sizes_segment g m₀ z₀ _ (marked_blocks g m s)) _ 0 in
      let unused : Mem = stacked g (set_segment_state g m₁ s segment.Free) free_stack s in
      let full : Mem = set_segment_state g m₁ s (segment.Full c) in
      let part : Mem = stacked g (set_segment_state g m₁ s (segment.Part c 0)) (part_stack c) s in
      sizes_pick g (eqb (marked_blocks g m s) 0) unused (pick (eqb (marked_blocks g m s) (blocks_in g c)) full part)
      (sizes_stacked g (set_segment_state g m₁ s segment.Free) (sizes_state g m₁ z₁ s segment.Free) free_stack s)
      (sizes_pick g (eqb (marked_blocks g m s) (blocks_in g c)) full part (sizes_state g m₁ z₁ s (segment.Full c))
      (sizes_stacked g (set_segment_state g m₁ s (segment.Part c 0)) (sizes_state g m₁ z₁ s (segment.Part c 0)) (part_stack c) s))

  sizes_swept : (m : Mem) → Sizes g m → (s : ℕ) → Sizes g (swept g m s)
  unfolding swept
  sizes_swept m z s = sizes_control g (settled_by g m s) (sizes_settled m z s) 2 (suc s)

  sizes_sweeps : (o : Option ℕ) (m : Mem) → Sizes g m → Sizes g (sweeps g o m).1
  sizes_sweeps none m z = sizes_control g m z 0 (phase_number idle)
  sizes_sweeps (some s) m z = sizes_swept m z s

  sizes_step_in : (p : Phase) (m : Mem) → Sizes g m → Sizes g (step_in p g m).1
  sizes_step_in idle m z = z
  sizes_step_in sync1 m z =
      let m' : Mem = outside_answered g m mutator_count in
      sizes_moves (waiting m' mutator_count) m' (sizes_answered m z mutator_count) sync2
  sizes_step_in sync2 m z =
      let m' : Mem = outside_answered g m mutator_count in
      sizes_moves (waiting m' mutator_count) m' (sizes_answered m z mutator_count) mark
  sizes_step_in mark m z = sizes_traces (trace_count m) m z
  sizes_step_in sweep m z = sizes_sweeps (lowest m g.segments) m z

  pub sizes_step : (m : Mem) → Sizes g m → Sizes g (step_of g m).1
  unfolding step_of
  sizes_step m z = sizes_step_in (phase m) m z
