-- The collector's step in sweep: it takes the lowest condemned segment, its words agree with the abstract machine's step, and what is not
-- marked becomes free.
use mathlib.Core.Path.{◌≡◌, refl, ◌∙◌}
use mathlib.Core.Logic.{◌⊎◌, inl, inr}
use mathlib.Core.Option.{Option, none, some}
use Prim.Native.Nat.{ℕ, ◌<◌}
use Rattle.basics.proofs.Order.{same_or_not}
use Rattle.layout.specs.Geometry.{blocks_in, segment_of}
use Rattle.layout.specs.declared.Geometry.{Geometry}
use Rattle.layout.specs.Mem.{Mem, Sizes, set_control}
use Rattle.theory.specs.Phases.{sweep}
use Rattle.theory.specs.MachineCalls.{sweep_step, step_by}
use Rattle.theory.proofs.CollectorKeeps.{Pick}
use Rattle.model.specs.Fields.{phase, tag, class}
use Rattle.model.specs.Segments.{used_bit}
use Rattle.model.specs.Records.{header_of, entered}
use Rattle.model.specs.Collector.{lowest, settled_by, swept, sweeps, step_in}
use Rattle.refine_view.specs.View.{view}
use Rattle.refine_view.specs.Refines.{Ordered, Moves}
use Rattle.model_laws.proofs.Lowest.{found_condemned, lower_other, none_condemned}
use Rattle.refine_sweep.proofs.Lowest.{pick_lowest}
use Rattle.refine_sweep.proofs.SweepStep.{settled_outcome}
use Rattle.refine_sweep.proofs.Passed.{swept_moves}
use Rattle.refine_sweep.proofs.LastStep.{moves_done}
use Rattle.model.specs.Tag as Tag

module _ (g : Geometry) (m : Mem) (s : Sizes g m) (c : Ordered g m) where
  pub lowest_condemned : (r : ℕ) → lowest m g.segments ≡ some r → (r < g.segments) × (tag m r ≡ Tag.condemned)
  lowest_condemned r e = found_condemned m g.segments r e

  pub picked : Pick (λ _. lowest m g.segments) (view g m)
  picked = pick_lowest g m s

  pub sweep_moves : phase m ≡ sweep → Moves g m (step_in sweep g m).1 (step_by (segment_of g) (λ _. lowest m g.segments) sweep (view g m))
  unfolding swept
  sweep_moves ph = go (lowest m g.segments) refl
    where
      go : (o : Option ℕ) → lowest m g.segments ≡ o → Moves g m (sweeps g o m).1 (sweep_step (segment_of g) o (view g m))
      go none e = moves_done g m s c (none_condemned m g.segments e)
      go (some r) e = let h = lowest_condemned r e in let o = settled_outcome g m s c r h.0 h.1 in
          swept_moves g m s c ph r h.0 h.1 (lower_other m g.segments r e) (settled_by g m r) o

  pub swept_free : phase m ≡ sweep → (r b : ℕ) → lowest m g.segments ≡ some r → b < blocks_in g (class m r)
      → entered g m (header_of g r (class m r) b) ≡ 0 → (used_bit g (swept g m r) r b ≡ 0) ⊎ (tag (swept g m r) r ≡ Tag.free)
  unfolding swept set_control
  swept_free ph r b e l w = go (same_or_not (tag (settled_by g m r) r) 0)
    where
      go : (tag (settled_by g m r) r ≡ Tag.free) ⊎ (tag (settled_by g m r) r ≡ Tag.free → ⊥) → (used_bit g (settled_by g m r) r b ≡ 0) ⊎ (tag (settled_by g m r) r ≡ Tag.free)
      go (inl z) = inr z
      go (inr n) = let h = lowest_condemned r e in inl ((settled_outcome g m s c r h.0 h.1).used n b l ∙ w)
