-- A mutator's entry from its parts, and all parts.
use mathlib.Core.Path.{◌≡◌}
use mathlib.Core.Bool.{Bool}
use Prim.Native.Nat.{ℕ, ◌+◌, ◌≤◌, ◌<◌}
use native.Mathlib.Omega.{arith}
use Rattle.basics.specs.Decides.{Decides}
use Rattle.basics.proofs.Deciding.{via}
use Rattle.classes.specs.Class.{first_class, class_count}
use Rattle.layout.specs.declared.Geometry.{Geometry}
use Rattle.layout.specs.Geometry.{mutator_count}
use Rattle.layout.specs.Mem.{Mem, control_word}
use Rattle.theory.specs.Phases.{sweep}
use Rattle.model.specs.PhaseNumbers.{phase_number}
use Rattle.model.specs.Consistent.{Behind}
use Rattle.examine_parts.specs.Parts.{Parts, SegmentParts, Holds, Entry, Acknowledged, MutatorParts}

-- ---- a mutator

module _ (g : Geometry) (m : Mem) (k : ℕ) where
  -- what it holds, of every class
  abbrev pub Table : Type 0
  Table = (c : ℕ) → c < first_class + class_count → first_class ≤ c → Holds g m k c

  pub mutator_all : {r : Bool} → Decides r ((Entry m k × Table) × Acknowledged m k) → Decides r (MutatorParts g m k)
  mutator_all d = via
      (λ q. let w = q.0.0 in (record { states = w.states; acknowledged = w.acknowledged; gone = w.gone; holds = λ c s i j. q.0.1 c i.1 i.0 s j }, q.1))
      (λ q. ((record { states = q.0.states; acknowledged = q.0.acknowledged; gone = q.0.gone }, (λ c l h s w. q.0.holds c s (h, l) w)), q.1))
      d

-- ---- all parts; p is the phase's number

module _ (g : Geometry) (m : Mem) where
  abbrev pub Segments : Type 0
  Segments = (s : ℕ) → s < g.segments → SegmentParts g m s

  pub parts_all : (p : ℕ) → p ≡ control_word m 0 → p ≤ phase_number sweep → {r : Bool} → Decides r ((Segments × Behind g m) × ((k : ℕ) → k < mutator_count → MutatorParts g m k)) → Decides r (Parts g m)
  parts_all p x l d = via
      (λ q. let w = q.0.0 in
      record { phases = omega arith; segments = λ s h. (w s h).0; occupied = λ s h. (w s h).1; behind = q.0.1; mutators = λ k h. (q.1 k h).0; acknowledgements = λ k h. (q.1 k h).1 })
      (λ q. (((λ s h. (q.segments s h, q.occupied s h)), q.behind), (λ k h. (q.mutators k h, q.acknowledgements k h))))
      d
