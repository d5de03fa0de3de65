-- What the examination decides after the parts and the trace stack: that what is live passes the test, and what the phase asks.
use Rattle.std.specs.Prelude.{◌≡◌, ℕ, ◌<◌}
use Rattle.layout.specs.declared.Geometry.{Geometry}
use Rattle.layout.specs.Mem.{Mem}
use Rattle.theory.specs.Phases.{Phase}
use Rattle.model.specs.Fields.{trace_count, tag}
use Rattle.model.specs.Consistent.{InPhase, MarksOf}
use Rattle.examine_marks.specs.Heads.{OnlyEntries}
use Rattle.examine_colours.specs.Coloured.{LiveOk, Coloured, SweptOk}
use Rattle.model.specs.Tag as Tag

pub record Rest (p : Phase) (g : Geometry) (m : Mem) : Type 0 where
  pub records : LiveOk g m
  pub cycle : InPhase p g m

pub record IdleRest (g : Geometry) (m : Mem) : Type 0 where
  pub empty : trace_count m ≡ 0
  pub none : (s : ℕ) → s < g.segments → tag m s ≡ Tag.condemned → ⊥
  pub records : LiveOk g m

pub record SyncRest (g : Geometry) (m : Mem) : Type 0 where
  pub only : OnlyEntries g m
  pub records : LiveOk g m

pub record MarkRest (g : Geometry) (m : Mem) : Type 0 where
  pub marks : MarksOf g m (λ s. Unit {0})
  pub coloured : Coloured g m

pub record SweepRest (g : Geometry) (m : Mem) : Type 0 where
  pub empty : trace_count m ≡ 0
  pub marks : MarksOf g m (λ s. tag m s ≡ Tag.condemned)
  pub swept : SweptOk g m
