-- Where a stack of segments begins, its top, and a push with what can hinder it, over memory of any content.
use Rattle.std.specs.Prelude.{◌≡◌, Bool, true, false, ◌⊎◌, ℕ, ◌+◌, ◌*◌, ◌≤◌, ◌<◌, Option, Some, None, Result, Ok, Err}
use Rattle.layout.specs.declared.Geometry.{Geometry}
use Rattle.layout.specs.Geometry.{len}
use Rattle.layout.specs.Mem.{Mem}
use Rattle.model.specs.Segments.{count, top, stacked}
use Rattle.model.specs.declared.Refusal.{Refusal}
use Rattle.model.specs.declared.Refusal.TheVariants.{Torn}
use Rattle.layout.specs.Region as Region

-- where stack t begins; its count and its entries are words of the region
pub record StackAt (g : Geometry) (t r : ℕ) : Type 0 where
  pub is : r ≡ t * (1 + g.segments)
  pub inside : r + g.segments < len g Region.stacks

-- the segment last put on stack t, none of an empty one; torn where the count is over the number of segments, or the entry names no segment
abbrev pub Tops : Geometry → Mem → ℕ → Result (Option ℕ) Refusal → Type 0
Tops g m t (Ok (Some s)) = (s ≡ top g m t) × (s < g.segments) × (1 ≤ count g m t) × (count g m t ≤ g.segments)
Tops g m t (Ok None) = count g m t ≡ 0
Tops g m t (Err e) = (e ≡ Torn) × (1 ≤ count g m t) × ((g.segments < count g m t) ⊎ (g.segments ≤ top g m t))

-- what a push of segment s on stack t answers: true and the memory with it, or false where the stack has no room
pub record PushesSegment (g : Geometry) (m : Mem) (t s : ℕ) (r : Bool) (after : Mem) : Type 0 where
  pub done : r ≡ true → after ≡ stacked g m t s
  pub full : r ≡ false → g.segments ≤ count g m t
