-- The segment that a make takes its block from, over memory of any content: the model's source of it and the memory with it taken, or why there is
-- none. Document 01: "takes the next free block of the script's held segment of that class .. Without one, it first takes a part segment of the class, else a
-- free one".
use Rattle.std.specs.Prelude.{◌≡◌, ◌⊎◌, ℕ, ◌<◌, eqb, Result, Ok, Err}
use Rattle.std.proofs.Math.Option.{Option, none, some}
use Rattle.basics.specs.Pick.{pick}
use Rattle.layout.specs.declared.Geometry.{Geometry}
use Rattle.layout.specs.Mem.{Mem}
use Rattle.model.specs.Fields.{place}
use Rattle.model.specs.Segments.{free_stack, part_stack, count, top, pop}
use Rattle.model.specs.Making.{Source, held, part, unused, no_room, source_of, set_held, freshened}
use Rattle.model.specs.Consistent.{Consistent}
use Rattle.model.specs.declared.Refusal.{Refusal}
use Rattle.model.specs.declared.Refusal.TheVariants.{NoRoom, Torn}

-- the segment of a source
abbrev pub segment_in : Source → Option ℕ
segment_in (held s) = some s
segment_in (part s) = some s
segment_in (unused s) = some s
segment_in no_room = none

-- the memory in which mutator k holds it
abbrev pub taken_from : Geometry → Mem → ℕ → ℕ → Source → Mem
taken_from g m k c (held s) = m
taken_from g m k c (part s) = set_held g (pop g m (part_stack c)) k c s (place m s)
taken_from g m k c (unused s) = freshened g (set_held g (pop g m free_stack) k c s 0) s c
taken_from g m k c no_room = m

-- the source where no segment of the class is held, and where no part one is there either
abbrev pub free_source : Geometry → Mem → Source
free_source g m = pick (eqb (count g m free_stack) 0) no_room (unused (top g m free_stack))

abbrev pub new_source : Geometry → Mem → ℕ → Source
new_source g m c = pick (eqb (count g m (part_stack c)) 0) (free_source g m) (part (top g m (part_stack c)))

-- what is answered where `source` is the one to take from: its segment and the memory with it taken, no room with nothing changed, or torn where no memory that passes the
-- examination leads
abbrev pub TakesFrom : Source → Geometry → Mem → ℕ → ℕ → Result ℕ Refusal → Mem → Type 0
TakesFrom source g m k c (Ok s) after = (s < g.segments) × (segment_in source ≡ some s) × (after ≡ taken_from g m k c source)
TakesFrom source g m k c (Err e) after = ((e ≡ NoRoom) × (source ≡ no_room) × (after ≡ m)) ⊎ ((e ≡ Torn) × (Consistent g m → ⊥))

abbrev pub TakesFree : Geometry → Mem → ℕ → ℕ → Result ℕ Refusal → Mem → Type 0
TakesFree g m = TakesFrom (free_source g m) g m

abbrev pub TakesNew : Geometry → Mem → ℕ → ℕ → Result ℕ Refusal → Mem → Type 0
TakesNew g m k c = TakesFrom (new_source g m c) g m k c

abbrev pub Takes : Geometry → Mem → ℕ → ℕ → Result ℕ Refusal → Mem → Type 0
Takes g m k c = TakesFrom (source_of g m k c) g m k c
