-- The lowest condemned segment as the code has it, what becomes of a swept segment by the number of its marks, and what can hinder a sweep, over
-- memory of any content.
use Rattle.std.specs.Prelude.{◌≡◌, Bool, true, false, ◌⊎◌, ℕ, suc, ◌+◌, ◌-◌, ◌≤◌, ◌<◌, eqb}
use Rattle.std.proofs.Math.Option.{Option, none, some}
use Rattle.basics.specs.Pick.{pick}
use Rattle.classes.specs.Class.{IsClass}
use Rattle.layout.specs.declared.Geometry.{Geometry}
use Rattle.layout.specs.Geometry.{blocks_in}
use Rattle.layout.specs.Mem.{Mem}
use Rattle.model.specs.declared.SegmentState.{SegmentState}
use Rattle.model.specs.declared.Step.{Step}
use Rattle.model.specs.declared.Step.TheVariants.{Swept, Refused}
use Rattle.model.specs.Fields.{class, tag, set_cursor, kept_count, set_kept_count, handed_count, set_handed_count}
use Rattle.model.specs.Segments.{set_segment_state, free_stack, part_stack, count, stacked}
use Rattle.model.specs.Collector.{marked_blocks, swept, lowest}
use Rattle.model.specs.Consistent.{Behind}
use Rattle.model.specs.declared.SegmentState.TheVariants as state
use Rattle.model.specs.Tag as Tag
use Rattle.std.specs.Prelude as rust

abbrev pub lowest_of : Option ℕ → rust.Option ℕ
lowest_of none = rust.None
lowest_of (some s) = rust.Some s

-- r is the first condemned segment from one on, or past the last one
pub record Next (g : Geometry) (m : Mem) (from r : ℕ) : Type 0 where
  pub onward : from ≤ r
  pub passed : (x : ℕ) → from ≤ x → x < r → tag m x ≡ Tag.condemned → ⊥
  pub found : r < g.segments → tag m r ≡ Tag.condemned

-- what the search answers: a condemned segment or none; where no condemned segment stands before the cursor, the lowest, and none where there is
-- none
pub record Finds (g : Geometry) (m : Mem) (r : rust.Option ℕ) : Type 0 where
  pub found : (s : ℕ) → r ≡ rust.Some s → (s < g.segments) × (tag m s ≡ Tag.condemned)
  pub exact : Behind g m → r ≡ lowest_of (lowest m g.segments)

-- "place 0 unless it becomes full. No mark: free. All blocks marked: full. Else part.": n blocks of a segment of class c are marked
unfoldable pub state_after : Geometry → ℕ → ℕ → SegmentState
state_after g c n = pick (eqb n 0) state.Free (pick (eqb n (blocks_in g c)) (state.Full c) (state.Part c 0))

-- the stack of such a segment, unless it is full
unfoldable pub stack_after : ℕ → ℕ → ℕ
stack_after c n = pick (eqb n 0) free_stack (part_stack c)

-- its state is set, and it is put on its stack
unfoldable pub settled : Geometry → Mem → ℕ → ℕ → ℕ → Mem
settled g m s c n =
    pick (eqb n (blocks_in g c)) (set_segment_state g m s (state_after g c n))
    (stacked g (set_segment_state g m s (state_after g c n)) (stack_after c n) s)

-- true and the memory with it, or false where its stack has no room
pub record Settles (g : Geometry) (m : Mem) (s c n : ℕ) (r : Bool) (after : Mem) : Type 0 where
  pub done : r ≡ true → after ≡ settled g m s c n
  pub full : r ≡ false → g.segments ≤ count g m (stack_after c n)

-- the same, then the cursor passes it, and the answer is Swept with what was in use less what is marked
pub record Finishes (g : Geometry) (m : Mem) (s c used n : ℕ) (r : Step) (after : Mem) : Type 0 where
  pub either : ((r ≡ Swept s (used - n)) × (after ≡ set_cursor (settled g m s c n) (suc s))) ⊎ ((r ≡ Refused 13) × (g.segments ≤ count g m (stack_after c n)))

-- the two counts of a segment together: in memory that passes the examination, its blocks in use
abbrev pub counted_use : Mem → ℕ → ℕ
counted_use m s = kept_count m s + handed_count m s

-- n blocks are kept, and none has been handed out since
abbrev pub recounted_as : Mem → ℕ → ℕ → Mem
recounted_as m s n = set_handed_count (set_kept_count m s n) s 0

-- what hinders a sweep: the segment has no class, its stack no room, or its counts tell more blocks than it has
pub data SweepFails (g : Geometry) (m : Mem) (s : ℕ) : Type 0 where
  no_class : (IsClass (class m s) → ⊥) → SweepFails g m s
  no_room : g.segments ≤ count g m (stack_after (class m s) (marked_blocks g m s)) → SweepFails g m s
  too_many : IsClass (class m s) → blocks_in g (class m s) < counted_use m s → SweepFails g m s

-- Swept, the segment and how many blocks in use, by its counts, became free, and the memory swept; or 13 where something hinders it
pub record Sweeps (g : Geometry) (m : Mem) (s : ℕ) (r : Step) (after : Mem) : Type 0 where
  pub either : ((r ≡ Swept s (counted_use m s - marked_blocks g m s)) × (after ≡ swept g m s) × IsClass (class m s) × (counted_use m s ≤ blocks_in g (class m s)))
      ⊎ ((r ≡ Refused 13) × SweepFails g m s)
