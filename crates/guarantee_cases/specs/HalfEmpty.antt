-- What the guarantee and the theorems beside it say of request No. 5's own case: one segment, part, whose short records are all dead, and a long record
-- that has no room before the cycle and takes the segment after its sweep.
use Rattle.std.specs.Prelude.{◌≡◌, true, List, [], ◌∷◌, ◌++◌, ℕ, ◌<◌, Ok, Err}
use Rattle.layout.specs.declared.Geometry.{Geometry}
use Rattle.layout.specs.Mem.{mem_of}
use Rattle.theory.specs.Calls.{c_make}
use Rattle.model.specs.declared.Answer.TheVariants.{Done}
use Rattle.model.specs.declared.Refusal.TheVariants.{NoRoom}
use Rattle.model.specs.Fields.{tag, class, place}
use Rattle.model.specs.Segments.{used_bit}
use Rattle.model.specs.Consistent.{is_free}
use Rattle.model.specs.Lists.{Element, call_element, Chain, Opened, ghost_start, remaining_calls, remaining_answers, ghost_after}
use Rattle.guarantee.specs.Demand3.{struck_out, BlockFree, Unreached, SweptIn}
use Rattle.guarantee.specs.Keeping.{OutOfRoom, EndedIn, OnceSwept}
use Rattle.model_cycles.specs.PartCycles.{long_after_short}
use Rattle.guarantee_cases.specs.Columns.{left_column, right_column}
use Rattle.guarantee_cases.specs.Consequences.{Along}
use Rattle.model.specs.Tag as Tag

pub record OfHalfEmpty : Type 0 where
  pub geometry : Geometry
  pub content : List ℕ
  pub words : List ℕ
  pub calls : List Element
  pub opened : Opened geometry content words
  pub chain : Chain geometry words calls
  pub along : Along geometry words calls
  pub remaining : remaining_calls struck_out calls ≡ left_column long_after_short
  pub answers : remaining_answers struck_out calls ≡ right_column long_after_short
  pub cycle : SweptIn geometry calls
  -- "its part segments of a small class are all dead, no full segment remains, and make answers 10": there is one segment
  pub one : geometry.segments ≡ 1
  pub part : (tag (mem_of geometry cycle.start_before) cycle.segment ≡ Tag.part) × (class (mem_of geometry cycle.start_before) cycle.segment ≡ 9)
  pub early : List Element
  pub long_before : List ℕ
  pub refused : cycle.before ≡ early ++ (call_element (c_make 1 0 0 4095) geometry long_before (Err NoRoom) cycle.start_before ∷ [])
  pub no_room : OutOfRoom geometry (mem_of geometry long_before) 1 0 0 4095
  -- three blocks of it, in use and not reached
  pub unreached : (b : ℕ) → b < 3
      → Unreached geometry (mem_of geometry cycle.start_before) (ghost_after struck_out ghost_start cycle.before) cycle.segment b
  pub used : (b : ℕ) → b < 3 → used_bit geometry (mem_of geometry cycle.start_before) cycle.segment b ≡ 1
  -- "A condemned segment keeps its place and is on no stack, so no script takes it before its sweep; I count a make refused for that as lack of room"
  pub condemned : tag (mem_of geometry cycle.start_after) cycle.segment ≡ Tag.condemned
  pub keeps_place : (place (mem_of geometry cycle.start_before) cycle.segment ≡ 3) × (place (mem_of geometry cycle.start_after) cycle.segment ≡ 3)
  pub had_room : OutOfRoom geometry (mem_of geometry cycle.start_before) 1 0 1 63 → ⊥
  pub has_none : OutOfRoom geometry (mem_of geometry cycle.start_after) 1 0 1 63
  -- swept once, the blocks are free, and the segment; three were freed
  pub ended : EndedIn geometry calls
  pub once : OnceSwept geometry cycle.segment ended.during
  pub freed : (b : ℕ) → b < 3 → BlockFree geometry (mem_of geometry cycle.step_after) cycle.segment b
  pub three : cycle.freed ≡ 3
  pub free : is_free (mem_of geometry cycle.step_after) cycle.segment ≡ true
  -- and the long record takes it
  pub between : List Element
  pub late : List Element
  pub take_before : List ℕ
  pub take_after : List ℕ
  pub takes : cycle.rest ≡ between ++ (call_element (c_make 1 0 0 4095) geometry take_before (Ok Done) take_after ∷ late)
  pub taken : (tag (mem_of geometry take_after) cycle.segment ≡ Tag.full) × (class (mem_of geometry take_after) cycle.segment ≡ 14)
