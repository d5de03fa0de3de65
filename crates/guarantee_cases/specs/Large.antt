-- Request No. 6: "Everything promised for scripts is promised at either size." What the guarantee and the theorems beside it say of document 01's
-- whole case in one segment of 32 KiB: "Each class has twice the blocks it has at 16 KiB", so eight of its records fill the segment, and not four.
use Rattle.std.specs.Prelude.{◌≡◌, List, [], ◌∷◌, ◌++◌, ℕ, ◌+◌, length, Ok, Err}
use Rattle.layout.specs.declared.Geometry.{Geometry}
use Rattle.layout.specs.Geometry.{large_kib, blocks_in}
use Rattle.layout.specs.Mem.{mem_of}
use Rattle.theory.specs.Calls.{c_attach, c_check, c_make, c_load, c_store, c_clear, c_put, c_get, a_num}
use Rattle.model.specs.declared.Step.TheVariants.{Waiting, Moved, Traced, Swept, Done}
use Rattle.model.specs.declared.Refusal.TheVariants.{NoRoom}
use Rattle.model.specs.Fields.{tag, class}
use Rattle.model.specs.Segments.{used_bit}
use Rattle.model.specs.Consistent.{Consistent}
use Rattle.model.specs.Lists.{Element, call_element, Chain, Opened, ghost_start, Begins, remaining_calls, remaining_answers, ghost_after}
use Rattle.guarantee.specs.Demand3.{struck_out, BlockFree, Unreached, SweptIn}
use Rattle.guarantee.specs.Keeping.{OutOfRoom, EndedIn, OnceSwept}
use Rattle.model_cases.specs.Replies.{Line, ◌⇒◌, opening, start, step, call, answer, stepped, ok, no}
use Rattle.guarantee_cases.specs.Columns.{left_column, right_column}
use Rattle.guarantee_cases.specs.Consequences.{Along}
use Rattle.guarantee_cases.specs.Totals.{OfTotals}
use Rattle.guarantee_cases.specs.CycleBound.{OfCycleBound}
use Rattle.model.specs.Tag as Tag
use Rattle.model.specs.declared.Answer.TheVariants as call_answer

-- as document 01 has it, with eight makes, a ninth that has no room, and seven records reached
abbrev pub large : List Line
large =
    opening ⇒ ok
    ∷ call (c_attach 0) ⇒ ok
    ∷ call (c_make 0 0 1 600) ⇒ ok
    ∷ call (c_make 0 1 1 600) ⇒ ok
    ∷ call (c_make 0 2 1 600) ⇒ ok
    ∷ call (c_make 0 3 1 600) ⇒ ok
    ∷ call (c_make 0 4 1 600) ⇒ ok
    ∷ call (c_make 0 5 1 600) ⇒ ok
    ∷ call (c_make 0 6 1 600) ⇒ ok
    ∷ call (c_make 0 7 1 600) ⇒ ok
    ∷ call (c_make 0 8 1 600) ⇒ no 10
    ∷ call (c_store 0 0 0 1) ⇒ ok
    ∷ call (c_put 0 1 0 77) ⇒ ok
    ∷ call (c_clear 0 1) ⇒ ok
    ∷ call (c_clear 0 2) ⇒ ok
    ∷ start ⇒ ok
    ∷ step ⇒ stepped (Waiting 1)
    ∷ call (c_check 0) ⇒ ok
    ∷ step ⇒ stepped Moved
    ∷ call (c_check 0) ⇒ ok
    ∷ step ⇒ stepped Moved
    ∷ step ⇒ stepped Traced
    ∷ step ⇒ stepped Traced
    ∷ step ⇒ stepped Traced
    ∷ step ⇒ stepped Traced
    ∷ step ⇒ stepped Traced
    ∷ step ⇒ stepped Traced
    ∷ step ⇒ stepped Traced
    ∷ step ⇒ stepped Moved
    ∷ step ⇒ stepped (Swept 0 1)
    ∷ step ⇒ stepped Done
    ∷ call (c_load 0 1 0 0) ⇒ ok
    ∷ call (c_get 0 1 0) ⇒ answer (a_num 77)
    ∷ []

pub record OfLarge : Type 0 where
  pub geometry : Geometry
  pub content : List ℕ
  pub words : List ℕ
  pub calls : List Element
  pub opened : Opened geometry content words
  pub begins : Begins geometry words ghost_start
  pub chain : Chain geometry words calls
  -- "16 or 32 KiB for the whole heap beside the segment count, and slice lengths follow from both"
  pub size : (geometry.segments ≡ 1) × (geometry.kib ≡ large_kib) × (length words ≡ 13621)
  pub opens : Consistent geometry (mem_of geometry words)
  pub along : Along geometry words calls
  pub remaining : remaining_calls struck_out calls ≡ left_column large
  pub answers : remaining_answers struck_out calls ≡ right_column large
  -- "twice the blocks": the eighth make has room, and the ninth has none
  pub eight : blocks_in geometry 12 ≡ 8
  pub early : List Element
  pub late : List Element
  pub before_eighth : List ℕ
  pub before_ninth : List ℕ
  pub after_ninth : List ℕ
  pub makes : calls
      ≡ early ++ (call_element (c_make 0 7 1 600) geometry before_eighth (Ok call_answer.Done) before_ninth ∷ call_element (c_make 0 8 1 600) geometry before_ninth (Err NoRoom) after_ninth ∷ late)
  pub room : OutOfRoom geometry (mem_of geometry before_eighth) 0 7 1 600 → ⊥
  pub no_room : OutOfRoom geometry (mem_of geometry before_ninth) 0 8 1 600
  -- a start that finds the segment full, with a block in use and not reached, and the sweep of that segment
  pub cycle : SweptIn geometry calls
  pub swept : (cycle.segment ≡ 0) × (cycle.freed ≡ 1)
  pub full : (tag (mem_of geometry cycle.start_before) 0 ≡ Tag.full) × (class (mem_of geometry cycle.start_before) 0 ≡ 12)
  pub block : ℕ
  pub unreached : Unreached geometry (mem_of geometry cycle.start_before) (ghost_after struck_out ghost_start cycle.before) 0 block
  pub used : used_bit geometry (mem_of geometry cycle.start_before) 0 block ≡ 1
  -- the block is free after it; the cycle goes on to its done, and sweeps the segment once
  pub freed : BlockFree geometry (mem_of geometry cycle.step_after) 0 block
  pub ended : EndedIn geometry calls
  pub once : OnceSwept geometry 0 ended.during
  -- No. 3: of eight blocks handed out one is freed, and seven are in use
  pub totals : OfTotals large 8 1 7
  -- No. 7: "at most B + C + 4", with eight blocks in use and one segment condemned
  pub bound : OfCycleBound large
      (Waiting 1 ∷ Moved ∷ Moved ∷ Traced ∷ Traced ∷ Traced ∷ Traced ∷ Traced ∷ Traced ∷ Traced ∷ Moved ∷ Swept 0 1 ∷ Done ∷ []) (7 + 1 + 4) 8 1
  -- both are of this list
  pub same : (totals.calls ≡ calls) × (bound.calls ≡ calls)
