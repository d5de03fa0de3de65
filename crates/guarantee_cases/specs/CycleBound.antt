-- What the theorem of request No. 7 says of computed cases: "steps neither refused nor answered waiting, up to and including done, are at most
-- B + C + 4. B is the number of blocks in use when the phase became mark, and C the number of segments that start condemned."
use Rattle.std.specs.Prelude.{◌≡◌, List, [], ◌∷◌, ◌++◌, ℕ, ◌+◌, ◌<◌, length, Ok}
use Rattle.std.proofs.Math.Option.{Option, none, some}
use Rattle.layout.specs.declared.Geometry.{Geometry}
use Rattle.layout.specs.Mem.{mem_of}
use Rattle.theory.specs.Calls.{c_attach, c_detach, c_check, c_spawn, c_make}
use Rattle.model.specs.declared.Step.{Step}
use Rattle.model.specs.declared.Step.TheVariants.{Waiting, Moved, Traced, Swept, Done, Refused}
use Rattle.model.specs.Fields.{tag}
use Rattle.model.specs.Lists.{Event, mutator_call, start_call, step_call, opening_call, look_call, Element, start_element, Chain, Opened, prepend, remaining_calls, remaining_answers}
use Rattle.guarantee.specs.Demand3.{struck_out}
use Rattle.guarantee.specs.Totals.{blocks_in_use}
use Rattle.cycle_bound.specs.StepsLeft.{counted, condemned_in}
use Rattle.cycle_bound.specs.CycleBound.{used_at_mark, InCycle, CycleBound}
use Rattle.model_cases.specs.Replies.{Line, ◌⇒◌, opening, start, step, call, stepped, ok}
use Rattle.model_cases.specs.Whole.{whole}
use Rattle.guarantee_cases.specs.Columns.{left_column, right_column}
use Rattle.guarantee_cases.specs.OverNothing.{over_nothing}
use Rattle.model.specs.Tag as Tag
use Rattle.model.specs.declared.Answer.TheVariants as call_answer

-- ---- the cases, each over one segment; records of 1024 values are of class 13, two to a segment, and those of 600 of class 12, four to a segment

-- a segment full of two records, both reached: as many steps as the bound allows. In the list of calls a step refused 1 stands behind the first that waits
abbrev pub reaching : List Line
reaching =
    opening ⇒ ok
    ∷ call (c_attach 0) ⇒ ok
    ∷ call (c_make 0 0 1 1024) ⇒ ok
    ∷ call (c_make 0 1 1 1024) ⇒ ok
    ∷ start ⇒ ok
    ∷ step ⇒ stepped (Waiting 1)
    ∷ call (c_check 0) ⇒ ok
    ∷ step ⇒ stepped Moved
    ∷ step ⇒ stepped (Waiting 1)
    ∷ call (c_check 0) ⇒ ok
    ∷ step ⇒ stepped Moved
    ∷ step ⇒ stepped Traced
    ∷ step ⇒ stepped Traced
    ∷ step ⇒ stepped Moved
    ∷ step ⇒ stepped (Swept 0 0)
    ∷ step ⇒ stepped Done
    ∷ []

-- a part segment with one record, which is reached: as many as the bound allows, and so with the part segment in C
abbrev pub over_part : List Line
over_part =
    opening ⇒ ok
    ∷ call (c_attach 0) ⇒ ok
    ∷ call (c_make 0 0 0 1024) ⇒ ok
    ∷ call (c_spawn 1 0 0) ⇒ ok
    ∷ call (c_detach 0) ⇒ ok
    ∷ start ⇒ ok
    ∷ call (c_check 1) ⇒ ok
    ∷ step ⇒ stepped Moved
    ∷ call (c_check 1) ⇒ ok
    ∷ step ⇒ stepped Moved
    ∷ step ⇒ stepped Traced
    ∷ step ⇒ stepped Moved
    ∷ step ⇒ stepped (Swept 0 0)
    ∷ step ⇒ stepped Done
    ∷ []

-- a held segment with one record at the start; in each handshake another is made before the second acknowledgement, so that it is not born marked
abbrev pub made_meanwhile : List Line
made_meanwhile =
    opening ⇒ ok
    ∷ call (c_attach 0) ⇒ ok
    ∷ call (c_make 0 0 0 600) ⇒ ok
    ∷ start ⇒ ok
    ∷ call (c_make 0 1 0 600) ⇒ ok
    ∷ call (c_check 0) ⇒ ok
    ∷ step ⇒ stepped Moved
    ∷ call (c_make 0 2 0 600) ⇒ ok
    ∷ call (c_check 0) ⇒ ok
    ∷ step ⇒ stepped Moved
    ∷ step ⇒ stepped Traced
    ∷ step ⇒ stepped Traced
    ∷ step ⇒ stepped Traced
    ∷ step ⇒ stepped Moved
    ∷ step ⇒ stepped Done
    ∷ []

-- ---- what is said of each

-- the answers of all steps of a list
abbrev pub step_answer_in : Event → Option Step
step_answer_in (mutator_call c r) = none
step_answer_in (start_call r) = none
step_answer_in (step_call r) = some r
step_answer_in (opening_call r) = none
step_answer_in (look_call l) = none

abbrev pub steps_in : List Element → List Step
steps_in [] = []
steps_in (e ∷ es) = prepend (step_answer_in e.event) (steps_in es)

-- of the lines ls: the steps from a start to its done, how many of them are counted, and B and C
pub record OfCycleBound (ls : List Line) (rs : List Step) (n B C : ℕ) : Type 0 where
  pub geometry : Geometry
  pub content : List ℕ
  pub words : List ℕ
  pub calls : List Element
  pub opened : Opened geometry content words
  pub chain : Chain geometry words calls
  -- its calls and their answers, but for those that are struck out, are the case's
  pub left : remaining_calls struck_out calls ≡ left_column ls
  pub right : remaining_answers struck_out calls ≡ right_column ls
  -- the start, what follows it up to done, and the rest
  pub before : List Element
  pub during : List Element
  pub rest : List Element
  pub start_before : List ℕ
  pub start_after : List ℕ
  pub cut : calls ≡ before ++ (start_element geometry start_before (Ok call_answer.Done) start_after ∷ (during ++ rest))
  pub in_cycle : InCycle geometry start_before start_after during
  pub answers : steps_in during ≡ rs
  pub steps : counted during ≡ n
  pub used : used_at_mark geometry start_after during ≡ B
  pub condemned : condemned_in geometry (mem_of geometry start_after) ≡ C
  pub bound : CycleBound geometry start_after during

pub record CyclesOfCases : Type 0 where
  -- document 01's whole case: four records fill a segment, and one of them is not reached
  pub of_whole : OfCycleBound whole (Waiting 1 ∷ Moved ∷ Moved ∷ Traced ∷ Traced ∷ Traced ∷ Moved ∷ Swept 0 1 ∷ Done ∷ []) 8 4 1
  -- "at most B + C + 4": there are so many; and more, if those refused or answered waiting were counted
  pub of_reaching : OfCycleBound reaching (Waiting 1 ∷ Refused 1 ∷ Moved ∷ Waiting 1 ∷ Moved ∷ Traced ∷ Traced ∷ Moved ∷ Swept 0 0 ∷ Done ∷ []) (2 + 1 + 4) 2 1
  pub all_steps : 2 + 1 + 4 < length (steps_in of_reaching.during)
  -- a cycle over nothing: the traced ones and four. A record that is dropped is not reached
  pub of_nothing : OfCycleBound over_nothing (Waiting 1 ∷ Moved ∷ Moved ∷ Traced ∷ Traced ∷ Traced ∷ Moved ∷ Done ∷ []) (3 + 4) 4 0
  -- request No. 5: "A start now condemns the part segments as well." The bound is reached, so they are in C
  pub of_part : OfCycleBound over_part (Moved ∷ Moved ∷ Traced ∷ Moved ∷ Swept 0 0 ∷ Done ∷ []) (1 + 1 + 4) 1 1
  pub was_part : tag (mem_of of_part.geometry of_part.start_before) 0 ≡ Tag.part
  -- "when the phase became mark": there are more than the blocks in use when the cycle began, C and four
  pub of_meanwhile : OfCycleBound made_meanwhile (Moved ∷ Moved ∷ Traced ∷ Traced ∷ Traced ∷ Moved ∷ Done ∷ []) (3 + 0 + 4) 3 0
  pub at_start : (blocks_in_use of_meanwhile.geometry (mem_of of_meanwhile.geometry of_meanwhile.start_before) ≡ 1)
      × (blocks_in_use of_meanwhile.geometry (mem_of of_meanwhile.geometry of_meanwhile.start_after) ≡ 1)
  pub exceeds : blocks_in_use of_meanwhile.geometry (mem_of of_meanwhile.geometry of_meanwhile.start_before)
      + condemned_in of_meanwhile.geometry (mem_of of_meanwhile.geometry of_meanwhile.start_after) + 4 < counted of_meanwhile.during
