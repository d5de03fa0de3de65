-- That the guarantee is not empty: a list with a put, a cycle whose start finds an unreached block in use in a full segment, the sweep of that
-- segment, and a get afterwards that answers the number put before.
use Rattle.std.specs.Prelude.{◌≡◌, List, [], ◌∷◌, ◌++◌, ℕ, Ok}
use Rattle.layout.specs.declared.Geometry.{Geometry}
use Rattle.layout.specs.Mem.{mem_of}
use Rattle.theory.specs.Calls.{c_check, c_clear, c_load, c_put, c_get, a_ok}
use Rattle.model.specs.declared.Answer.TheVariants.{Done, Number}
use Rattle.model.specs.Fields.{tag}
use Rattle.model.specs.Segments.{used_bit}
use Rattle.model.specs.Lists.{Element, call_element, Chain, Opened, ghost_start, remaining_calls, remaining_answers, ghost_after}
use Rattle.guarantee.specs.Demand3.{struck_out, Unreached, SweptIn}
use Rattle.model.specs.Tag as Tag

pub record Instance : Type 0 where
  pub geometry : Geometry
  pub content : List ℕ
  pub words : List ℕ
  pub calls : List Element
  pub opened : Opened geometry content words
  pub chain : Chain geometry words calls
  pub cycle : SweptIn geometry calls
  -- a block of the segment that was swept, which was full when the cycle began: in use then, and not reached
  pub full : tag (mem_of geometry cycle.start_before) cycle.segment ≡ Tag.full
  pub block : ℕ
  pub unreached : Unreached geometry (mem_of geometry cycle.start_before) (ghost_after struck_out ghost_start cycle.before) cycle.segment block
  pub used : used_bit geometry (mem_of geometry cycle.start_before) cycle.segment block ≡ 1
  -- a number, not the 0 that a record begins with, put before the cycle and got after the sweep
  pub mutator : ℕ
  pub root : ℕ
  pub field : ℕ
  pub value : ℕ
  pub not_zero : value ≡ 0 → ⊥
  pub early : List Element
  pub late : List Element
  pub put_before : List ℕ
  pub put_after : List ℕ
  pub puts : cycle.before ≡ early ++ (call_element (c_put mutator root field value) geometry put_before (Ok Done) put_after ∷ late)
  -- between that put and the get no other mutators' calls remain than these: the root is cleared and one more, two checks in the cycle, and after
  -- the sweep a load from another root, which is answered ok
  pub gone : ℕ
  pub clears : remaining_calls struck_out late ≡ c_clear mutator root ∷ c_clear mutator gone ∷ []
  pub checks : remaining_calls struck_out cycle.during ≡ c_check mutator ∷ c_check mutator ∷ []
  pub between : List Element
  pub other : ℕ
  pub link : ℕ
  pub elsewhere : other ≡ root → ⊥
  pub reloads : remaining_calls struck_out between ≡ c_load mutator root other link ∷ []
  pub reloaded : remaining_answers struck_out between ≡ a_ok ∷ []
  pub get_before : List ℕ
  pub get_after : List ℕ
  pub gets : cycle.rest ≡ between ++ (call_element (c_get mutator root field) geometry get_before (Ok (Number value)) get_after ∷ [])
