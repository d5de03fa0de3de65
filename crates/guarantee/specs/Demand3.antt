-- The guarantee: "Nobody who works through script calls can learn that a collector exists." One record with both halves, over every list of
-- calls from an accepted opening of memory of any content to the next accepted one, where of each call only its promise is known, and that its slice
-- keeps its length.
use Rattle.std.specs.Prelude.{◌≡◌, ◌⊎◌, Bool, true, List, ◌∷◌, ◌++◌, ℕ, ◌<◌, eqb, Ok}
use Rattle.basics.specs.Pick.{pick}
use Rattle.layout.specs.declared.Geometry.{Geometry}
use Rattle.layout.specs.Geometry.{blocks_in}
use Rattle.layout.specs.Mem.{Mem, mem_of}
use Rattle.theory.specs.Unbounded.{uanswers}
use Rattle.model.specs.declared.Answer.TheVariants.{Done}
use Rattle.model.specs.declared.Step.TheVariants.{Swept}
use Rattle.model.specs.Fields.{class}
use Rattle.model.specs.Segments.{used_bit}
use Rattle.model.specs.Records.{header_of}
use Rattle.model.specs.Collector.{full_or_part}
use Rattle.model.specs.Consistent.{is_free}
use Rattle.model.specs.Lists.{Element, start_element, step_element, Chain, Ghost, BlockReached, Begins, remaining_calls, remaining_answers, ghost_after}

-- "Strike out .. every call refused "size", "no room" or "not now""
abbrev pub struck_out : ℕ → Bool
struck_out n = pick (eqb n 1) true (pick (eqb n 10) true (eqb n 11))

-- "Free .. : the block is not in use, or its segment is free."
abbrev pub BlockFree : Geometry → Mem → ℕ → ℕ → Type 0
BlockFree g m s b = (used_bit g m s b ≡ 0) ⊎ (is_free m s ≡ true)

-- a block of a segment, not reached when the cycle began: "one without a record is not"
pub record Unreached (g : Geometry) (at_start : Mem) (w : Ghost) (s b : ℕ) : Type 0 where
  pub block : b < blocks_in g (class at_start s)
  pub unreached : BlockReached w (header_of g s (class at_start s) b) → ⊥

-- "A cycle begins with a start that is not refused": the list is one of calls, such a start, further calls with no such start among them, and a
-- step that answers swept for a segment
pub record SweptIn (g : Geometry) (es : List Element) : Type 0 where
  pub before : List Element
  pub during : List Element
  pub rest : List Element
  pub start_before : List ℕ
  pub start_after : List ℕ
  pub step_before : List ℕ
  pub step_after : List ℕ
  pub segment : ℕ
  pub freed : ℕ
  pub whole : es ≡ before ++ (start_element g start_before (Ok Done) start_after ∷ (during ++ (step_element g step_before (Swept segment freed) step_after ∷ rest)))
  pub one_start : (xs ys : List Element) (u v : List ℕ) → during ≡ xs ++ (start_element g u (Ok Done) v ∷ ys) → ⊥

-- "the remaining answers, one by one and in order, equal those that document 01's endless rack .. gives to the same calls"
abbrev pub SameAnswers : Type 0
SameAnswers =
    (g : Geometry) (words : List ℕ) (w : Ghost) (es : List Element) → Begins g words w → Chain g words es
    → remaining_answers struck_out es ≡ uanswers w.heap (remaining_calls struck_out es)

-- "a block in a segment that was full when the cycle began, which no script could then reach, is free once that segment is swept". Request No. 5:
-- it "then covers a block that was in use in a segment full or part at the start"; of one that was not in use the same is said
abbrev pub GarbageFreed : Type 0
GarbageFreed =
    (g : Geometry) (words : List ℕ) (w : Ghost) (es : List Element) → Begins g words w → Chain g words es → (c : SweptIn g es) (s b : ℕ)
    → full_or_part (mem_of g c.start_before) s ≡ true → Unreached g (mem_of g c.start_before) (ghost_after struck_out w c.before) s b → s ≡ c.segment
    → BlockFree g (mem_of g c.step_after) s b

pub record Demand3 : Type 0 where
  pub answers : SameAnswers
  pub frees : GarbageFreed
