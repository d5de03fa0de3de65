-- What the theorem of request No. 3 says of a computed case: so many blocks were handed out, so many freed, and so many are in use at its end.
use Rattle.std.specs.Prelude.{◌≡◌, List, ℕ}
use Rattle.layout.specs.declared.Geometry.{Geometry}
use Rattle.layout.specs.Mem.{mem_of}
use Rattle.model.specs.Lists.{Element, Chain, words_after, Opened, remaining_calls, remaining_answers}
use Rattle.guarantee.specs.Demand3.{struck_out}
use Rattle.guarantee.specs.Totals.{blocks_in_use, makes_in, freed_in}
use Rattle.model_cases.specs.Replies.{Line}
use Rattle.model_cases.specs.Whole.{whole}
use Rattle.model_cases.specs.Refusals.{refusals}
use Rattle.model_cases.specs.Counted.{counted}
use Rattle.guarantee_cases.specs.Columns.{left_column, right_column}

-- of the lines ls
pub record OfTotals (ls : List Line) (made freed used : ℕ) : Type 0 where
  pub geometry : Geometry
  pub content : List ℕ
  pub words : List ℕ
  pub calls : List Element
  pub opened : Opened geometry content words
  pub chain : Chain geometry words calls
  -- its calls and their answers, but for those that are struck out, are the case's
  pub left : remaining_calls struck_out calls ≡ left_column ls
  pub right : remaining_answers struck_out calls ≡ right_column ls
  pub makes : makes_in calls ≡ made
  pub frees : freed_in calls ≡ freed
  pub in_use : blocks_in_use geometry (mem_of geometry (words_after words calls)) ≡ used

-- document 01's whole case: four records fill a segment, and one of them is freed; the case of refusals, with makes refused 6, 9 and 10, and an opening,
-- a make and a step refused 1 before them; and the case of the two counts, in which a segment is swept to free and taken again by another class,
-- what a sweep left is swept again, and part segments are swept
pub record TotalsOfCases : Type 0 where
  pub of_whole : OfTotals whole 4 1 3
  pub of_refusals : OfTotals refusals 4 0 4
  pub of_counted : OfTotals counted 11 10 1
