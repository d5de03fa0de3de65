-- What the guarantee and the theorems beside it say of two cases: document 01's whole case, and the case of its refusals.
use Rattle.std.specs.Prelude.{◌≡◌, List, ◌∷◌, ◌++◌, ℕ, ◌≤◌, Ok, Err}
use Rattle.std.proofs.Math.Option.{some}
use Rattle.layout.specs.declared.Geometry.{Geometry}
use Rattle.layout.specs.Mem.{mem_of}
use Rattle.theory.specs.Calls.{c_make}
use Rattle.model.specs.declared.Answer.TheVariants.{Done}
use Rattle.model.specs.declared.Refusal.TheVariants.{NoRoom}
use Rattle.model.specs.Consistent.{Consistent}
use Rattle.model.specs.Lists.{Element, call_element, Gets, number_of, Chain, words_after, Opened, ghost_start, Begins, remaining_calls, remaining_answers}
use Rattle.guarantee.specs.Demand3.{struck_out, BlockFree}
use Rattle.guarantee.specs.Keeping.{Refuses, SizeRefusal, OutOfRoom, EndedIn, OnceSwept}
use Rattle.model_cases.specs.Replies.{Line}
use Rattle.model_cases.specs.Whole.{whole}
use Rattle.model_cases.specs.Refusals.{refusals}
use Rattle.guarantee_cases.specs.Columns.{left_column, right_column}
use Rattle.guarantee_cases.specs.Instance.{Instance}

-- every list from an opening, whatever its collector's calls and looks are: where the mutators' calls that remain are those of the case's left
-- column, their answers are those of its right column
abbrev pub Answered : List Line → Type 0
Answered ls =
    (g : Geometry) (words : List ℕ) (es : List Element) → Begins g words ghost_start → Chain g words es → remaining_calls struck_out es ≡ left_column ls
    → remaining_answers struck_out es ≡ right_column ls

-- along a list: the memory passes the examination everywhere; a refusal is one number of the table that its call may give, neither 12 nor 13, and 1 exactly
-- for a size; and it leaves the memory as it was
pub record Along (g : Geometry) (words : List ℕ) (es : List Element) : Type 0 where
  pub consistent : (xs ys : List Element) → es ≡ xs ++ ys → Consistent g (mem_of g (words_after words xs))
  pub kept : (xs ys : List Element) (e : Element) → es ≡ xs ++ (e ∷ ys) → Gets g (words_after words xs) e → Consistent g (mem_of g e.after)
  pub one_number : (xs ys : List Element) (e : Element) (n : ℕ) → es ≡ xs ++ (e ∷ ys) → number_of e ≡ some n → (1 ≤ n) × (n ≤ 13)
  pub only_numbers : (xs ys : List Element) (e : Element) (n : ℕ) → es ≡ xs ++ (e ∷ ys) → number_of e ≡ some n → Refuses e.event n
  pub size_exactly : (xs ys : List Element) (e : Element) → es ≡ xs ++ (e ∷ ys) → SizeRefusal e
  pub never_twelve : (xs ys : List Element) (e : Element) → es ≡ xs ++ (e ∷ ys) → number_of e ≡ some 12 → ⊥
  pub never_torn : (xs ys : List Element) (e : Element) → es ≡ xs ++ (e ∷ ys) → number_of e ≡ some 13 → ⊥
  pub unchanged : (xs ys : List Element) (e : Element) (n : ℕ) → es ≡ xs ++ (e ∷ ys) → number_of e ≡ some n → e.after ≡ e.before

-- document 01's whole case: its right column, the block that was in use and not reached is free after the sweep, and there is one sweep of its segment
pub record OfWhole (i : Instance) : Type 0 where
  pub opens : Consistent i.geometry (mem_of i.geometry i.words)
  pub along : Along i.geometry i.words i.calls
  pub calls : remaining_calls struck_out i.calls ≡ left_column whole
  pub answers : remaining_answers struck_out i.calls ≡ right_column whole
  pub freed : BlockFree i.geometry (mem_of i.geometry i.cycle.step_after) i.cycle.segment i.block
  -- the cycle goes on to its done, and sweeps the segment once
  pub ended : EndedIn i.geometry i.calls
  pub same_start : ended.start_before ≡ i.cycle.start_before
  pub once : OnceSwept i.geometry i.cycle.segment ended.during

-- the case of the refusals: those from 2 to 9 are the unbounded heap's too; the fifth make into one segment of four blocks has no room, and
-- document 01's condition for it holds then, and did not before the fourth
pub record OfRefusals : Type 0 where
  pub geometry : Geometry
  pub content : List ℕ
  pub words : List ℕ
  pub calls : List Element
  pub opened : Opened geometry content words
  pub chain : Chain geometry words calls
  pub along : Along geometry words calls
  pub remaining : remaining_calls struck_out calls ≡ left_column refusals
  pub answers : remaining_answers struck_out calls ≡ right_column refusals
  pub before : List Element
  pub rest : List Element
  pub before_fourth : List ℕ
  pub before_fifth : List ℕ
  pub after_fifth : List ℕ
  pub makes : calls ≡ before ++ (call_element (c_make 0 3 2 510) geometry before_fourth (Ok Done) before_fifth ∷ call_element (c_make 0 4 2 510) geometry before_fifth (Err NoRoom) after_fifth ∷ rest)
  pub room : OutOfRoom geometry (mem_of geometry before_fourth) 0 3 2 510 → ⊥
  pub no_room : OutOfRoom geometry (mem_of geometry before_fifth) 0 4 2 510
