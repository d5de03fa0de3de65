-- The theorem of request No. 3, applied to three computed cases. What was handed out and freed is computed from the calls and their answers; what is in
-- use at the end is what the theorem says.
use mathlib.Core.Path.{◌≡◌, refl}
use mathlib.Core.Option.{Option, none, some}
use mathlib.Core.Logic.{inl}
use mathlib.Core.List.{List, [], ◌∷◌}
use Prim.Native.Nat.{ℕ, ◌+◌}
use native.Mathlib.Omega.{arith}
use Rattle.std.specs.Prelude.{Err}
use Rattle.layout.specs.declared.Geometry.{Geometry}
use Rattle.theory.specs.Calls.{c_make}
use Rattle.model.specs.Lists.{Event, mutator_call, step_call, opening_call, Element, Chain, ghost_start, by_opening, remaining_calls, remaining_answers}
use Rattle.model.specs.Run.{Command}
use Rattle.guarantee.specs.Demand3.{struck_out}
use Rattle.guarantee.specs.Totals.{makes_in, freed_in}
use Rattle.guarantee.proofs.Totals.{totals}
use Rattle.model_cases.specs.Replies.{Reply, replies, opening, Line, ◌⇒◌, outputs, geometry, sevens, ok}
use Rattle.model_cases.specs.Whole.{whole}
use Rattle.model_cases.specs.Refusals.{refusals}
use Rattle.model_cases.specs.Counted.{counted}
use Rattle.model_cases.proofs.Whole.{whole_holds}
use Rattle.model_cases.proofs.Refusals.{refusals_hold}
use Rattle.guarantee_cases.specs.Columns.{left_column, right_column}
use Rattle.guarantee_cases.specs.RefusedStand.{RefusedSize, refused_call, refused_step, refused_opening, leaving}
use Rattle.guarantee_cases.specs.Totals.{OfTotals, TotalsOfCases}
use Rattle.guarantee_cases.proofs.RefusedStand.{no_count, refused_stand}
use Rattle.guarantee_cases.proofs.CaseRun.{inputs_of, command_in, asked, elements_of, CaseRun, case_run}
use Rattle.guarantee_cases.proofs.Instance.{sizes_sevens}
use Rattle.model.specs.declared.Step.TheVariants as step
use Rattle.model.specs.declared.Refusal.TheVariants.{Size}

-- the lines of a case that are calls, without those that only show words
abbrev keep_if : Option Command → Line → List Line → List Line
keep_if none l ls = ls
keep_if (some c) l ls = l ∷ ls

abbrev call_lines : List Line → List Line
call_lines [] = []
call_lines ((e ⇒ r) ∷ ls) = keep_if (command_in e) (e ⇒ r) (call_lines ls)

abbrev replied : List Line → List Reply
replied ls = outputs (call_lines ls)

abbrev elements : (g : Geometry) (ls : List Line) → CaseRun g (asked ls) (replied ls) → List Element
elements g ls p = elements_of g p.at (asked ls) (replied ls)

-- the case's calls, perhaps with others before them
module _ (g : Geometry) (ls : List Line) (p : CaseRun g (asked ls) (replied ls)) (calls : List Element) (chain : Chain g (p.at 0) calls) (made freed used : ℕ) where
  abbrev pub of_totals : remaining_calls struck_out calls ≡ left_column ls → remaining_answers struck_out calls ≡ right_column ls → makes_in calls ≡ made → freed_in calls ≡ freed
      → made ≡ freed + used → OfTotals ls made freed used
  of_totals l r m f s =
      let t = totals g (p.at 0) ghost_start calls (by_opening p.opened) chain in
      record {
        geometry = g;
        content = p.content;
        words = p.at 0;
        calls = calls;
        opened = p.opened;
        chain = chain;
        left = l;
        right = r;
        makes = m;
        frees = f;
        in_use = omega arith;
      }

-- ---- over segments of sevens

whole_run : CaseRun (geometry 2) (asked whole) (replied whole)
whole_run = case_run (geometry 2) (omega arith) (omega arith) (inl refl) (sevens (geometry 2)) (sizes_sevens (geometry 2)) (asked whole) (replied whole) whole_holds

refusals_run : CaseRun (geometry 1) (asked refusals) (replied refusals)
refusals_run = case_run (geometry 1) (omega arith) (omega arith) (inl refl) (sevens (geometry 1)) (sizes_sevens (geometry 1)) (asked refusals) (replied refusals) refusals_hold

counted_told : replies (geometry 4) (sevens (geometry 4)) (opening ∷ inputs_of (asked counted)) ≡ ok ∷ replied counted
unfolding replies
counted_told = refl

counted_run : CaseRun (geometry 4) (asked counted) (replied counted)
counted_run = case_run (geometry 4) (omega arith) (omega arith) (inl refl) (sevens (geometry 4)) (sizes_sevens (geometry 4)) (asked counted) (replied counted) counted_told

-- a call refused 1 before others: 257 segments and no word
abbrev refused_then : Event → List Element → List Element
refused_then v es = leaving (geometry 257) [] v ∷ es

refused_then_lem : (words : List ℕ) (es : List Element) → Chain (geometry 1) words es → (v : Event) → RefusedSize v → Chain (geometry 1) words (refused_then v es)
refused_then_lem words es ch v r = refused_stand.stands (geometry 1) words es ch (geometry 257) [] no_count v r

abbrev an_opening : Event
an_opening = opening_call (Err Size)

abbrev a_make : Event
a_make = mutator_call (c_make 0 0 1 1) (Err Size)

abbrev a_step : Event
a_step = step_call (step.Refused 1)

abbrev refused_first : List Element
refused_first = refused_then an_opening (refused_then a_make (refused_then a_step (elements (geometry 1) refusals refusals_run)))

refused_chain : Chain (geometry 1) (refusals_run.at 0) refused_first
refused_chain =
    let words = refusals_run.at 0 in
    let own = elements (geometry 1) refusals refusals_run in
    let one = refused_then_lem words own refusals_run.chain a_step refused_step in
    let two = refused_then_lem words (refused_then a_step own) one a_make (refused_call (c_make 0 0 1 1)) in
    refused_then_lem words (refused_then a_make (refused_then a_step own)) two an_opening refused_opening

pub totals_of_cases : TotalsOfCases
totals_of_cases = record {
  of_whole = of_totals (geometry 2) whole whole_run (elements (geometry 2) whole whole_run) whole_run.chain 4 1 3 refl refl refl refl refl;
  of_refusals = of_totals (geometry 1) refusals refusals_run refused_first refused_chain 4 0 4 refl refl refl refl refl;
  of_counted = of_totals (geometry 4) counted counted_run (elements (geometry 4) counted counted_run) counted_run.chain 11 10 1 refl refl refl refl refl;
}
