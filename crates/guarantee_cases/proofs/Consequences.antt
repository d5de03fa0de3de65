-- What the guarantee and the theorems beside it say of document 01's whole case and of the case of its refusals.
use mathlib.Core.Path.{◌≡◌, refl, sym, ◌∙◌, ap}
use mathlib.Core.Logic.{inl}
use mathlib.Core.List.{List, tail}
use mathlib.Core.Option.{some-injective}
use native.Mathlib.Omega.{arith}
use native.Mathlib.Decide.{ℕ_discrete}
use Prim.Native.Nat.{ℕ}
use lib.ListN.{length, take, drop}
use Rattle.std.specs.Prelude.{Ok, Err}
use Rattle.layout.specs.declared.Geometry.{Geometry}
use Rattle.layout.specs.Mem.{mem_of}
use Rattle.layout.proofs.Regions.{right_size}
use Rattle.theory.specs.Calls.{c_make, require, if_record}
use Rattle.theory.specs.Update.{upd}
use Rattle.theory.specs.Unbounded.{empty, uanswers}
use Rattle.theory.proofs.Invariant.{none_some}
use Rattle.model.specs.declared.Answer.TheVariants.{Done}
use Rattle.model.specs.declared.Refusal.TheVariants.{NoRoom}
use Rattle.model.specs.Fields.{tag}
use Rattle.model.specs.Lists.{Element, call_element, ghost_start, by_opening}
use Rattle.model.proofs.Collecting.{collects_is, full_collected}
use Rattle.guarantee.specs.Keeping.{Applied, EndedIn}
use Rattle.guarantee.proofs.Beginning.{opened_point}
use Rattle.guarantee.proofs.Guarantee.{guarantee}
use Rattle.guarantee.proofs.SweptOnce.{swept_once}
use Rattle.guarantee.proofs.Keeping.{opening_establishes, no_room_exactly}
use Rattle.model_cases.specs.Replies.{inputs, outputs, geometry, sevens}
use Rattle.model_cases.specs.Whole.{whole}
use Rattle.model_cases.specs.Refusals.{refusals}
use Rattle.model_cases.proofs.Refusals.{refusals_hold}
use Rattle.guarantee_cases.specs.Columns.{left_column, right_column}
use Rattle.guarantee_cases.specs.Consequences.{Answered, OfWhole, OfRefusals}
use Rattle.guarantee_cases.proofs.CaseRun.{commands_in, elements_of, CaseRun, case_run}
use Rattle.guarantee_cases.proofs.Instance.{asked, replied, ended_at, case_from, sizes_sevens, whole_run, full_then, whole_case}
use Rattle.guarantee_cases.proofs.Along.{applied_to, along}
use Rattle.model.specs.Tag as Tag

-- ---- the columns, by the unbounded heap alone

whole_column : uanswers empty (left_column whole) ≡ right_column whole
unfolding require if_record upd ℕ_discrete
whole_column = refl

refusals_column : uanswers empty (left_column refusals) ≡ right_column refusals
unfolding require if_record upd ℕ_discrete
refusals_column = refl

pub whole_answered : Answered whole
whole_answered g words es b ch e = guarantee.answers g words ghost_start es b ch ∙ ap (uanswers empty) e ∙ whole_column

pub refusals_answered : Answered refusals
refusals_answered g words es b ch e = guarantee.answers g words ghost_start es b ch ∙ ap (uanswers empty) e ∙ refusals_column

-- ---- the whole case

module _ (g : Geometry) (p : CaseRun g asked replied) (full : tag (mem_of g (p.at 9)) 0 ≡ Tag.full) where
  -- from the start (9) to done (20)
  abbrev ended : EndedIn g (case_from g p full).calls
  ended = ended_at g p.at (case_from g p full).calls 9 10 refl refl

  of_whole : OfWhole (case_from g p full)
  of_whole =
      let i = case_from g p full in
      let collected = sym (collects_is (mem_of g (p.at 9)) 0) ∙ full_collected (mem_of g (p.at 9)) 0 full in
      let o = opened_point g i.content i.words i.opened in
      record {
        opens = opening_establishes g i.content i.words i.opened;
        along = along g i.words ghost_start i.calls (by_opening i.opened) i.chain;
        calls = refl;
        answers = whole_answered g i.words i.calls (by_opening i.opened) i.chain refl;
        freed = guarantee.frees g i.words ghost_start i.calls (by_opening i.opened) i.chain i.cycle i.cycle.segment i.block collected i.unreached refl;
        ended = ended;
        same_start = refl;
        once = swept_once g i.words i.calls (right_size g (length i.words) o.long) o.consistent i.chain ended 0 collected;
      }

pub whole_consequences : OfWhole whole_case
whole_consequences = of_whole (geometry 2) whole_run full_then

-- ---- the refusals

module _ (g : Geometry) (p : CaseRun g (commands_in (inputs refusals)) (tail (outputs refusals))) where
  abbrev at : ℕ → List ℕ
  at = p.at

  abbrev elements : List Element
  elements = elements_of g at (commands_in (inputs refusals)) (tail (outputs refusals))

  abbrev fourth : Element
  fourth = call_element (c_make 0 3 2 510) g (at 42) (Ok Done) (at 43)

  abbrev fifth : Element
  fifth = call_element (c_make 0 4 2 510) g (at 43) (Err NoRoom) (at 44)

  fourth_applied : Applied g (at 42) fourth
  fourth_applied = applied_to g (at 0) ghost_start elements (by_opening p.opened) p.chain (take 42 elements) (drop 43 elements) fourth refl (λ e. none_some e)

  fifth_applied : Applied g (at 43) fifth
  fifth_applied =
      applied_to g (at 0) ghost_start elements (by_opening p.opened) p.chain (take 43 elements) (drop 44 elements) fifth refl
      (λ e. let y : ◌≡◌ {A = ℕ} 10 1 = some-injective 10 1 e in omega arith)

  of_refusals : OfRefusals
  of_refusals = record {
    geometry = g;
    content = p.content;
    words = at 0;
    calls = elements;
    opened = p.opened;
    chain = p.chain;
    along = along g (at 0) ghost_start elements (by_opening p.opened) p.chain;
    remaining = refl;
    answers = refusals_answered g (at 0) elements (by_opening p.opened) p.chain refl;
    before = take 42 elements;
    rest = drop 44 elements;
    before_fourth = at 42;
    before_fifth = at 43;
    after_fifth = at 44;
    makes = refl;
    room = λ o. none_some (no_room_exactly.whenever g (at 42) (at 43) 0 3 2 510 (Ok Done) fourth_applied o);
    no_room = no_room_exactly.only g (at 43) (at 44) 0 4 2 510 (Err NoRoom) fifth_applied refl;
  }

pub refusals_consequences : OfRefusals
refusals_consequences =
    of_refusals (geometry 1)
    (case_run (geometry 1) (omega arith) (omega arith) (inl refl) (sevens (geometry 1)) (sizes_sevens (geometry 1)) (commands_in (inputs refusals)) (tail (outputs refusals)) refusals_hold)
