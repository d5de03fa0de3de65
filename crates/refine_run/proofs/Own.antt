-- The model's own run is a list of calls, each with the memory that the one before it left.
use mathlib.Core.Path.{◌≡◌, refl, sym, ◌∙◌, ap, subst}
use mathlib.Core.Bool.{Bool, true, false, true≢false}
use mathlib.Core.Logic.{inr}
use mathlib.Core.List.{List, [], ◌∷◌, ◌++◌}
use Prim.Native.Nat.{ℕ}
use lib.Dec.{eqb}
use lib.ListN.{length}
use borrow.Author.Tests.{eqb-true, eqb-false}
use Rattle.layout.specs.declared.Geometry.{Geometry}
use Rattle.layout.specs.Geometry.{Sized, len, wrong_size, scratch_words, sheet_bytes}
use Rattle.layout.specs.Mem.{Mem, mem_of, Sizes, control_word}
use Rattle.layout.proofs.Regions.{right_size, resized, length-flat, mem_of-flat, flat_mem_of}
use Rattle.theory.proofs.Invariant.{none_some}
use Rattle.model.specs.Consistent.{Consistent}
use Rattle.model.specs.Sheet.{sheet_of}
use Rattle.model.specs.Looks.{LookPromise}
use Rattle.model.specs.Lists.{Element, Meets, Gets, Chain}
use Rattle.model.specs.Run.{Query, of_phase, of_states, of_sheet, of_examination, Command, call, start, step, look, shown_states, shown_sheet, examined, look_of, answer_to, answered, run}
use Rattle.model_laws.proofs.Lengths.{sizes_of}
use Rattle.model_laws.proofs.Shown.{shown_short, shown_ok, record_words, records, as_states}
use Rattle.refine_run.proofs.Sizing.{sizes_exec}
use Rattle.refine_run.proofs.Collecting.{sizes_start, sizes_step}
use Rattle.refine_run.proofs.Meeting.{meets_call, meets_start, meets_step}
use Rattle.refine_run.proofs.Elements.{ahead}
use Rattle.layout.specs.Region as Region

-- ---- one command

module _ (g : Geometry) (words : List ℕ) (z : Sized g (length words)) where
  abbrev m : Mem
  m = mem_of g words

  right : wrong_size g (length words) ≡ false
  right = right_size g (length words) z

  wrong : wrong_size g (length words) ≡ true → ⊥
  wrong h = true≢false (sym h ∙ right)

  -- the memory that it leaves has the right length again
  sizes_left : (r : Command) → Sizes g (answer_to g m r).1
  sizes_left (call c) = sizes_exec g m (sizes_of g words z) c
  sizes_left start = sizes_start g m (sizes_of g words z)
  sizes_left step = sizes_step g m (sizes_of g words z)
  sizes_left (look q) = sizes_of g words z

  length-left : (r : Command) → length (answered g words r).after ≡ length words
  length-left r = length-flat g (answer_to g m r).1 (sizes_left r) ∙ sym z.is

  pub memory_left : (r : Command) → mem_of g (answered g words r).after ≡ (answer_to g m r).1
  memory_left r = mem_of-flat g (answer_to g m r).1 (sizes_left r)

  pub sized_left : (r : Command) → Sized g (length (answered g words r).after)
  sized_left r = resized g (length words) (length (answered g words r).after) z (length-left r)

  states_promise : (output : List ℕ) (b : Bool) → eqb (length output) (len g Region.segments) ≡ b → LookPromise g words (shown_states b m output)
  states_promise output true e = as_states g words output _ _ (shown_ok record_words records g words output right (eqb-true _ _ e) _ (λ _. refl))
  states_promise output false e = as_states g words output _ _ (shown_short record_words records g words output (eqb-false _ _ e))

  sheet_promise : (output : List ℕ) (b : Bool) → eqb (length output) (sheet_bytes g) ≡ b → LookPromise g words (shown_sheet b g m output)
  sheet_promise output true e = shown_ok sheet_bytes sheet_of g words output right (eqb-true _ _ e) _ (λ _. refl)
  sheet_promise output false e = shown_short sheet_bytes sheet_of g words output (eqb-false _ _ e)

  module _ (k : Consistent g m) where
    -- the examination says yes of consistent memory
    examined_promise : (scratch : List ℕ) (b : Bool) → eqb (length scratch) (scratch_words g) ≡ b → LookPromise g words (examined b g scratch)
    examined_promise scratch true e = record {
      sizes = (λ h. absurd (wrong h), λ f. absurd (f (eqb-true _ _ e)));
      sound = λ q. k;
      complete = λ h l c. refl;
      answers = λ h l. refl;
      cleared = λ h l. refl;
    }
    examined_promise scratch false e = record {
      sizes = (λ h. (refl, refl), λ f. (refl, refl));
      sound = λ q. k;
      complete = λ h l c. absurd (eqb-false _ _ e l);
      answers = λ h l. absurd (eqb-false _ _ e l);
      cleared = λ h l. absurd (eqb-false _ _ e l);
    }

    look_promise : (q : Query) → LookPromise g words (look_of g m q)
    look_promise of_phase = record {
      sizes = λ h. absurd (wrong h);
      exact = λ h c. (refl, refl);
      kind = λ e. (control_word m 0, refl, k.sound.phases);
      allowed = λ n e. none_some e;
      only_size = λ e. none_some e;
    }
    look_promise (of_states output) = states_promise output (eqb (length output) (len g Region.segments)) refl
    look_promise (of_sheet output) = sheet_promise output (eqb (length output) (sheet_bytes g)) refl
    look_promise (of_examination scratch) = examined_promise scratch (eqb (length scratch) (scratch_words g)) refl

    -- it meets its promise, keeps the length and gets the memory whole
    pub record Fine (e : Element) : Type 0 where
      pub meets : Meets e
      pub long : length e.after ≡ length e.before
      pub gets : Gets g words e

    pub fine : (r : Command) → Fine (answered g words r)
    fine (call c) = record { meets = meets_call g words z k c; long = length-left (call c); gets = record { geometry = refl; memory = refl; opening = λ x. x } }
    fine start = record { meets = meets_start g words z; long = length-left start; gets = record { geometry = refl; memory = refl; opening = λ x. x } }
    fine step = record { meets = meets_step g words z k; long = length-left step; gets = record { geometry = refl; memory = refl; opening = λ x. x } }
    fine (look q) = record { meets = (look_promise q, flat_mem_of g words z.is); long = length-left (look q); gets = record { geometry = refl; memory = refl; opening = λ x. x } }

    linked : (r : Command) (es : List Element) → Chain g (answered g words r).after es → Chain g words (answered g words r ∷ es)
    linked r es t = let f = fine r in (f.meets, f.long, inr f.gets, subst (λ (x : List ℕ). Chain g x es) (sym (ahead g words (answered g words r) f.meets f.gets)) t)

-- ---- lists of commands, from consistent memory on, where every answer keeps it

module _ (g : Geometry) (kept : (words : List ℕ) → Sized g (length words) → Consistent g (mem_of g words) → (r : Command) → Consistent g (mem_of g (answered g words r).after)) where
  pub own_run : (words : List ℕ) → Sized g (length words) → Consistent g (mem_of g words) → (rs : List Command) → Chain g words (run g words rs)
  own_run words z k [] = tt
  own_run words z k (r ∷ rs) = linked g words z k r (run g (answered g words r).after rs) (own_run (answered g words r).after (sized_left g words z r) (kept words z k r) rs)

-- the memory after a run
abbrev pub after_run : Geometry → List ℕ → List Command → List ℕ
after_run g words [] = words
after_run g words (r ∷ rs) = after_run g (answered g words r).after rs

pub sized_after : (g : Geometry) (words : List ℕ) → Sized g (length words) → (rs : List Command) → Sized g (length (after_run g words rs))
sized_after g words z [] = z
sized_after g words z (r ∷ rs) = sized_after g (answered g words r).after (sized_left g words z r) rs

pub run_append : (g : Geometry) (words : List ℕ) (xs ys : List Command) → run g words (xs ++ ys) ≡ run g words xs ++ run g (after_run g words xs) ys
run_append g words [] ys = refl
run_append g words (r ∷ xs) ys = ap (λ (es : List Element). answered g words r ∷ es) (run_append g (answered g words r).after xs ys)
