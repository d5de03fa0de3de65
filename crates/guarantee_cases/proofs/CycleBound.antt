-- The theorem of request No. 7, applied to five computed cases. How many steps are counted is computed from the answers, and B and C from the memory
-- at the points of the case; that the steps are at most B + C + 4, with all that is said of such a cycle, is what the theorem says.
use mathlib.Core.Path.{◌≡◌, refl, sym, ◌∙◌, ap, subst}
use mathlib.Core.Logic.{◌⊎◌, inl}
use mathlib.Core.Bool.{Bool, true, false, ◌&&◌, true≢false}
use mathlib.Core.Option.{Option, none, some}
use mathlib.Core.List.{List, [], ◌∷◌, ◌++◌, tail}
use Prim.Native.Nat.{ℕ, zero, suc, ◌≤◌}
use native.Mathlib.Omega.{arith}
use lib.Dec.{eqb}
use lib.ListN.{take, drop}
use borrow.Author.Tests.{eqb-true}
use Rattle.std.specs.Prelude.{Ok}
use Rattle.basics.specs.Pick.{pick}
use Rattle.layout.specs.declared.Geometry.{Geometry}
use Rattle.layout.specs.Geometry.{max_segments, small_kib, large_kib}
use Rattle.layout.specs.Mem.{Mem, mem_of}
use Rattle.model.specs.declared.Step.{Step}
use Rattle.model.specs.declared.Step.TheVariants.{Waiting, Moved, Traced, Swept, Done, Idle, Refused}
use Rattle.model.specs.Fields.{phase, tag}
use Rattle.model.specs.Opening.{opened}
use Rattle.model.specs.Lists.{Event, mutator_call, start_call, step_call, opening_call, look_call, Element, start_element, Meets, wrong_sized, number_of, next_words, Chain}
use Rattle.model.specs.Lists.{ghost_start, by_opening, remaining_calls, remaining_answers}
use Rattle.model.specs.Run.{Command}
use Rattle.refine_run.proofs.Elements.{ahead}
use Rattle.guarantee.specs.Demand3.{struck_out}
use Rattle.guarantee.specs.Totals.{sum_over, blocks_in_use}
use Rattle.guarantee.proofs.OnlyNumbers.{size_exactly_lem}
use Rattle.guarantee.proofs.Elements.{not_refused}
use Rattle.cycle_bound.specs.StepsLeft.{counted, condemned_in}
use Rattle.cycle_bound.specs.CycleBound.{or_later, at_mark, used_in, used_at_mark, DoneLast, InCycle}
use Rattle.cycle_bound.proofs.CycleBound.{every_cycle, every_start_begins}
use Rattle.model_cases.specs.Replies.{Reply, does, replies, opening, Line, outputs, Holds, geometry, sevens, ok}
use Rattle.model_cases.specs.Whole.{whole}
use Rattle.model_cases.proofs.Whole.{whole_holds}
use Rattle.guarantee_cases.specs.Columns.{left_column, right_column}
use Rattle.guarantee_cases.specs.OverNothing.{over_nothing}
use Rattle.guarantee_cases.specs.RefusedStand.{refused_step, leaving}
use Rattle.guarantee_cases.specs.CycleBound.{reaching, over_part, made_meanwhile, steps_in, OfCycleBound, CyclesOfCases}
use Rattle.guarantee_cases.proofs.CaseRun.{input_of, inputs_of, asked, elements_of, CaseRun, memory_at, case_known}
use Rattle.guarantee_cases.proofs.Instance.{sizes_sevens}
use Rattle.guarantee_cases.proofs.OverNothing.{nothing_holds}
use Rattle.guarantee_cases.proofs.RefusedStand.{no_count, refused_stand}
use Rattle.model.specs.Tag as Tag
use Rattle.model.specs.declared.Answer.TheVariants as call_answer

-- ---- "up to and including done"

abbrev is_done : Event → Bool
is_done (mutator_call c r) = false
is_done (start_call r) = false
is_done (step_call (Waiting n)) = false
is_done (step_call Moved) = false
is_done (step_call Traced) = false
is_done (step_call (Swept s f)) = false
is_done (step_call Done) = true
is_done (step_call Idle) = false
is_done (step_call (Refused n)) = false
is_done (opening_call r) = false
is_done (look_call l) = false

abbrev has_more : List Element → Bool
has_more [] = false
has_more (e ∷ es) = true

-- whether a call follows a done
abbrev done_inside : List Element → Bool
done_inside [] = false
done_inside (e ∷ es) = pick (is_done e.event && has_more es) true (done_inside es)

done_inside_lem : (xs ys : List Element) (e d : Element) → e.event ≡ step_call Done → done_inside (xs ++ (e ∷ (d ∷ ys))) ≡ true
done_inside_lem [] ys e d i = ap (λ v. pick (is_done v && true) true (done_inside (d ∷ ys))) i
done_inside_lem (x ∷ xs) ys e d i = go (is_done x.event && has_more (xs ++ (e ∷ (d ∷ ys)))) (done_inside_lem xs ys e d i)
  where
    go : (b : Bool) → done_inside (xs ++ (e ∷ (d ∷ ys))) ≡ true → pick b true (done_inside (xs ++ (e ∷ (d ∷ ys)))) ≡ true
    go true q = refl
    go false q = q

pub done_last : (ds : List Element) → done_inside ds ≡ false → DoneLast ds
done_last ds f xs [] e i j = refl
done_last ds f xs (d ∷ ys) e i j = absurd (true≢false (sym (done_inside_lem xs ys e d j) ∙ ap done_inside (sym i) ∙ f))

-- ---- the words along a list, by the numbers of its refusals

abbrev is_one : Option ℕ → Bool
is_one none = false
is_one (some n) = eqb n 1

is_one_lem : (o : Option ℕ) → is_one o ≡ true → o ≡ some 1
is_one_lem none f = absurd (true≢false (sym f))
is_one_lem (some n) f = ap some (eqb-true n 1 f)

-- of a wrong size is what is refused 1
wrong_one : (e : Element) → Meets e → wrong_sized e ≡ is_one (number_of e)
wrong_one e q = go (wrong_sized e) refl (is_one (number_of e)) refl
  where
    go : (a : Bool) → wrong_sized e ≡ a → (b : Bool) → is_one (number_of e) ≡ b → a ≡ b
    go true t b i = sym (ap is_one ((size_exactly_lem e q).whenever t)) ∙ i
    go false t true i = absurd (true≢false (sym ((size_exactly_lem e q).only (is_one_lem (number_of e) i)) ∙ t))
    go false t false i = refl

module _ (g : Geometry) where
  -- one element more
  chain_with : (e : Element) (ys : List Element) → ((u : List ℕ) → Chain g u ys → Chain g u (e ∷ ys)) → (xs : List Element) (words : List ℕ) → Chain g words (xs ++ ys)
      → Chain g words (xs ++ (e ∷ ys))
  chain_with e ys f [] words c = f words c
  chain_with e ys f (x ∷ xs) words c = (c.0, c.1, c.2, chain_with e ys f xs (next_words words x) c.3)

  -- `at_mark` by those numbers
  abbrev mark_of : List ℕ → List Element → Option Mem
  mark_of words [] = or_later (phase (mem_of g words)) (mem_of g words) none
  mark_of words (e ∷ es) = or_later (phase (mem_of g words)) (mem_of g words) (mark_of (pick (is_one (number_of e)) words e.after) es)

  mark_of_lem : (es : List Element) (words : List ℕ) → Chain g words es → at_mark g words es ≡ mark_of words es
  mark_of_lem [] words c = refl
  mark_of_lem (e ∷ es) words c =
      let n = ap (λ b. mark_of (pick b words e.after) es) (wrong_one e c.0) in
      ap (or_later (phase (mem_of g words)) (mem_of g words)) (mark_of_lem es (next_words words e) c.3 ∙ n)

-- ---- a case over segments of sevens, with the memory at each of its points

abbrev pub replied : List Line → List Reply
replied ls = tail (outputs ls)

-- the memories before the first command, before the second, and so on: computed once for all points
abbrev memories : Geometry → Mem → List Command → List Mem
memories g m [] = m ∷ []
memories g m (r ∷ rs) = m ∷ memories g (does g m (input_of r)).1 rs

abbrev pub memories_of : Geometry → List Line → List Mem
memories_of g ls = memories g (opened g (sevens g)) (asked ls)

-- the n-th of them; past the end the last, which is x where there is none
abbrev pub nth : Mem → List Mem → ℕ → Mem
nth x [] n = x
nth x (m ∷ ms) zero = m
nth x (m ∷ ms) (suc n) = nth m ms n

nth_is : (g : Geometry) (x m : Mem) (rs : List Command) (n : ℕ) → memory_at g m rs n ≡ nth x (memories g m rs) n
nth_is g x m [] zero = refl
nth_is g x m [] (suc n) = refl
nth_is g x m (r ∷ rs) zero = refl
nth_is g x m (r ∷ rs) (suc n) = nth_is g m (does g m (input_of r)).1 rs n

abbrev pub Known : Geometry → List Line → Type 0
Known g ls = (p : CaseRun g (asked ls) (replied ls)) × ((n : ℕ) → mem_of g (p.at n) ≡ nth (sevens g) (memories_of g ls) n)

pub known : (g : Geometry) (ls : List Line) → 1 ≤ g.segments → g.segments ≤ max_segments → (g.kib ≡ small_kib) ⊎ (g.kib ≡ large_kib)
    → replies g (sevens g) (opening ∷ inputs_of (asked ls)) ≡ ok ∷ replied ls → Known g ls
known g ls l h z told =
    let k = case_known g l h z (sevens g) (sizes_sevens g) (asked ls) (replied ls) told in
    (k.0, λ i. k.1 i ∙ nth_is g (sevens g) (opened g (sevens g)) (asked ls) i)

abbrev pub elements : (g : Geometry) (ls : List Line) → Known g ls → List Element
elements g ls k = elements_of g k.0.at (asked ls) (replied ls)

-- its calls, perhaps with others between them: so many before the start, and so many after it, up to done
pub record Case : Type 0 where
  pub geometry : Geometry
  pub lines : List Line
  pub known : Known geometry lines
  pub calls : List Element
  pub chain : Chain geometry (known.0.at 0) calls
  pub early : ℕ
  pub long : ℕ

-- those of the case alone
abbrev pub alone : (g : Geometry) (ls : List Line) → Known g ls → (early long : ℕ) → Case
alone g ls k s d = record { geometry = g; lines = ls; known = k; calls = elements g ls k; chain = k.0.chain; early = s; long = d }

-- the points of a list, from the n-th on: after a call refused 1 it is the same
abbrev points_of : ℕ → List Element → List ℕ
points_of n [] = n ∷ []
points_of n (e ∷ es) = n ∷ points_of (pick (is_one (number_of e)) n (suc n)) es

abbrev mark_at : (ℕ → Mem) → List ℕ → Option Mem
mark_at f [] = none
mark_at f (n ∷ ns) = or_later (phase (f n)) (f n) (mark_at f ns)

module _ (x : Case) where
  abbrev g : Geometry
  g = x.geometry

  abbrev at : ℕ → List ℕ
  at = x.known.0.at

  abbrev start_before : List ℕ
  start_before = at x.early

  abbrev start_after : List ℕ
  start_after = at (suc x.early)

  abbrev begin : Element
  begin = start_element g start_before (Ok call_answer.Done) start_after

  abbrev before : List Element
  before = take x.early x.calls

  abbrev during : List Element
  during = take x.long (drop (suc x.early) x.calls)

  abbrev rest : List Element
  rest = drop x.long (drop (suc x.early) x.calls)

  abbrev points : List ℕ
  points = points_of (suc x.early) during

  -- B and C, by the memories
  abbrev pub both : List Mem → ℕ × ℕ
  both ms = (used_in g (mark_at (nth (sevens g) ms) points), condemned_in g (nth (sevens g) ms (suc x.early)))

  module _ (cut : x.calls ≡ before ++ (begin ∷ (during ++ rest))) where
    pub in_cycle_lem : DoneLast during → InCycle g start_before start_after during
    in_cycle_lem last =
        every_start_begins.from_opening g (at 0) ghost_start x.calls before during rest start_before start_after (by_opening x.known.0.opened) x.chain cut last

    pub used_is : InCycle g start_before start_after during → mark_of g start_after during ≡ mark_at (λ n. mem_of g (at n)) points
        → used_at_mark g start_after during ≡ (both (memories_of g x.lines)).0
    used_is i e =
        let c = i.chain in
        let n : next_words start_before begin ≡ start_after = ahead g start_before begin c.0 (not_refused g start_before begin c.0 refl c.2) in
        ap (used_in g) (mark_of_lem g during start_after (subst (λ u. Chain g u during) n c.3) ∙ e ∙ λ j. mark_at (λ n. x.known.1 n j) points)

    abbrev pub of_cycle : {rs : List Step} {n B C : ℕ} → remaining_calls struck_out x.calls ≡ left_column x.lines → remaining_answers struck_out x.calls ≡ right_column x.lines
        → done_inside during ≡ false → mark_of g start_after during ≡ mark_at (λ n. mem_of g (at n)) points → steps_in during ≡ rs → counted during ≡ n
        → both (memories_of g x.lines) ≡ (B, C) → OfCycleBound x.lines rs n B C
    of_cycle l r last marks answers steps e =
        let i : InCycle g start_before start_after during = in_cycle_lem (done_last during last) in
        record {
          geometry = g;
          content = x.known.0.content;
          words = at 0;
          calls = x.calls;
          opened = x.known.0.opened;
          chain = x.chain;
          left = l;
          right = r;
          before = before;
          during = during;
          rest = rest;
          start_before = start_before;
          start_after = start_after;
          cut = cut;
          in_cycle = i;
          answers = answers;
          steps = steps;
          used = used_is i marks ∙ ap (λ p. p.0) e;
          condemned = ap (condemned_in g) (x.known.1 (suc x.early)) ∙ ap (λ p. p.1) e;
          bound = every_cycle g start_before start_after during i;
        }

-- ---- the five cases

reaching_holds : Holds 1 reaching
unfolding replies
reaching_holds = refl

part_holds : Holds 1 over_part
unfolding replies
part_holds = refl

meanwhile_holds : Holds 1 made_meanwhile
unfolding replies
meanwhile_holds = refl

whole_known : Known (geometry 2) whole
whole_known = known (geometry 2) whole (omega arith) (omega arith) (inl refl) whole_holds

reaching_known : Known (geometry 1) reaching
reaching_known = known (geometry 1) reaching (omega arith) (omega arith) (inl refl) reaching_holds

nothing_known : Known (geometry 1) over_nothing
nothing_known = known (geometry 1) over_nothing (omega arith) (omega arith) (inl refl) nothing_holds

part_known : Known (geometry 1) over_part
part_known = known (geometry 1) over_part (omega arith) (omega arith) (inl refl) part_holds

meanwhile_known : Known (geometry 1) made_meanwhile
meanwhile_known = known (geometry 1) made_meanwhile (omega arith) (omega arith) (inl refl) meanwhile_holds

-- a step refused 1 behind the first one that waits: 257 segments and no word
abbrev a_step : Element
a_step = leaving (geometry 257) [] (step_call (Refused 1))

abbrev reaching_calls : List Element
reaching_calls = elements (geometry 1) reaching reaching_known

refused_chain : Chain (geometry 1) (reaching_known.0.at 0) (take 5 reaching_calls ++ (a_step ∷ drop 5 reaching_calls))
refused_chain =
    chain_with (geometry 1) a_step (drop 5 reaching_calls) (λ u c. refused_stand.stands (geometry 1) u (drop 5 reaching_calls) c (geometry 257) [] no_count _ refused_step)
    (take 5 reaching_calls) (reaching_known.0.at 0) reaching_known.0.chain

abbrev whole_case : Case
whole_case = alone (geometry 2) whole whole_known 9 11

abbrev reaching_case : Case
reaching_case = record {
  geometry = geometry 1;
  lines = reaching;
  known = reaching_known;
  calls = take 5 reaching_calls ++ (a_step ∷ drop 5 reaching_calls);
  chain = refused_chain;
  early = 3;
  long = 12;
}

abbrev nothing_case : Case
nothing_case = alone (geometry 1) over_nothing nothing_known 5 17

abbrev part_case : Case
part_case = alone (geometry 1) over_part part_known 4 8

abbrev meanwhile_case : Case
meanwhile_case = alone (geometry 1) made_meanwhile meanwhile_known 2 11

-- ---- B and C, by computing

-- blocks in use before and after the start of the last case
abbrev used_around : List Mem → ℕ × ℕ
used_around ms = (blocks_in_use (geometry 1) (nth (sevens (geometry 1)) ms 2), blocks_in_use (geometry 1) (nth (sevens (geometry 1)) ms 3))

record Computed : Type 0 where
  whole : both whole_case (memories_of (geometry 2) whole) ≡ (4, 1)
  reaching : both reaching_case (memories_of (geometry 1) reaching) ≡ (2, 1)
  nothing : both nothing_case (memories_of (geometry 1) over_nothing) ≡ (4, 0)
  part : both part_case (memories_of (geometry 1) over_part) ≡ (1, 1)
  was_part : tag (nth (sevens (geometry 1)) (memories_of (geometry 1) over_part) 4) 0 ≡ Tag.part
  meanwhile : both meanwhile_case (memories_of (geometry 1) made_meanwhile) ≡ (3, 0)
  around : used_around (memories_of (geometry 1) made_meanwhile) ≡ (1, 1)

computed : Computed
unfolding replies sum_over
computed = record { whole = refl; reaching = refl; nothing = refl; part = refl; was_part = refl; meanwhile = refl; around = refl }

pub cycles_of_cases : CyclesOfCases
cycles_of_cases =
    let u = ap (blocks_in_use (geometry 1)) (meanwhile_known.1 2) ∙ ap (λ p. p.0) computed.around in
    let v = ap (blocks_in_use (geometry 1)) (meanwhile_known.1 3) ∙ ap (λ p. p.1) computed.around in
    let c = ap (condemned_in (geometry 1)) (meanwhile_known.1 3) ∙ ap (λ p. p.1) computed.meanwhile in
    record {
      of_whole = of_cycle whole_case refl refl refl refl refl refl refl computed.whole;
      of_reaching = of_cycle reaching_case refl refl refl refl refl refl refl computed.reaching;
      all_steps = omega arith;
      of_nothing = of_cycle nothing_case refl refl refl refl refl refl refl computed.nothing;
      of_part = of_cycle part_case refl refl refl refl refl refl refl computed.part;
      was_part = ap (λ m. tag m 0) (part_known.1 4) ∙ computed.was_part;
      of_meanwhile = of_cycle meanwhile_case refl refl refl refl refl refl refl computed.meanwhile;
      at_start = (u, v);
      exceeds = omega arith;
    }
