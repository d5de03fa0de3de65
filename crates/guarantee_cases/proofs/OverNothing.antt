-- The theorem of the cycle over no segments, applied to a computed case. That nothing is full or part at the start follows from the replies:
-- no step answers swept before done, and each such segment would have been swept.
use mathlib.Core.Path.{◌≡◌, refl, sym, ◌∙◌, ap}
use mathlib.Core.Logic.{inl}
use mathlib.Core.Bool.{Bool, true, false, true≢false}
use mathlib.Core.List.{List, [], ◌∷◌, tail}
use Prim.Native.Nat.{ℕ}
use native.Mathlib.Omega.{arith}
use lib.ListN.{length, take, drop}
use Rattle.std.specs.Prelude.{Ok, Err}
use Rattle.layout.specs.declared.Geometry.{Geometry}
use Rattle.layout.specs.Geometry.{blocks_in}
use Rattle.layout.specs.Mem.{Mem, mem_of}
use Rattle.layout.proofs.Regions.{right_size}
use Rattle.theory.specs.Phases.{Phase, mark, in_handshake}
use Rattle.theory.specs.Calls.{c_attach}
use Rattle.theory.proofs.Invariant.{none_some}
use Rattle.model.specs.declared.Answer.TheVariants.{Done}
use Rattle.model.specs.declared.Step.{Step}
use Rattle.model.specs.declared.Refusal.TheVariants.{NotNow}
use Rattle.model.specs.Fields.{trace_count, tag, class}
use Rattle.model.specs.Segments.{used_bit}
use Rattle.model.specs.Opening.{opened}
use Rattle.model.specs.Consistent.{BlockInUse}
use Rattle.model.specs.Collector.{full_or_part, collects}
use Rattle.model.specs.Lists.{Event, mutator_call, start_call, step_call, opening_call, look_call, Element, call_element, start_element, step_element, ghost_start, by_opening}
use Rattle.model.specs.Run.{Command}
use Rattle.model.proofs.Collecting.{collects_is}
use Rattle.guarantee.specs.Keeping.{Applied, EndedIn}
use Rattle.guarantee.specs.EmptyCycle.{OverNothing, StepsIn, moves, empties}
use Rattle.guarantee.proofs.Beginning.{opened_point}
use Rattle.guarantee.proofs.SweptOnce.{swept_once}
use Rattle.guarantee.proofs.EmptyCycle.{empty_cycle, idle_accepts}
use Rattle.model_cases.specs.Replies.{Reply, replies, inputs, outputs, Holds, geometry, sevens}
use Rattle.guarantee_cases.specs.OverNothing.{over_nothing, OfOverNothing}
use Rattle.guarantee_cases.proofs.CaseRun.{commands_in, elements_of, CaseRun, memory_at, case_known}
use Rattle.guarantee_cases.proofs.Instance.{any_of, has_any, any_start, has_start, ended_at, sizes_sevens}
use Rattle.guarantee_cases.proofs.Along.{applied_to, chain_to, along}
use Rattle.model.specs.declared.Step.TheVariants as step_answer
use Rattle.model.specs.Tag as Tag

pub nothing_holds : Holds 1 over_nothing
unfolding replies
nothing_holds = refl

abbrev asked : List Command
asked = commands_in (inputs over_nothing)

abbrev replied : List Reply
replied = tail (outputs over_nothing)

-- ---- no sweep among the calls

abbrev is_swept : Step → Bool
is_swept (step_answer.Waiting n) = false
is_swept step_answer.Moved = false
is_swept step_answer.Traced = false
is_swept (step_answer.Swept s f) = true
is_swept step_answer.Done = false
is_swept step_answer.Idle = false
is_swept (step_answer.Refused n) = false

abbrev sweeps_in : Event → Bool
sweeps_in (mutator_call c r) = false
sweeps_in (start_call r) = false
sweeps_in (step_call r) = is_swept r
sweeps_in (opening_call r) = false
sweeps_in (look_call l) = false

-- moved in mark: the trace stack is empty
by_mark : (m : Mem) (p : Phase) → p ≡ mark → StepsIn m p step_answer.Moved → trace_count m ≡ 0
by_mark m p e (moves t f) = absurd (true≢false (sym t ∙ ap in_handshake e))
by_mark m mark e (empties q) = q

-- ---- the case: its start (5), the attach (7), done (22)

module _ (g : Geometry) (p : CaseRun g asked replied) (used : BlockInUse g (mem_of g (p.at 5)) 0 1) where
  abbrev at : ℕ → List ℕ
  at = p.at

  abbrev elements : List Element
  elements = elements_of g at asked replied

  abbrev begin : Element
  begin = start_element g (at 5) (Ok Done) (at 6)

  first : Applied g (at 5) begin
  first = applied_to g (at 0) ghost_start elements (by_opening p.opened) p.chain (take 5 elements) (drop 6 elements) begin refl (λ e. none_some e)

  -- the step that ends the marking (20)
  abbrev third : Element
  third = step_element g (at 20) step_answer.Moved (at 21)

  third_applied : Applied g (at 20) third
  third_applied = applied_to g (at 0) ghost_start elements (by_opening p.opened) p.chain (take 20 elements) (drop 21 elements) third refl (λ e. none_some e)

  abbrev ended : EndedIn g elements
  ended = ended_at g at elements 5 16 refl refl

  none_such : (s : ℕ) → full_or_part (mem_of g (at 5)) s ≡ true → collects (mem_of g (at 5)) s ≡ false
  none_such s t =
      let o = opened_point g p.content (at 0) p.opened in
      let x = swept_once g (at 0) elements (right_size g (length (at 0)) o.long) o.consistent p.chain ended s t in
      absurd (true≢false (sym (has_any sweeps_in x.earlier x.later (step_element g x.step_before (step_answer.Swept s x.freed) x.step_after) refl) ∙ ap (any_of sweeps_in) (sym x.whole)))

  over : OverNothing g (at 5) (at 6) (drop 6 elements)
  over = record {
    sized = first.sized;
    consistent = first.consistent;
    nothing = λ s l. go s (full_or_part (mem_of g (at 5)) s) refl;
    chain = chain_to g (at 0) ghost_start elements (by_opening p.opened) p.chain (take 5 elements) (drop 6 elements) begin refl (λ e. none_some e);
    one_start = λ xs ys u v e. true≢false (sym (has_start g xs ys u v) ∙ ap any_start (sym e));
  }
    where
      go : (s : ℕ) (b : Bool) → full_or_part (mem_of g (at 5)) s ≡ b → collects (mem_of g (at 5)) s ≡ false
      go s true e = none_such s e
      go s false e = collects_is (mem_of g (at 5)) s ∙ e

  of_nothing : OfOverNothing
  of_nothing = let c = empty_cycle g (at 5) (at 6) (drop 6 elements) over in record {
    geometry = g;
    content = p.content;
    words = at 0;
    calls = elements;
    opened = p.opened;
    chain = p.chain;
    along = along g (at 0) ghost_start elements (by_opening p.opened) p.chain;
    remaining = refl;
    answers = refl;
    before = take 5 elements;
    during = drop 6 elements;
    start_before = at 5;
    start_after = at 6;
    starts = refl;
    over = over;
    opens = c.opens.1;
    accepted = λ r after q. idle_accepts g (at 5) after r first.sized first.consistent c.opens.0 q;
    to_sweep = take 14 (drop 6 elements);
    from_sweep = drop 21 elements;
    move_before = at 20;
    move_after = at 21;
    moved = refl;
    in_mark = c.phases (take 14 (drop 6 elements)) (drop 20 elements) refl;
    emptied =
        by_mark _ _ (c.phases (take 14 (drop 6 elements)) (drop 20 elements) refl)
        (c.steps (take 14 (drop 6 elements)) (drop 21 elements) third step_answer.Moved refl refl third_applied.sized);
    to_done = take 16 (drop 6 elements);
    rest = drop 23 elements;
    step_before = at 22;
    step_after = at 23;
    done = refl;
    in_sweep = c.phases (take 16 (drop 6 elements)) (drop 22 elements) refl;
    no_swept = c.no_swept;
    used = used;
    kept = (c.frees [] (begin ∷ drop 6 elements) [] refl).blocks 0 1 used;
    compared = refl;
    in_list = refl;
    in_idle = sym c.as_in_idle;
    early = take 1 (drop 6 elements);
    late = drop 8 elements;
    attach_before = at 7;
    attach_after = at 8;
    refused = refl;
    handshake = c.not_now (take 1 (drop 6 elements)) (drop 8 elements) (call_element (c_attach 1) g (at 7) (Err NotNow) (at 8)) (c_attach 1) (Err NotNow) refl refl refl;
  }

-- ---- over one segment of sevens

known : (p : CaseRun (geometry 1) asked replied) × ((n : ℕ) → mem_of (geometry 1) (p.at n) ≡ memory_at (geometry 1) (opened (geometry 1) (sevens (geometry 1))) asked n)
known = case_known (geometry 1) (omega arith) (omega arith) (inl refl) (sevens (geometry 1)) (sizes_sevens (geometry 1)) asked replied nothing_holds

-- the dropped record's block, by computing
block_used : (m : Mem) → m ≡ memory_at (geometry 1) (opened (geometry 1) (sevens (geometry 1))) asked 5 → BlockInUse (geometry 1) m 0 1
unfolding replies
block_used m e =
    let t : tag m 0 ≡ Tag.held = ap (λ x. tag x 0) e in
    let n : blocks_in (geometry 1) (class m 0) ≡ 8 = ap (λ x. blocks_in (geometry 1) (class x 0)) e in
    record { used = λ q. omega arith; within = omega arith; block = ap (λ x. used_bit (geometry 1) x 0 1) e }

pub nothing_consequences : OfOverNothing
nothing_consequences = of_nothing (geometry 1) known.0 (block_used (mem_of (geometry 1) (known.0.at 5)) (known.1 5))
