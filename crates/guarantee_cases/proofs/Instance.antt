-- The guarantee is not empty: document 01's whole case, over two segments of sevens, is a list as the guarantee speaks of.
use mathlib.Core.Path.{◌≡◌, refl, sym, ◌∙◌, ap}
use mathlib.Core.Logic.{inl}
use mathlib.Core.Bool.{Bool, true, false, true≢false}
use mathlib.Core.List.{List, [], ◌∷◌, ◌++◌, tail}
use Prim.Native.Nat.{ℕ, zero, suc, ◌+◌}
use native.Mathlib.Omega.{arith}
use lib.ListN.{take, drop, length-replicate}
use Rattle.std.specs.Prelude.{Ok}
use Rattle.basics.specs.Pick.{pick}
use Rattle.layout.specs.declared.Geometry.{Geometry}
use Rattle.layout.specs.Geometry.{len}
use Rattle.layout.specs.Mem.{mem_of, Sizes}
use Rattle.theory.specs.Calls.{c_check, a_ok, refusal, refuse}
use Rattle.theory.specs.Unbounded.{Unbounded, uexec, uobserve}
use Rattle.model.specs.declared.Step.{Step}
use Rattle.model.specs.declared.Step.TheVariants.{Swept, Done}
use Rattle.model.specs.Lists.{Event, mutator_call, start_call, step_call, opening_call, look_call, Element, start_element, step_element, Ghost, ghost_start, by_opening, ghost_after}
use Rattle.model.specs.Run.{Command}
use Rattle.model.specs.Fields.{tag}
use Rattle.model.specs.Opening.{opened}
use Rattle.guarantee.specs.Demand3.{struck_out, SweptIn}
use Rattle.guarantee.specs.Keeping.{EndedIn}
use Rattle.guarantee.proofs.Cycle.{cycle_of}
use Rattle.model_cases.specs.Replies.{Reply, replies, inputs, outputs, geometry, sevens}
use Rattle.model_cases.specs.Whole.{whole}
use Rattle.model_cases.proofs.Whole.{whole_holds}
use Rattle.guarantee_cases.specs.Instance.{Instance}
use Rattle.guarantee_cases.proofs.CaseRun.{commands_in, elements_of, CaseRun, memory_at, case_known}
use Rattle.guarantee_cases.proofs.GarbageFound.{Found, found}
use Rattle.layout.specs.Region as Region
use Rattle.model.specs.Tag as Tag
use Rattle.model.specs.declared.Answer.TheVariants as call_answer

-- the case after its opening: four records are made, of which the first names the second, a number is put into the second (6), and roots are
-- cleared, so that the third is garbage; a start (9) and its cycle up to the step that sweeps (19), a load and a get (22)
abbrev pub asked : List Command
asked = commands_in (inputs whole)

abbrev pub replied : List Reply
replied = tail (outputs whole)

-- ---- no start among the calls of the cycle

abbrev pub is_start : Event → Bool
is_start (mutator_call c r) = false
is_start (start_call r) = true
is_start (step_call r) = false
is_start (opening_call r) = false
is_start (look_call l) = false

-- whether a test holds of one of the events
abbrev pub any_of : (Event → Bool) → List Element → Bool
any_of t [] = false
any_of t (e ∷ es) = pick (t e.event) true (any_of t es)

pub has_any : (t : Event → Bool) (xs ys : List Element) (e : Element) → t e.event ≡ true → any_of t (xs ++ (e ∷ ys)) ≡ true
has_any t [] ys e h = ap (λ b. pick b true (any_of t ys)) h
has_any t (x ∷ xs) ys e h = go (t x.event) (has_any t xs ys e h)
  where
    go : (b : Bool) → any_of t (xs ++ (e ∷ ys)) ≡ true → pick b true (any_of t (xs ++ (e ∷ ys))) ≡ true
    go true q = refl
    go false q = q

abbrev pub any_start : List Element → Bool
any_start = any_of is_start

pub has_start : (g : Geometry) (xs ys : List Element) (u v : List ℕ) → any_start (xs ++ (start_element g u (Ok call_answer.Done) v ∷ ys)) ≡ true
has_start g xs ys u v = has_any is_start xs ys (start_element g u (Ok call_answer.Done) v) refl

-- ---- a cycle in a list: s calls, the start, d calls with no start among them, and a step; at n: the words before the n-th call

module _ (g : Geometry) (at : ℕ → List ℕ) (es : List Element) (s d : ℕ) where
  abbrev pub within : List Element
  within = take d (drop (1 + s) es)

  abbrev pub cut_at : Step → List Element
  cut_at r = take s es ++ (start_element g (at s) (Ok call_answer.Done) (at (1 + s)) ∷ (within ++ (step_element g (at (1 + s + d)) r (at (2 + s + d)) ∷ drop (2 + s + d) es)))

  pub one_start_lem : any_start within ≡ false → (xs ys : List Element) (u v : List ℕ) → within ≡ xs ++ (start_element g u (Ok call_answer.Done) v ∷ ys) → ⊥
  one_start_lem none xs ys u v e = true≢false (sym (has_start g xs ys u v) ∙ ap any_start (sym e) ∙ none)

  abbrev pub swept_at : (segment freed : ℕ) → es ≡ cut_at (Swept segment freed) → any_start within ≡ false → SweptIn g es
  swept_at segment freed whole none = record {
    before = take s es;
    during = within;
    rest = drop (2 + s + d) es;
    start_before = at s;
    start_after = at (1 + s);
    step_before = at (1 + s + d);
    step_after = at (2 + s + d);
    segment = segment;
    freed = freed;
    whole = whole;
    one_start = one_start_lem none;
  }

  abbrev pub ended_at : es ≡ cut_at Done → any_start within ≡ false → EndedIn g es
  ended_at whole none = record {
    before = take s es;
    during = within;
    rest = drop (2 + s + d) es;
    start_before = at s;
    start_after = at (1 + s);
    step_before = at (1 + s + d);
    step_after = at (2 + s + d);
    whole = whole;
    one_start = one_start_lem none;
  }

-- a check leaves the unbounded heap as it was
pub check_heap : (un : Unbounded) (k : ℕ) → (uexec un (c_check k)).1 ≡ un
check_heap un k = go (refusal (uobserve un) (c_check k))
  where
    go : (n : ℕ) → (refuse n un (a_ok, un)).1 ≡ un
    go zero = refl
    go (suc n) = refl

module _ (g : Geometry) (p : CaseRun g asked replied) (full : tag (mem_of g (p.at 9)) 0 ≡ Tag.full) where
  abbrev pub at : ℕ → List ℕ
  at = p.at

  abbrev pub elements : List Element
  elements = elements_of g at asked replied

  abbrev pub swept_in : SweptIn g elements
  swept_in = swept_at g at elements 9 9 0 1 refl refl

  still : (w : Ghost) → ghost_after struck_out w (take 9 (drop 10 elements)) ≡ w
  still w = λ i. record { heap = (check_heap (uexec w.heap (c_check 0)).1 0 ∙ check_heap w.heap 0) i; put = w.put }

  -- the sweep freed one block: it was garbage
  pub garbage : Found g (mem_of g (at 9)) (ghost_after struck_out ghost_start (take 9 elements)) 0
  garbage =
      found g (at 0) ghost_start elements swept_in (cycle_of g (at 0) ghost_start elements swept_in (by_opening p.opened) p.chain)
      (still (ghost_after struck_out ghost_start (take 9 elements))) 0 refl full

  abbrev pub case_from : Instance
  case_from = record {
    geometry = g;
    content = p.content;
    words = at 0;
    calls = elements;
    opened = p.opened;
    chain = p.chain;
    cycle = swept_in;
    full = full;
    block = garbage.block;
    unreached = garbage.unreached;
    used = garbage.used;
    mutator = 0;
    root = 1;
    field = 0;
    value = 77;
    not_zero = λ e. omega arith;
    early = take 6 elements;
    late = take 2 (drop 7 elements);
    put_before = at 6;
    put_after = at 7;
    puts = refl;
    gone = 2;
    clears = refl;
    checks = refl;
    between = take 2 (drop 20 elements);
    other = 0;
    link = 0;
    elsewhere = λ e. omega arith;
    reloads = refl;
    reloaded = refl;
    get_before = at 22;
    get_after = at 23;
    gets = refl;
  }

-- ---- segments of sevens

pub sizes_sevens : (g : Geometry) → Sizes g (sevens g)
sizes_sevens g = record {
  control = length-replicate {A = ℕ} (len g Region.control) 7;
  mutators = length-replicate {A = ℕ} (len g Region.mutators) 7;
  segments = length-replicate {A = ℕ} (len g Region.segments) 7;
  stacks = length-replicate {A = ℕ} (len g Region.stacks) 7;
  bitmaps = length-replicate {A = ℕ} (len g Region.bitmaps) 7;
  marks = length-replicate {A = ℕ} (len g Region.marks) 7;
  trace = length-replicate {A = ℕ} (len g Region.trace) 7;
  heap = length-replicate {A = ℕ} (len g Region.heap) 7;
}

known : (p : CaseRun (geometry 2) asked replied) × ((n : ℕ) → mem_of (geometry 2) (p.at n) ≡ memory_at (geometry 2) (opened (geometry 2) (sevens (geometry 2))) asked n)
known = case_known (geometry 2) (omega arith) (omega arith) (inl refl) (sevens (geometry 2)) (sizes_sevens (geometry 2)) asked replied whole_holds

pub whole_run : CaseRun (geometry 2) asked replied
whole_run = known.0

-- the segment is full at the start, by computing
pub full_then : tag (mem_of (geometry 2) (whole_run.at 9)) 0 ≡ Tag.full
unfolding replies whole_run
full_then = ap (λ x. tag x 0) (known.1 9)

abbrev pub whole_case : Instance
whole_case = case_from (geometry 2) whole_run full_then
