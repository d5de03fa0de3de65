-- How long a cycle can be: the theorem, and that every start that is not refused begins such a cycle.
use mathlib.Core.Path.{◌≡◌, refl, sym, ◌∙◌, ap, subst}
use mathlib.Core.Bool.{true, false}
use mathlib.Core.Option.{some}
use mathlib.Core.List.{List, [], ◌∷◌, ◌++◌}
use Prim.Native.Nat.{ℕ}
use native.Mathlib.Omega.{arith}
use lib.ListN.{length}
use Rattle.std.specs.Prelude.{Ok}
use Rattle.layout.specs.declared.Geometry.{Geometry}
use Rattle.layout.specs.Geometry.{wrong_size}
use Rattle.layout.specs.Mem.{Mem, mem_of}
use Rattle.layout.proofs.Regions.{sized, right_size}
use Rattle.theory.specs.Phases.{idle, sync1, in_handshake}
use Rattle.model.specs.declared.Step.{Step}
use Rattle.model.specs.declared.Step.TheVariants.{Waiting, Moved, Traced, Swept, Done, Idle}
use Rattle.model.specs.Fields.{phase}
use Rattle.model.specs.Consistent.{Consistent}
use Rattle.model.specs.Lists.{Event, start_call, step_call, Element, start_element, wrong_sized, event_number, next_words, Chain, words_after}
use Rattle.model_laws.proofs.Lengths.{sizes_of}
use Rattle.refine_run.proofs.Elements.{ahead}
use Rattle.guarantee.specs.Elements.{Acts}
use Rattle.guarantee.proofs.AllRefine.{all_refine}
use Rattle.guarantee.proofs.Elements.{every_element, not_refused}
use Rattle.guarantee.proofs.Cycle.{accepted}
use Rattle.guarantee.proofs.SweptOnce.{ConsistentWords, walk_consistent}
use Rattle.guarantee.proofs.Beginning.{first_point}
use Rattle.cycle_bound.specs.StepsLeft.{counted_at}
use Rattle.cycle_bound.specs.CycleBound.{at_mark, DoneLast, InCycle, BelongsTo, WaitsFor, NobodyOwes, EveryCycle, EveryStartBegins}
use Rattle.cycle_bound.proofs.Advancing.{Advances, quiet, moves, traces, sweeps, ends}
use Rattle.cycle_bound.proofs.Waiting.{waits_only}
use Rattle.cycle_bound.proofs.Along.{lent, step_promise, Inside, awake, advance, inside_walk}
use Rattle.cycle_bound.proofs.Bounding.{still_is, from_sync1}
use Rattle.cycle_bound.proofs.TracedOnce.{belongs_at, distinct_at}
use Rattle.model.specs.declared.Answer.TheVariants as call_answer

module _ (g : Geometry) where
  -- ---- the start

  record Begun (words after : List ℕ) (ds : List Element) : Type 0 where
    first : phase (mem_of g after) ≡ sync1
    inside : Inside g after ds

  begun : (words after : List ℕ) (ds : List Element) → InCycle g words after ds → Begun words after ds
  begun words after ds p =
      let m : Mem = mem_of g words in
      let e : Element = start_element g words (Ok call_answer.Done) after in
      let c = p.chain in
      let w : next_words words e ≡ after = ahead g words e c.0 (not_refused g words e c.0 refl c.2) in
      let o = every_element g words e p.sized p.consistent c.0 c.1 c.2 in
      let a = accepted g m _ o.acts in
      let f : phase (mem_of g after) ≡ sync1 =
      ap (λ x. phase (mem_of g x)) (sym w) ∙ ap phase a.1 ∙ (all_refine.starts g m (sizes_of g words (sized g (length words) p.sized)) p.consistent a.0).agree.phase in
      record {
        first = f;
        inside = record {
          right = subst (λ x. wrong_size g (length x) ≡ false) w o.sized;
          consistent = subst (λ x. Consistent g (mem_of g x)) w o.consistent;
          chain = subst (λ x. Chain g x ds) w c.3;
          done_last = p.done_last;
          over = λ q. absurd (let x : sync1 ≡ idle = sym f ∙ q in let y : ◌≡◌ {A = ℕ} 0 1 = cc in omega arith);
        };
      }

  -- ---- one element

  no_idle : (m m' : Mem) (v : Event) → Advances g m m' v → v ≡ step_call Idle → ⊥
  no_idle m m' v (quiet n p c w) q = let x = ap counted_at q in omega arith
  no_idle m m' v (moves i f p c) q = let x : step_call Moved ≡ step_call Idle = sym i ∙ q in let y : ◌≡◌ {A = ℕ} 0 1 = cc in omega arith
  no_idle m m' v (traces i t c) q = let x : step_call Traced ≡ step_call Idle = sym i ∙ q in let y : ◌≡◌ {A = ℕ} 0 1 = cc in omega arith
  no_idle m m' v (sweeps s f i p h c) q = let x : step_call (Swept s f) ≡ step_call Idle = sym i ∙ q in let y : ◌≡◌ {A = ℕ} 0 1 = cc in omega arith
  no_idle m m' v (ends i p h) q = let x : step_call Done ≡ step_call Idle = sym i ∙ q in let y : ◌≡◌ {A = ℕ} 0 1 = cc in omega arith

  module _ (words : List ℕ) (e : Element) (ys : List Element) (i : Inside g words (e ∷ ys)) where
    one_cycle_lem : (e.event ≡ step_call Idle → ⊥) × (e.event ≡ start_call (Ok call_answer.Done) → ⊥)
    one_cycle_lem = (no_idle (mem_of g words) (mem_of g (next_words words e)) e.event (advance g words e ys i), no_start_lem)
      where
        no_start_lem : e.event ≡ start_call (Ok call_answer.Done) → ⊥
        no_start_lem q =
            let o = every_element g words e i.right i.consistent i.chain.0 i.chain.1 i.chain.2 in
            awake g words e ys i (accepted g (mem_of g words) _ (subst (Acts g (mem_of g words) (mem_of g (next_words words e))) q o.acts)).0

    waits_here : (n : ℕ) → e.event ≡ step_call (Waiting n) → WaitsFor (mem_of g e.before) n
    waits_here n q =
        let h = not_refused g words e i.chain.0 (ap event_number q) i.chain.2 in
        subst (λ x. WaitsFor (mem_of g x) n) (sym h.memory) (waits_only.waits g words e.after n i.right i.consistent (step_promise g words e (Waiting n) q i.chain.0 h))

    moves_here : (r : Step) → e.event ≡ step_call r → wrong_sized e ≡ false → in_handshake (phase (mem_of g e.before)) ≡ true → NobodyOwes (mem_of g e.before) → r ≡ Moved
    moves_here r q w t f =
        let h = lent g words e w i.chain.2 in
        waits_only.moves g words e.after r i.right i.consistent (step_promise g words e r q i.chain.0 h)
        (subst (λ x. in_handshake (phase (mem_of g x)) ≡ true) h.memory t) (subst (λ x. NobodyOwes (mem_of g x)) h.memory f)

-- ---- the theorem

pub every_cycle : EveryCycle
every_cycle g words after ds p =
    let b = begun g words after ds p in
    let i = b.inside in
    let n = from_sync1 g ds after i b.first in
    let at : (xs ys : List Element) → ds ≡ xs ++ ys → Inside g (words_after after xs) ys = λ xs ys q. inside_walk g xs ys after (subst (Inside g after) q i) in
    record {
      bound = omega arith;
      unfinished = λ f. let x = still_is (phase (mem_of g (words_after after ds))) f in omega arith;
      one_cycle = λ xs ys e q. one_cycle_lem g (words_after after xs) e ys (at xs (e ∷ ys) q);
      belongs = λ xs ys e q v.
          subst (λ l. (became : Mem) × (at_mark g after l ≡ some became) × BelongsTo g became (mem_of g e.before) (mem_of g e.after)) (sym q)
          (belongs_at g xs ys e after (subst (Inside g after) q i) v);
      distinct = λ xs ys zs d e q u v. distinct_at g xs ys zs d e after (subst (Inside g after) q i) u v;
      waits = λ xs ys e n q v. waits_here g (words_after after xs) e ys (at xs (e ∷ ys) q) n v;
      moves = λ xs ys e r q v. moves_here g (words_after after xs) e ys (at xs (e ∷ ys) q) r v;
    }

-- ---- every start begins one

-- the first part of a list of calls is one
first_part : (g : Geometry) (xs ys : List Element) (words : List ℕ) → Chain g words (xs ++ ys) → Chain g words xs
first_part g [] ys words c = tt
first_part g (e ∷ xs) ys words c = (c.0, c.1, c.2, first_part g xs ys (next_words words e) c.3)

begins_there : (g : Geometry) (words : List ℕ) (es xs ds ys : List Element) (u v : List ℕ) → wrong_size g (length words) ≡ false → Consistent g (mem_of g words)
    → Chain g words es → es ≡ xs ++ (start_element g u (Ok call_answer.Done) v ∷ (ds ++ ys)) → DoneLast ds → InCycle g u v ds
begins_there g words es xs ds ys u v right k c q d =
    let s : Element = start_element g u (Ok call_answer.Done) v in
    let w : List ℕ = words_after words xs in
    let a = walk_consistent g xs (s ∷ (ds ++ ys)) words (record { right = right; consistent = k }) (subst (Chain g words) q c) in
    let h = not_refused g w s a.1.0 refl a.1.2 in
    let b = subst (λ x. ConsistentWords g x × Chain g x (s ∷ (ds ++ ys))) (sym h.memory) a in
    record { sized = b.0.right; consistent = b.0.consistent; chain = first_part g (s ∷ ds) ys u b.1; done_last = d }

pub every_start_begins : EveryStartBegins
every_start_begins = record {
  anywhere = begins_there;
  from_opening = λ g words w es xs ds ys u v o.
      let p = first_point g words w o in begins_there g words es xs ds ys u v (right_size g (length words) p.long) p.consistent;
}
