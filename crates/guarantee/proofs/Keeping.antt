-- What stands beside the guarantee, of single calls over memory that passes the examination, and along lists.
use mathlib.Core.Path.{◌≡◌, refl, sym, ◌∙◌, ap, subst}
use mathlib.Core.Logic.{inl, inr}
use mathlib.Core.Bool.{Bool, true, false, true≢false}
use mathlib.Core.Option.{none, some, none-ne-some, some-injective}
use mathlib.Core.List.{List}
use Prim.Native.Nat.{ℕ, ◌+◌, ◌≤◌, ◌<◌}
use native.Mathlib.Omega.{arith}
use lib.ListN.{length}
use Rattle.std.specs.Prelude.{Result}
use Rattle.basics.specs.Pick.{pick}
use Rattle.classes.proofs.Smallest.{class_found}
use Rattle.layout.specs.declared.Geometry.{Geometry}
use Rattle.layout.specs.Geometry.{mutator_count, Sized, total}
use Rattle.layout.specs.Mem.{Mem, mem_of, flat}
use Rattle.layout.proofs.Regions.{sized, resized, flat_mem_of, right_size, mem_of-flat, length-flat}
use Rattle.theory.specs.Calls.{Call, c_make, refusal}
use Rattle.theory.proofs.Refusals.{by_ok}
use Rattle.theory.proofs.Invariant.{none_some}
use Rattle.model.specs.declared.Answer.{Answer}
use Rattle.model.specs.declared.Refusal.{Refusal}
use Rattle.model.specs.Refusals.{number_of}
use Rattle.model.specs.Answers.{refusal_in, refusal_of}
use Rattle.model.specs.Calls.{observe}
use Rattle.model.specs.Opening.{opened}
use Rattle.model.specs.Run.{Command, answered}
use Rattle.model.specs.Consistent.{Consistent}
use Rattle.model.specs.Looks.{Look, LookPromise, look_sized, look_number}
use Rattle.model.specs.Lists.{Event, Element, Promised, Meets, event_number, struck, remaining_call}
use Rattle.model_laws.proofs.Lengths.{sizes_of}
use Rattle.refine_view.proofs.Invariants.{consistent_ordered}
use Rattle.refine_view.proofs.SelfSimulation.{self, self_good}
use Rattle.refine_take_detach.proofs.Rooms.{room_source, source_room}
use Rattle.refine_start.proofs.Opened.{sizes_opened, opened_consistent}
use Rattle.refine_run.proofs.Answering.{step_answers}
use Rattle.refine_run.proofs.Elements.{look_size, look_answers, size_unchanged, is_over, ahead}
use Rattle.refine_run.proofs.Own.{fine, own_run}
use Rattle.guarantee.specs.Demand3.{struck_out}
use Rattle.guarantee.specs.Elements.{Acts, wrong, looks, calls, starts, start_refused, steps, Continues}
use Rattle.guarantee.specs.Keeping.{OpeningEstablishes, Applied, EveryCallKeeps, NeverTorn, AlwaysConsistent, RefusedUnchanged, RunsItself, NoRoomExactly}
use Rattle.guarantee.proofs.Numbers.{to_number, of_number, unbounded_number}
use Rattle.guarantee.proofs.Refused.{exec_same, start_number, roomless_of, roomless_is}
use Rattle.guarantee.proofs.Coupling.{alone, Any, Leads, goes, begins, self_leads}
use Rattle.guarantee.proofs.Elements.{every_element}
use Rattle.guarantee.proofs.Walks.{walk}
use Rattle.guarantee.proofs.Beginning.{opened_point, first_point}

pub opening_establishes : OpeningEstablishes
opening_establishes g content words o = (opened_point g content words o).consistent

pub always_consistent : AlwaysConsistent
always_consistent g words w xs ys b c = (walk g xs ys words w (first_point g words w b) c).0.consistent

-- ---- a single call over memory that passes the examination

law : (g : Geometry) (words : List ℕ) (e : Element) → Applied g words e → Continues g words e
law g words e a = every_element g words e a.sized a.consistent a.meets a.long (inr a.gets)

pub every_call-keeps : EveryCallKeeps
every_call-keeps g words e a = subst (λ x. Consistent g (mem_of g x)) (ahead g words e a.meets a.gets) (law g words e a).consistent

-- a mutator's call that remains answers as the memory itself does as an unbounded heap: a refusal is from 2 to 9
remains_number : (g : Geometry) (words after : List ℕ) → Sized g (length words) → Consistent g (mem_of g words) → (v : Event)
    → Acts g (mem_of g words) (mem_of g after) v → (x : Call × Result Answer Refusal) → remaining_call struck_out v ≡ some x → (n : ℕ)
    → refusal_of x.1 ≡ some n → n ≤ 9
remains_number g words after z c v a x i n t = go (self_leads g (mem_of g words) (sizes_of g words z) c v after a)
  where
    go : Leads g (mem_of g words) (sizes_of g words z) c (alone g (mem_of g words) (sizes_of g words z) c) Any
        (self_good g (mem_of g words) (sizes_of g words z) (consistent_ordered g (mem_of g words) c)) v after → n ≤ 9
    go (goes y) = (unbounded_number (self g (mem_of g words)) x.0 n (sym (ap refusal_in (y.answer x i)) ∙ t)).1
    go (begins e b) = absurd (none-ne-some x (sym (ap (remaining_call struck_out) e) ∙ i))

-- no refusal is by a number above 12 that is not struck out
module _ (g : Geometry) (words : List ℕ) (z : Sized g (length words)) (c : Consistent g (mem_of g words)) (n : ℕ) (large : 12 < n) (left : struck_out n ≡ false) where
  look_not : (l : Look) → LookPromise g words l → (b : Bool) → look_sized g l ≡ b → look_number l ≡ some n → ⊥
  look_not l q true h t = none_some (sym (look_answers g words l q (right_size g (length words) z) c h) ∙ t)
  look_not l q false h t = let y = some-injective 1 n (sym (look_size g words l q (inr h)) ∙ t) in omega arith

  event_not : (v : Event) (after : List ℕ) → Promised v g words after → Acts g (mem_of g words) (mem_of g after) v → event_number v ≡ some n → ⊥
  event_not v after q (wrong x h) t = let y = some-injective 1 n (sym x ∙ t) in omega arith
  event_not v after q (looks {l = l} h) t = look_not l q.0 (look_sized g l) refl t
  event_not v after q (calls {c = k} {r = r} e h) t =
      let y = remains_number g words after z c v (calls e h) (k, r)
      (ap (λ o. pick (struck struck_out o) none (some (k, r))) t ∙ ap (λ b. pick b none (some (k, r))) left) n t in
      omega arith
  event_not v after q (starts i o h) t = none_some t
  event_not v after q (start_refused {w = x} e h) t = let y = some-injective (number_of x) n t in let l = start_number g (mem_of g words) (number_of x) e in omega arith
  event_not v after q (steps e h) t = none_some (sym (step_answers g (mem_of g words)) ∙ ap refusal_in (sym e) ∙ t)

pub never_torn_lem : NeverTorn
never_torn_lem g words e a t =
    let z = sized g (length words) a.sized in
    event_not g words z a.consistent _ (omega arith) refl e.event e.after
    (subst Meets (is_over g words e a.gets) a.meets)
    (subst (λ x. Acts g (mem_of g words) (mem_of g x) e.event) (ahead g words e a.meets a.gets) (law g words e a).acts) t

-- refused, the memory is as it was
refused_same : (g : Geometry) (m m' : Mem) (v : Event) (n : ℕ) → Acts g m m' v → event_number v ≡ some n → m' ≡ m
refused_same g m m' v n (wrong x h) t = h
refused_same g m m' v n (looks h) t = h
refused_same g m m' v n (calls {c = c} {r = r} e h) t = h ∙ exec_same g m c n (sym e ∙ of_number r n t)
refused_same g m m' v n (starts i o h) t = none_some t
refused_same g m m' v n (start_refused e h) t = h
refused_same g m m' v n (steps e h) t = none_some (sym (step_answers g m) ∙ ap refusal_in (sym e) ∙ t)

pub refused_unchanged : RefusedUnchanged
refused_unchanged g words e q (inl h) n t = size_unchanged e q h
refused_unchanged g words e q (inr a) n t =
    let z = sized g (length words) a.sized in
    let s = refused_same g (mem_of g words) _ e.event n (law g words e a).acts t in
    let k = ap (mem_of g) (sym (ahead g words e a.meets a.gets)) ∙ s in
    sym (flat_mem_of g e.after (a.long ∙ ap length a.gets.memory ∙ z.is)) ∙ ap flat k ∙ flat_mem_of g words z.is ∙ sym a.gets.memory

-- ---- the model's own run

answer_keeps : (g : Geometry) (words : List ℕ) → Sized g (length words) → Consistent g (mem_of g words) → (r : Command) → Consistent g (mem_of g (answered g words r).after)
answer_keeps g words z c r =
    let f = fine g words z c r in
    every_call-keeps g words (answered g words r) (record { sized = right_size g (length words) z; consistent = c; meets = f.meets; long = f.long; gets = f.gets })

pub runs_itself : RunsItself
runs_itself g content rs e =
    let s = sized g (length content) e in
    let z = sizes_opened g (mem_of g content) (sizes_of g content s) in
    let l : length (flat (opened g (mem_of g content))) ≡ total g = length-flat g (opened g (mem_of g content)) z in
    record {
      opening = record {
        sized = e;
        opening = record { sizes = λ h. absurd (true≢false (sym h ∙ e)); exact = λ h. (refl, mem_of-flat g (opened g (mem_of g content)) z) };
        long = l ∙ sym s.is;
      };
      chain =
          own_run g (answer_keeps g) (flat (opened g (mem_of g content))) (resized g (length content) _ s (l ∙ sym s.is))
          (subst (Consistent g) (sym (mem_of-flat g (opened g (mem_of g content)) z)) (opened_consistent g (mem_of g content) (sizes_of g content s)))
          rs;
    }

-- ---- "no room"

pub no_room_exactly : NoRoomExactly
no_room_exactly = record {
  only = λ g words after k d p n r a e.
      let q = a.meets.exact a.sized a.consistent in
      let x = roomless_of g (mem_of g words) k d p n (sym q.0 ∙ of_number r 10 e) in
      record {
        class = x.class;
        lower = rw x.lower;
        sized = x.sized;
        no_room =
            source_room g (mem_of g words) (sizes_of g words (sized g (length words) a.sized))
            (consistent_ordered g (mem_of g words) a.consistent) k x.class (known g words k d p n x.lower)
            (class_found (p + n) x.class x.sized) x.source;
      };
  whenever = λ g words after k d p n r a x.
      let q = a.meets.exact a.sized a.consistent in
      let s = room_source g (mem_of g words) (sizes_of g words (sized g (length words) a.sized))
      (consistent_ordered g (mem_of g words) a.consistent) k x.class (known g words k d p n x.lower)
      (class_found (p + n) x.class x.sized) x.no_room in
      to_number r 10 (q.0 ∙ roomless_is g (mem_of g words) k d p n (record { lower = x.lower; class = x.class; sized = x.sized; source = s }));
}
  where
    known : (g : Geometry) (words : List ℕ) (k d p n : ℕ) → refusal (observe (mem_of g words)) (c_make k d p n) ≡ 0 → k < mutator_count
    known g words k d p n e = (by_ok (observe (mem_of g words)) k _ e).0
