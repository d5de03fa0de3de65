-- The memory beside an unbounded heap: what one event does to the one, and the calls that remain to the other, keeps them coupled. Assumes
-- nothing.
use mathlib.Core.Path.{◌≡◌, refl, sym, ◌∙◌, ap, subst}
use mathlib.Core.Bool.{true}
use mathlib.Core.Option.{Option, none, some, none-ne-some, some-injective}
use mathlib.Core.List.{List}
use Prim.Native.Nat.{ℕ, zero, suc, ◌<◌}
use Rattle.std.specs.Prelude.{Result, Ok}
use Rattle.basics.specs.Pick.{pick}
use Rattle.layout.specs.declared.Geometry.{Geometry}
use Rattle.layout.specs.Geometry.{segment_of}
use Rattle.layout.specs.Mem.{Mem, mem_of, Sizes}
use Rattle.theory.specs.Phases.{idle}
use Rattle.theory.specs.Calls.{Call, a_no, refusal, refuse}
use Rattle.theory.specs.Unbounded.{uexec, puts}
use Rattle.theory.proofs.CallKeeps.{Coupled}
use Rattle.theory.proofs.Bridge.{model_call, model_refused, model_step, agree_ok}
use Rattle.theory.proofs.CollectorKeeps.{start_ok}
use Rattle.theory.proofs.Agree.{Agree}
use Rattle.theory.proofs.Invariant.{Inv}
use Rattle.model.specs.declared.Answer.{Answer}
use Rattle.model.specs.declared.Answer.TheVariants.{Done}
use Rattle.model.specs.declared.Refusal.{Refusal}
use Rattle.model.specs.Answers.{answer_of}
use Rattle.model.specs.Fields.{phase, tag, class}
use Rattle.model.specs.Calls.{observe, act, exec}
use Rattle.model.specs.Collector.{started, step_of, lowest, collects}
use Rattle.model.specs.Consistent.{Consistent, Behind}
use Rattle.model.specs.Lists.{Event, mutator_call, start_call, step_call, opening_call, look_call, event_number, Ghost, put_unless, block_in, fed, struck, remaining_call}
use Rattle.refine_view.specs.View.{view}
use Rattle.refine_view.specs.Refines.{refused_out, agrees, ActRefines, CallRefines, EachOccupied, Steady, Structure}
use Rattle.refine_view.proofs.Invariants.{consistent_ordered, structure_of, consistent_of}
use Rattle.refine_view.proofs.SelfSimulation.{face_same, self, self_put, self_good}
use Rattle.guarantee.specs.Demand3.{struck_out}
use Rattle.guarantee.specs.Elements.{Acts, wrong, looks, calls, starts, start_refused, steps}
use Rattle.guarantee.proofs.AllRefine.{all_refine}
use Rattle.guarantee.proofs.Numbers.{to_number, not_struck_out}
use Rattle.guarantee.proofs.Putting.{put_same}
use Rattle.theory.specs.Machine as machine
use Rattle.theory.specs.MachineCalls as machine_calls
use Rattle.model.specs.Tag as Tag

-- P: which blocks of condemned segments may be marked (theory: `Complete`)
abbrev pub Couples : Geometry → Mem → Ghost → (ℕ → Type 0) → Type 0
Couples g m w P = Coupled (segment_of g) P w.put (view g m) w.heap

abbrev pub Any : ℕ → Type 0
Any at = Unit {0}

-- whatever may be marked
pub couples_any : (g : Geometry) (m : Mem) (w : Ghost) (P : ℕ → Type 0) → Couples g m w P → Couples g m w Any
couples_any g m w P o = record { inv = o.inv; sim = o.sim; few = o.few; comp = record { live = λ b q k. tt; black = λ b q k. tt } }

-- refused 1, it does not remain
pub unfed : (v : Event) → event_number v ≡ some 1 → remaining_call struck_out v ≡ none
unfed (mutator_call c r) e = ap (λ o. pick (struck struck_out o) none (some (c, r))) e
unfed (start_call r) e = refl
unfed (step_call r) e = refl
unfed (opening_call r) e = refl
unfed (look_call l) e = refl

module _ (g : Geometry) (m : Mem) (z : Sizes g m) (k : Consistent g m) (w : Ghost) (P : ℕ → Type 0) (o : Couples g m w P) where
  -- an accepted start: the condemned segments are those that it collects, with their classes
  pub record Begun (m' : Mem) : Type 0 where
    pub quiet : phase m ≡ idle
    pub couples : Couples g m' w (machine.Live (view g m))
    pub collected : (s : ℕ) → s < g.segments → tag m' s ≡ Tag.condemned → (collects m s ≡ true) × (class m' s ≡ class m s)

  -- any other event; a call that remains is answered as the unbounded heap does
  pub record Next (v : Event) (after : List ℕ) : Type 0 where
    pub couples : Couples g (mem_of g after) (fed w (remaining_call struck_out v) g after) P
    pub steady : Steady g m (mem_of g after)
    pub answer : (x : Call × Result Answer Refusal) → remaining_call struck_out v ≡ some x → answer_of x.1 ≡ (uexec w.heap x.0).0

  pub data Leads (v : Event) (after : List ℕ) : Type 0 where
    goes : Next v after → Leads v after
    begins : v ≡ start_call (Ok Done) → Begun (mem_of g after) → Leads v after

  -- nothing changes beside
  unmoved : (v : Event) (after : List ℕ) → fed w (remaining_call struck_out v) g after ≡ w
      → ((x : Call × Result Answer Refusal) → remaining_call struck_out v ≡ some x → answer_of x.1 ≡ (uexec w.heap x.0).0) → mem_of g after ≡ m
      → Leads v after
  unmoved v after n a h = goes (record {
    couples = subst (λ x. Couples g (mem_of g after) x P) (sym n) (subst (λ x. Couples g x w P) (sym h) o);
    steady = subst (Steady g m) (sym h) (λ s l e. (e, refl));
    answer = a;
  })

  stays : (v : Event) (after : List ℕ) → remaining_call struck_out v ≡ none → mem_of g after ≡ m → Leads v after
  stays v after n h = unmoved v after (ap (λ x. fed w x g after) n) (λ x e. absurd (none-ne-some x (sym n ∙ e))) h

  -- ---- a mutator's call

  module _ (c : Call) (r : Result Answer Refusal) (after : List ℕ) where
    -- a call that is answered as the unbounded heap does remains
    remaining : answer_of r ≡ (uexec w.heap c).0 → remaining_call struck_out (mutator_call c r) ≡ some (c, r)
    remaining a = ap (λ b. pick b none (some (c, r))) (not_struck_out r w.heap c a)

    told : answer_of r ≡ (uexec w.heap c).0 → (x : Call × Result Answer Refusal) → remaining_call struck_out (mutator_call c r) ≡ some x → answer_of x.1 ≡ (uexec w.heap x.0).0
    told a x f = subst (λ x. answer_of x.1 ≡ (uexec w.heap x.0).0) (some-injective (c, r) x (sym (remaining a) ∙ f)) a

    -- refused by a number from 2 to 9, on both sides
    refused_leads : (n : ℕ) → refusal (observe m) c ≡ suc n → answer_of r ≡ a_no (suc n) → mem_of g after ≡ m → Leads (mutator_call c r) after
    refused_leads n x e h =
        let u = model_refused (segment_of g) P w.put (view g m) w.heap c n o (ap (λ F. refusal F c) (face_same g m) ∙ x) in
        let a : answer_of r ≡ (uexec w.heap c).0 = e ∙ sym (ap (λ y. y.0) u) in
        unmoved (mutator_call c r) after
        (ap (λ x. fed w x g after) (remaining a) ∙ λ i. record { heap = (u i).1; put = put_unless (to_number r (suc n) e i) w.put (puts c (block_in g after) w.heap.count w.put) })
        (told a) h

    -- as on the machine
    matched_leads : refusal (observe m) c ≡ 0 → (k : ActRefines g m c) → answer_of r ≡ (act g m c).0 → mem_of g after ≡ (act g m c).1 → Leads (mutator_call c r) after
    matched_leads x k e h =
        let st = view g k.ready in
        let y : refusal (machine_calls.observe st) c ≡ 0 = ap (λ F. refusal F c) (k.shows ∙ face_same g m) ∙ x in
        let q : Agree (segment_of g) (machine_calls.act k.block st c).1 (view g (mem_of g after)) =
        subst (λ z. Agree (segment_of g) (machine_calls.act k.block st c).1 (view g z)) (sym h) k.moves.agree in
        let d = model_call (segment_of g) P w.put st (view g (mem_of g after)) w.heap c k.block (agree_ok (segment_of g) P w.put (view g m) st w.heap k.prepared o) y k.permitted q in
        let a = e ∙ k.answer ∙ d.0 in
        goes (record {
          couples =
              subst (λ x. Couples g (mem_of g after) (fed w x g after) P) (sym (remaining a))
              (subst (λ (z : ℕ → Option ℕ). Coupled (segment_of g) P z (view g (mem_of g after)) (uexec w.heap c).1)
              (put_same g after w.heap.count w.put r k.block st c y (e ∙ k.answer) q) d.1);
          steady = subst (Steady g m) (sym h) k.moves.steady;
          answer = told a;
        })

    acted_leads : refusal (observe m) c ≡ 0 → CallRefines struck_out g m c → answer_of r ≡ (act g m c).0 → mem_of g after ≡ (act g m c).1 → Leads (mutator_call c r) after
    acted_leads x (refused_out n t y) e h =
        stays (mutator_call c r) after
        (ap (λ o. pick (struck struck_out o) none (some (c, r))) (to_number r n (e ∙ ap (λ z. z.0) y)) ∙ ap (λ b. pick b none (some (c, r))) t)
        (h ∙ ap (λ z. z.1) y)
    acted_leads x (agrees k) e h = matched_leads x k e h

    call_leads : answer_of r ≡ (exec g m c).0 → mem_of g after ≡ (exec g m c).1 → Leads (mutator_call c r) after
    unfolding exec
    call_leads = go (refusal (observe m) c) refl
      where
        go : (n : ℕ) → refusal (observe m) c ≡ n → answer_of r ≡ (refuse n m (act g m c)).0 → mem_of g after ≡ (refuse n m (act g m c)).1 → Leads (mutator_call c r) after
        go zero x e h = acted_leads x (all_refine.calls g m z k c x) e h
        go (suc n) x e h = refused_leads n x e h

  pub begun : (m' : Mem) → phase m ≡ idle → m' ≡ started g m → Begun m'
  begun m' i h =
      let q = all_refine.starts g m z k i in
      subst Begun (sym h) (record {
        quiet = i;
        couples = agree_ok (segment_of g) (machine.Live (view g m)) w.put _ (view g (started g m)) w.heap q.agree (start_ok (segment_of g) (collects m) P w.put (view g m) w.heap o);
        collected = q.collected;
      })

  pub leads : (v : Event) (after : List ℕ) → Acts g m (mem_of g after) v → Leads v after
  leads v after (wrong n h) = stays v after (unfed v n) h
  leads v after (looks h) = stays _ after refl h
  leads v after (calls {c = c} {r = r} e h) = call_leads c r after e h
  leads v after (starts i o h) = begins refl (begun (mem_of g after) i h)
  leads v after (start_refused e h) = stays _ after refl h
  leads v after (steps e h) =
      let q = all_refine.steps g m z k in
      goes (record {
        couples = subst (λ x. Couples g x w P) (sym h) (model_step (segment_of g) P w.put (view g m) (view g (step_of g m).1) w.heap (lowest m g.segments) q.picked o q.moves.agree);
        steady = subst (Steady g m) (sym h) q.moves.steady;
        answer = λ x f. absurd (none-ne-some x f);
      })

-- ---- consistency afterwards: the memory beside itself

-- what the machine does not see
abbrev Ordering : Geometry → Mem → Mem → Type 0
Ordering g m m' = Structure g m' × (EachOccupied g m → EachOccupied g m') × (Behind g m → Behind g m')

module _ (g : Geometry) (m : Mem) (z : Sizes g m) (k : Consistent g m) where
  unmoved_structure : (m' : Mem) → m' ≡ m → Ordering g m m'
  unmoved_structure m' h = subst (Ordering g m) (sym h) (structure_of g m (consistent_ordered g m k), λ u. u, λ u. u)

  acted : (m' : Mem) (c : Call) → CallRefines struck_out g m c → m' ≡ (act g m c).1 → Ordering g m m'
  acted m' c (refused_out n t y) h = unmoved_structure m' (h ∙ ap (λ z. z.1) y)
  acted m' c (agrees q) h = subst (Ordering g m) (sym h) (q.moves.structure, q.moves.occupied, q.moves.behind)

  called : (m' : Mem) (c : Call) → m' ≡ (exec g m c).1 → Ordering g m m'
  unfolding exec
  called m' c = go (refusal (observe m) c) refl
    where
      go : (n : ℕ) → refusal (observe m) c ≡ n → m' ≡ (refuse n m (act g m c)).1 → Ordering g m m'
      go zero x h = acted m' c (all_refine.calls g m z k c x) h
      go (suc n) x h = unmoved_structure m' h

  structured : (v : Event) (m' : Mem) → Acts g m m' v → Ordering g m m'
  structured v m' (wrong n h) = unmoved_structure m' h
  structured v m' (looks h) = unmoved_structure m' h
  structured v m' (calls {c = c} e h) = called m' c h
  structured v m' (starts i o h) = let q = all_refine.starts g m z k i in subst (Ordering g m) (sym h) (q.structure, q.occupied, λ _. q.behind)
  structured v m' (start_refused e h) = unmoved_structure m' h
  structured v m' (steps e h) = let q = (all_refine.steps g m z k).moves in subst (Ordering g m) (sym h) (q.structure, q.occupied, q.behind)

  abbrev pub alone : Ghost
  alone = record { heap = self g m; put = self_put g m }

  pub self_leads : (v : Event) (after : List ℕ) → Acts g m (mem_of g after) v → Leads g m z k alone Any (self_good g m z (consistent_ordered g m k)) v after
  self_leads v after a = leads g m z k alone Any (self_good g m z (consistent_ordered g m k)) v after a

  pub acts_consistent : (v : Event) (after : List ℕ) → Sizes g (mem_of g after) → Acts g m (mem_of g after) v → Consistent g (mem_of g after)
  acts_consistent v after z' a = let q = structured v (mem_of g after) a in consistent_of g (mem_of g after) z' q.0 (go (self_leads v after a)) (q.1 k.sound.occupied) (q.2 k.sound.behind)
    where
      go : Leads g m z k alone Any (self_good g m z (consistent_ordered g m k)) v after → Inv (segment_of g) (view g (mem_of g after))
      go (goes n) = n.couples.inv
      go (begins e b) = b.couples.inv
