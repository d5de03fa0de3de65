-- From a start to its done each segment that was full or part at the start is swept once: it is condemned until the step that sweeps it, and not again
-- before the next start.
use mathlib.Core.Path.{◌≡◌, refl, sym, ◌∙◌, ap, subst}
use mathlib.Core.Logic.{◌⊎◌, inl, inr}
use mathlib.Core.Bool.{true, false, true≢false}
use mathlib.Core.List.{List, [], ◌∷◌, ◌++◌}
use Prim.Native.Nat.{ℕ, ◌<◌}
use native.Mathlib.Omega.{arith}
use lib.ListN.{length}
use Rattle.std.specs.Prelude.{Ok}
use Rattle.basics.proofs.Order.{same_or_not}
use Rattle.layout.specs.declared.Geometry.{Geometry}
use Rattle.layout.specs.Geometry.{wrong_size}
use Rattle.layout.specs.Mem.{mem_of, Sizes}
use Rattle.layout.proofs.Regions.{sized}
use Rattle.model.specs.declared.Step.TheVariants.{Waiting, Moved, Traced, Swept, Done, Idle, Refused}
use Rattle.model.specs.Collector.{full_or_part, collects}
use Rattle.model.proofs.Collecting.{collects_is, collected_used}
use Rattle.model.specs.Consistent.{Consistent}
use Rattle.model.specs.Lists.{Event, mutator_call, start_call, step_call, opening_call, look_call, Element, start_element, step_element, Meets, KeepsLength}
use Rattle.model.specs.Lists.{Gets, wrong_sized, event_number, next_words, Chain, words_after}
use Rattle.model_laws.proofs.Lengths.{sizes_of}
use Rattle.model_laws.proofs.Segments.{in_range}
use Rattle.refine_run.proofs.Elements.{over, is_over}
use Rattle.guarantee.specs.Elements.{Acts}
use Rattle.guarantee.specs.Keeping.{NeverSwept, OnceSwept, SweptOnce}
use Rattle.guarantee.proofs.Elements.{every_element, not_refused}
use Rattle.guarantee.proofs.Cycle.{accepted}
use Rattle.guarantee.proofs.Condemned.{is_condemned, stays_condemned, swept_condemned, done_condemned, start_condemned}
use Rattle.model.specs.declared.Answer.TheVariants as call_answer

-- ---- one element of a list, and the others

abbrev pub IsSweep : ℕ → Element → Type 0
IsSweep s e = (f : ℕ) × (e.event ≡ step_call (Swept s f))

-- whether an element is a step that answers swept for segment s
is_sweep : (s : ℕ) (e : Element) → IsSweep s e ⊎ (IsSweep s e → ⊥)
is_sweep s e = go e.event
  where
    go : (v : Event) → ((f : ℕ) × (v ≡ step_call (Swept s f))) ⊎ ((f : ℕ) × (v ≡ step_call (Swept s f)) → ⊥)
    go (mutator_call c r) = inr (λ x. let h = x.1 in let y : ◌≡◌ {A = ℕ} 0 1 = cc in omega arith)
    go (start_call r) = inr (λ x. let h = x.1 in let y : ◌≡◌ {A = ℕ} 0 1 = cc in omega arith)
    go (opening_call r) = inr (λ x. let h = x.1 in let y : ◌≡◌ {A = ℕ} 0 1 = cc in omega arith)
    go (look_call l) = inr (λ x. let h = x.1 in let y : ◌≡◌ {A = ℕ} 0 1 = cc in omega arith)
    go (step_call (Waiting n)) = inr (λ x. let h = x.1 in let y : ◌≡◌ {A = ℕ} 0 1 = cc in omega arith)
    go (step_call Moved) = inr (λ x. let h = x.1 in let y : ◌≡◌ {A = ℕ} 0 1 = cc in omega arith)
    go (step_call Traced) = inr (λ x. let h = x.1 in let y : ◌≡◌ {A = ℕ} 0 1 = cc in omega arith)
    go (step_call Done) = inr (λ x. let h = x.1 in let y : ◌≡◌ {A = ℕ} 0 1 = cc in omega arith)
    go (step_call Idle) = inr (λ x. let h = x.1 in let y : ◌≡◌ {A = ℕ} 0 1 = cc in omega arith)
    go (step_call (Refused n)) = inr (λ x. let h = x.1 in let y : ◌≡◌ {A = ℕ} 0 1 = cc in omega arith)
    go (step_call (Swept r f)) = here (same_or_not r s)
      where
        here : (r ≡ s) ⊎ (r ≡ s → ⊥) → ((f' : ℕ) × (step_call (Swept r f) ≡ step_call (Swept s f'))) ⊎ ((f' : ℕ) × (step_call (Swept r f) ≡ step_call (Swept s f')) → ⊥)
        here (inl q) = inl (f, ap (λ x. step_call (Swept x f)) q)
        here (inr n) = inr (λ x. let h = x.1 in n cc)

pub never_none : (s : ℕ) → NeverSwept s []
never_none s [] ys e f i p = let y : ◌≡◌ {A = ℕ} 0 1 = cc in omega arith
never_none s (x ∷ xs) ys e f i p = let y : ◌≡◌ {A = ℕ} 0 1 = cc in omega arith

pub never_more : (s : ℕ) (e : Element) (ds : List Element) → (IsSweep s e → ⊥) → NeverSwept s ds → NeverSwept s (e ∷ ds)
never_more s e ds n h [] ys x f i p = let q : e ≡ x = cc in n (f, ap (λ y. y.event) q ∙ p)
never_more s e ds n h (z ∷ xs) ys x f i p = let q : ds ≡ xs ++ (x ∷ ys) = cc in h xs ys x f q p

-- ---- along a list

module _ (g : Geometry) where
  -- of the right size, and passes the examination
  pub record ConsistentWords (words : List ℕ) : Type 0 where
    pub right : wrong_size g (length words) ≡ false
    pub consistent : Consistent g (mem_of g words)

  next : (words : List ℕ) (e : Element) → ConsistentWords words → Meets e → KeepsLength e → (wrong_sized e ≡ true) ⊎ Gets g words e
      → ConsistentWords (next_words words e) × Acts g (mem_of g words) (mem_of g (next_words words e)) e.event
  next words e a q l h = let o = every_element g words e a.right a.consistent q l h in (record { right = o.sized; consistent = o.consistent }, o.acts)

  pub walk_consistent : (xs ys : List Element) (words : List ℕ) → ConsistentWords words → Chain g words (xs ++ ys) → ConsistentWords (words_after words xs) × Chain g (words_after words xs) ys
  walk_consistent [] ys words a c = (a, c)
  walk_consistent (e ∷ xs) ys words a c = walk_consistent xs ys (next_words words e) (next words e a c.0 c.1 c.2).0 c.3

  -- no start that is not refused
  abbrev pub NoStart : List Element → Type 0
  NoStart ds = (xs ys : List Element) (u v : List ℕ) → ds ≡ xs ++ (start_element g u (Ok call_answer.Done) v ∷ ys) → ⊥

  pub no_start_lem : (words : List ℕ) (e : Element) (ds : List Element) → NoStart (e ∷ ds) → Meets e → (wrong_sized e ≡ true) ⊎ Gets g words e → e.event ≡ start_call (Ok call_answer.Done) → ⊥
  no_start_lem words e ds n q h i = n [] ds words e.after (ap (λ x. x ∷ ds) (is_over g words e (not_refused g words e q (ap event_number i) h) ∙ ap (λ v. over g words v e.after) i))

  pub no_later : (e : Element) (ds : List Element) → NoStart (e ∷ ds) → NoStart ds
  no_later e ds n xs ys u v i = n (e ∷ xs) ys u v (ap (λ (l : List Element). e ∷ l) i)

  module _ (s : ℕ) where
    -- a segment that is not condemned is not swept
    never_swept : (ds ys : List Element) (words : List ℕ) → ConsistentWords words → NoStart ds → Chain g words (ds ++ ys) → is_condemned (mem_of g words) s ≡ false → NeverSwept s ds
    never_swept [] ys words a n c f = never_none s
    never_swept (e ∷ ds) ys words a n c f =
        let o = next words e a c.0 c.1 c.2 in
        let z = sizes_of g words (sized g (length words) a.right) in
        let m : IsSweep s e → ⊥ = λ x. true≢false (sym (swept_condemned g (mem_of g words) z a.consistent s _ x.0 (subst (Acts g (mem_of g words) _) x.1 o.1)).0 ∙ f) in
        let k = stays_condemned g (mem_of g words) z a.consistent s _ e.event o.1 (no_start_lem words e ds n c.0 c.2) (λ x i. m (x, i)) in
        never_more s e ds m (never_swept ds ys (next_words words e) o.0 (no_later e ds n) c.3 (k ∙ f))

    -- one that is condemned is swept before done, once
    once_swept : s < g.segments → (ds rest : List Element) (u v words : List ℕ) → ConsistentWords words → NoStart ds
        → Chain g words (ds ++ (step_element g u Done v ∷ rest)) → is_condemned (mem_of g words) s ≡ true → OnceSwept g s ds
    once_swept l [] rest u v words a n c t =
        let o = next words (step_element g u Done v) a c.0 c.1 c.2 in
        let z = sizes_of g words (sized g (length words) a.right) in
        absurd (true≢false (sym t ∙ done_condemned g (mem_of g words) z a.consistent s l _ o.1))
    once_swept l (e ∷ ds) rest u v words a n c t = go (is_sweep s e) (λ k. once_swept l ds rest u v (next_words words e) o.0 (no_later e ds n) c.3 k)
      where
        o : ConsistentWords (next_words words e) × Acts g (mem_of g words) (mem_of g (next_words words e)) e.event
        o = next words e a c.0 c.1 c.2

        z : Sizes g (mem_of g words)
        z = sizes_of g words (sized g (length words) a.right)

        here : (x : IsSweep s e) → OnceSwept g s (e ∷ ds)
        here x = record {
          earlier = [];
          later = ds;
          step_before = words;
          step_after = e.after;
          freed = x.0;
          whole = ap (λ y. y ∷ ds) (is_over g words e (not_refused g words e c.0 (ap event_number x.1) c.2) ∙ ap (λ w. over g words w e.after) x.1);
          not_earlier = never_none s;
          not_later =
              never_swept ds (step_element g u Done v ∷ rest) (next_words words e) o.0 (no_later e ds n) c.3
              (swept_condemned g (mem_of g words) z a.consistent s _ x.0 (subst (Acts g (mem_of g words) _) x.1 o.1)).1;
        }

        later : (IsSweep s e → ⊥) → OnceSwept g s ds → OnceSwept g s (e ∷ ds)
        later f y = record {
          earlier = e ∷ y.earlier;
          later = y.later;
          step_before = y.step_before;
          step_after = y.step_after;
          freed = y.freed;
          whole = ap (λ (w : List Element). e ∷ w) y.whole;
          not_earlier = never_more s e y.earlier f y.not_earlier;
          not_later = y.not_later;
        }

        go : IsSweep s e ⊎ (IsSweep s e → ⊥) → (is_condemned (mem_of g (next_words words e)) s ≡ true → OnceSwept g s ds) → OnceSwept g s (e ∷ ds)
        go (inl x) ih = here x
        go (inr f) ih = later f (ih (stays_condemned g (mem_of g words) z a.consistent s _ e.event o.1 (no_start_lem words e ds n c.0 c.2) (λ x i. f (x, i)) ∙ t))

pub swept_once : SweptOnce
swept_once g words es right k ch c s f =
    let w = walk_consistent g c.before _ words (record { right = right; consistent = k }) (subst (Chain g words) c.whole ch) in
    let u = words_after words c.before in
    let e = start_element g c.start_before (Ok call_answer.Done) c.start_after in
    let h = not_refused g u e w.1.0 refl w.1.2 in
    let o = next g u e w.0 w.1.0 w.1.1 w.1.2 in
    let z = sizes_of g u (sized g (length u) w.0.right) in
    let a = accepted g (mem_of g u) _ o.1 in
    let t : collects (mem_of g u) s ≡ true = collects_is (mem_of g u) s ∙ subst (λ x. full_or_part (mem_of g x) s ≡ true) h.memory f in
    once_swept g s (in_range g (mem_of g u) z s (collected_used (mem_of g u) s t)) c.during c.rest c.step_before c.step_after (next_words u e) o.0 c.one_start w.1.3
    (ap (λ x. is_condemned x s) a.1 ∙ start_condemned g (mem_of g u) z w.0.consistent s a.0 ∙ t)
