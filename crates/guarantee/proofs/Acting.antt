-- An element of a list, lent memory that passes the examination, acts as the definitions say.
use mathlib.Core.Path.{◌≡◌, sym, ◌∙◌, ap, subst}
use mathlib.Core.Logic.{◌⊎◌, inl, inr}
use mathlib.Core.Bool.{Bool, true}
use mathlib.Core.List.{List}
use Prim.Native.Nat.{ℕ}
use lib.ListN.{length}
use Rattle.std.specs.Prelude.{Result}
use Rattle.basics.specs.Pick.{pick}
use Rattle.layout.specs.declared.Geometry.{Geometry}
use Rattle.layout.specs.Geometry.{Sized}
use Rattle.layout.specs.Mem.{Mem, mem_of}
use Rattle.layout.proofs.Regions.{right_size, resized}
use Rattle.theory.specs.Phases.{idle}
use Rattle.theory.specs.Calls.{a_ok, a_no}
use Rattle.model.specs.declared.Answer.{Answer}
use Rattle.model.specs.declared.Refusal.{Refusal}
use Rattle.model.specs.declared.Refusal.TheVariants.{NotNow}
use Rattle.model.specs.Answers.{answer_of}
use Rattle.model.specs.Fields.{phase}
use Rattle.model.specs.Collector.{started, start_of}
use Rattle.model.specs.Consistent.{Consistent}
use Rattle.model.specs.Lists.{Event, mutator_call, start_call, step_call, opening_call, look_call, Element, Promised, Meets, KeepsLength, IsOpening, Gets, wrong_sized, next_words}
use Rattle.refine_run.proofs.Elements.{size_number, is_over, ahead}
use Rattle.guarantee.specs.Elements.{Acts, wrong, looks, calls, starts, start_refused, steps}
use Rattle.guarantee.proofs.Numbers.{refused_as, is_ok}
use Rattle.guarantee.proofs.Refused.{start_either}

-- a start: a cycle begins in idle, or it is refused
start_acts : (g : Geometry) (m m' : Mem) (r : Result Answer Refusal) → answer_of r ≡ (start_of g m).0 → m' ≡ (start_of g m).1 → Acts g m m' (start_call r)
start_acts g m m' r e h = go (start_either g m)
  where
    go : ((phase m ≡ idle) × (start_of g m ≡ (a_ok, started g m))) ⊎ (start_of g m ≡ (a_no 11, m)) → Acts g m m' (start_call r)
    go (inl x) = rw (is_ok r (e ∙ ap (λ y. y.0) x.1)) (starts x.0 (ap (λ y. y.0) x.1) (h ∙ ap (λ y. y.1) x.1))
    go (inr x) =
        let n : (start_of g m).0 ≡ a_no 11 = ap (λ y. y.0) x in
        rw (refused_as r NotNow (e ∙ n)) (start_refused n (h ∙ ap (λ y. y.1) x))

module _ (g : Geometry) (words : List ℕ) (z : Sized g (length words)) where
  -- what it leaves has the list's length again
  pub sized_on : (e : Element) → Meets e → KeepsLength e → (wrong_sized e ≡ true) ⊎ Gets g words e → Sized g (length (next_words words e))
  sized_on e q l (inl h) = subst (λ b. Sized g (length (pick b words e.after))) (sym h) z
  sized_on e q l (inr h) = resized g (length words) (length (next_words words e)) z (ap length (ahead g words e q h) ∙ l ∙ ap length h.memory)

  module _ (c : Consistent g (mem_of g words)) where
    event_acts : (v : Event) (after : List ℕ) → Promised v g words after → (IsOpening v → ⊥) → Acts g (mem_of g words) (mem_of g after) v
    event_acts (mutator_call k r) after q f = let x = q.exact (right_size g (length words) z) c in calls x.0 x.1
    event_acts (start_call r) after q f = let x = q.exact (right_size g (length words) z) c in start_acts g (mem_of g words) (mem_of g after) r x.0 x.1
    event_acts (step_call r) after q f = let x = q.exact (right_size g (length words) z) c in steps x.0 x.1
    event_acts (opening_call r) after q f = absurd (f tt)
    event_acts (look_call l) after q f = looks (ap (mem_of g) q.1)

    pub acts_of : (e : Element) → Meets e → (wrong_sized e ≡ true) ⊎ Gets g words e → Acts g (mem_of g words) (mem_of g (next_words words e)) e.event
    acts_of e q (inl h) = wrong (size_number e q h) (ap (λ (b : Bool). mem_of g (pick b words e.after)) h)
    acts_of e q (inr h) = subst (λ x. Acts g (mem_of g words) (mem_of g x) e.event) (sym (ahead g words e q h)) (event_acts e.event e.after (subst Meets (is_over g words e h) q) h.opening)
