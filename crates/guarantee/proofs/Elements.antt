-- The law of elements, and points of a list: the memory is consistent and coupled with the unbounded heap beside it, and every element leads from
-- one point to the next.
use mathlib.Core.Path.{◌≡◌, sym, ◌∙◌, ap, subst}
use mathlib.Core.Logic.{◌⊎◌, inl, inr}
use mathlib.Core.Bool.{true}
use mathlib.Core.Option.{none}
use mathlib.Core.List.{List}
use Prim.Native.Nat.{ℕ}
use lib.ListN.{length}
use Rattle.layout.specs.declared.Geometry.{Geometry}
use Rattle.layout.specs.Geometry.{Sized}
use Rattle.layout.specs.Mem.{mem_of}
use Rattle.layout.proofs.Regions.{sized, right_size}
use Rattle.theory.proofs.Invariant.{none_some}
use Rattle.model.specs.Consistent.{Consistent}
use Rattle.model.specs.Lists.{Element, Meets, KeepsLength, Gets, wrong_sized, number_of, next_words, Ghost, fed, remaining_call, ghost_step}
use Rattle.model_laws.proofs.Lengths.{sizes_of}
use Rattle.refine_run.proofs.Elements.{size_number, ahead}
use Rattle.guarantee.specs.Demand3.{struck_out}
use Rattle.guarantee.specs.Elements.{Acts, EveryElement}
use Rattle.guarantee.proofs.Acting.{sized_on, acts_of}
use Rattle.guarantee.proofs.Coupling.{Couples, Any, couples_any, unfed, Leads, leads, acts_consistent}

pub every_element : EveryElement
every_element g words e right c q l h =
    let z = sized g (length words) right in
    let y = sized_on g words z e q l h in
    let a = acts_of g words z c e q h in
    record {
      sized = right_size g (length (next_words words e)) y;
      consistent = acts_consistent g (mem_of g words) (sizes_of g words z) c e.event (next_words words e) (sizes_of g (next_words words e) y) a;
      acts = a;
    }

-- an element that is not refused gets the list's memory
pub not_refused : (g : Geometry) (words : List ℕ) (e : Element) → Meets e → number_of e ≡ none → (wrong_sized e ≡ true) ⊎ Gets g words e → Gets g words e
not_refused g words e q n (inl h) = none_some (sym n ∙ size_number e q h)
not_refused g words e q n (inr h) = h

pub record Point (g : Geometry) (words : List ℕ) (w : Ghost) (P : ℕ → Type 0) : Type 0 where
  pub long : Sized g (length words)
  pub consistent : Consistent g (mem_of g words)
  pub couples : Couples g (mem_of g words) w P

pub point_any : (g : Geometry) (words : List ℕ) (w : Ghost) (P : ℕ → Type 0) → Point g words w P → Point g words w Any
point_any g words w P p = record { long = p.long; consistent = p.consistent; couples = couples_any g (mem_of g words) w P p.couples }

module _ (g : Geometry) (words : List ℕ) (w : Ghost) (e : Element) (q : Meets e) (l : KeepsLength e) (h : (wrong_sized e ≡ true) ⊎ Gets g words e) where
  -- what remains of an element is a call over the list's memory
  beside : (x : (wrong_sized e ≡ true) ⊎ Gets g words e) → fed w (remaining_call struck_out e.event) g (next_words words e) ≡ ghost_step struck_out w e
  beside (inl h) = let n = unfed e.event (size_number e q h) in ap (λ o. fed w o g (next_words words e)) n ∙ sym (ap (λ o. fed w o e.geometry e.after) n)
  beside (inr h) = λ i. fed w (remaining_call struck_out e.event) (sym h.geometry i) (ahead g words e q h i)

  module _ (P : ℕ → Type 0) (p : Point g words w P) where
    pub acts_on : Acts g (mem_of g words) (mem_of g (next_words words e)) e.event
    acts_on = acts_of g words p.long p.consistent e q h

    pub leads_on : Leads g (mem_of g words) (sizes_of g words p.long) p.consistent w P p.couples e.event (next_words words e)
    leads_on = leads g (mem_of g words) (sizes_of g words p.long) p.consistent w P p.couples e.event (next_words words e) acts_on

    pub point_on : (w' : Ghost) (Q : ℕ → Type 0) → Couples g (mem_of g (next_words words e)) w' Q → Point g (next_words words e) w' Q
    point_on w' Q o =
        let y = sized_on g words p.long e q l h in
        record {
          long = y;
          consistent =
              acts_consistent g (mem_of g words) (sizes_of g words p.long) p.consistent e.event (next_words words e) (sizes_of g (next_words words e) y) acts_on;
          couples = o;
        }

    pub goes_on : Couples g (mem_of g (next_words words e)) (fed w (remaining_call struck_out e.event) g (next_words words e)) P → Point g (next_words words e) (ghost_step struck_out w e) P
    goes_on o = point_on (ghost_step struck_out w e) P (subst (λ x. Couples g (mem_of g (next_words words e)) x P) (beside h) o)
