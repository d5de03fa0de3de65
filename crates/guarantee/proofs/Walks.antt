-- Along a list of calls: every point is one where the memory is consistent, and the answers that remain are the unbounded heap's.
use mathlib.Core.Path.{◌≡◌, refl, sym, ◌∙◌, ap, subst}
use mathlib.Core.Logic.{◌⊎◌}
use mathlib.Core.Bool.{true}
use mathlib.Core.Option.{Option, none, some, map, none-ne-some}
use mathlib.Core.List.{List, [], ◌∷◌, ◌++◌}
use Prim.Native.Nat.{ℕ}
use Rattle.std.specs.Prelude.{Result}
use Rattle.layout.specs.declared.Geometry.{Geometry}
use Rattle.layout.specs.Mem.{mem_of}
use Rattle.theory.specs.Calls.{Call}
use Rattle.theory.specs.Unbounded.{uexec, uanswers}
use Rattle.model.specs.declared.Answer.{Answer}
use Rattle.model.specs.declared.Refusal.{Refusal}
use Rattle.model.specs.Answers.{answer_of}
use Rattle.model.specs.Lists.{Element, Meets, KeepsLength, Gets, wrong_sized, next_words, Chain, words_after, Ghost, fed, prepend, remaining_call, remaining_calls, remaining_answers, ghost_step, ghost_after}
use Rattle.model_laws.proofs.Lengths.{sizes_of}
use Rattle.guarantee.specs.Demand3.{struck_out}
use Rattle.guarantee.proofs.Coupling.{Couples, Any, couples_any, Leads, goes, begins}
use Rattle.guarantee.proofs.Elements.{Point, leads_on, point_on, goes_on}

module _ (g : Geometry) where
  -- the point after an element, and what a call that remains is answered
  pub record Passed (words : List ℕ) (w : Ghost) (e : Element) : Type 0 where
    pub point : Point g (next_words words e) (ghost_step struck_out w e) Any
    pub answer : (x : Call × Result Answer Refusal) → remaining_call struck_out e.event ≡ some x → answer_of x.1 ≡ (uexec w.heap x.0).0

  pub pass : (words : List ℕ) (w : Ghost) (e : Element) → Point g words w Any → Meets e → KeepsLength e → (wrong_sized e ≡ true) ⊎ Gets g words e → Passed words w e
  pass words w e p q l h = go (leads_on g words w e q l h Any p)
    where
      go : Leads g (mem_of g words) (sizes_of g words p.long) p.consistent w Any p.couples e.event (next_words words e) → Passed words w e
      go (goes n) = record { point = goes_on g words w e q l h Any p n.couples; answer = n.answer }
      go (begins i b) =
          let n : remaining_call struck_out e.event ≡ none = ap (remaining_call struck_out) i in
          record {
            point =
                point_on g words w e q l h Any p (ghost_step struck_out w e) Any
                (subst (λ o. Couples g (mem_of g (next_words words e)) (fed w o e.geometry e.after) Any) (sym n) (couples_any g (mem_of g (next_words words e)) w _ b.couples));
            answer = λ x f. absurd (none-ne-some x (sym n ∙ f));
          }

  -- a list cut in two
  pub walk : (xs ys : List Element) (words : List ℕ) (w : Ghost) → Point g words w Any → Chain g words (xs ++ ys)
      → Point g (words_after words xs) (ghost_after struck_out w xs) Any × Chain g (words_after words xs) ys
  walk [] ys words w p c = (p, c)
  walk (e ∷ xs) ys words w p c = walk xs ys (next_words words e) (ghost_step struck_out w e) (pass words w e p c.0 c.1 c.2).point c.3

  -- "the remaining answers, one by one and in order, equal those that document 01's endless rack .. gives to the same calls"
  one_answer : (w : Ghost) (es : List Element) (g' : Geometry) (after : List ℕ) (o : Option (Call × Result Answer Refusal))
      → ((x : Call × Result Answer Refusal) → o ≡ some x → answer_of x.1 ≡ (uexec w.heap x.0).0)
      → remaining_answers struck_out es ≡ uanswers (fed w o g' after).heap (remaining_calls struck_out es)
      → prepend (map (λ x. answer_of x.1) o) (remaining_answers struck_out es) ≡ uanswers w.heap (prepend (map (λ x. x.0) o) (remaining_calls struck_out es))
  one_answer w es g' after none f ih = ih
  one_answer w es g' after (some x) f ih = λ i. f x refl i ∷ ih i

  pub answers_on : (es : List Element) (words : List ℕ) (w : Ghost) → Point g words w Any → Chain g words es → remaining_answers struck_out es ≡ uanswers w.heap (remaining_calls struck_out es)
  answers_on [] words w p c = refl
  answers_on (e ∷ es) words w p c =
      let n = pass words w e p c.0 c.1 c.2 in
      one_answer w es e.geometry e.after (remaining_call struck_out e.event) n.answer (answers_on es (next_words words e) (ghost_step struck_out w e) n.point c.3)
