-- Along a cycle: the memory passes the examination at each point, the cycle is not over before its done, and each element advances it.
use mathlib.Core.Path.{◌≡◌, refl, sym, ◌∙◌, ap, subst}
use mathlib.Core.Logic.{◌⊎◌, inl, inr}
use mathlib.Core.Bool.{true, false, true≢false}
use mathlib.Core.List.{List, [], ◌∷◌, ◌++◌}
use Prim.Native.Nat.{ℕ}
use native.Mathlib.Omega.{arith}
use lib.ListN.{length}
use Rattle.layout.specs.declared.Geometry.{Geometry}
use Rattle.layout.specs.Geometry.{wrong_size}
use Rattle.layout.specs.Mem.{mem_of, Sizes}
use Rattle.layout.proofs.Regions.{sized}
use Rattle.theory.specs.Phases.{Phase, idle, sync1, sync2, mark, sweep}
use Rattle.model.specs.declared.Step.{Step}
use Rattle.model.specs.Promise.{StepPromise}
use Rattle.model.specs.Fields.{phase}
use Rattle.model.specs.Consistent.{Consistent}
use Rattle.model.specs.Lists.{step_call, Element, Promised, Meets, Gets, wrong_sized, next_words, Chain, words_after}
use Rattle.model_laws.proofs.Lengths.{sizes_of}
use Rattle.refine_run.proofs.Elements.{is_over}
use Rattle.guarantee.specs.EmptyCycle.{following}
use Rattle.guarantee.proofs.Elements.{every_element}
use Rattle.cycle_bound.specs.CycleBound.{DoneLast}
use Rattle.cycle_bound.proofs.Advancing.{Advances, quiet, moves, traces, sweeps, ends, advances}

not_none : (e : Element) (es : List Element) → (e ∷ es) ≡ [] → ⊥
not_none e es q = let y : ◌≡◌ {A = ℕ} 0 1 = cc in omega arith

-- no handshake, and no mark, leads to idle
still_on : (p : Phase) → following p ≡ idle → p ≡ idle
still_on idle q = refl
still_on sync1 q = absurd (let y : ◌≡◌ {A = ℕ} 0 1 = cc in omega arith)
still_on sync2 q = absurd (let y : ◌≡◌ {A = ℕ} 0 1 = cc in omega arith)
still_on mark q = absurd (let y : ◌≡◌ {A = ℕ} 0 1 = cc in omega arith)
still_on sweep q = absurd (let y : ◌≡◌ {A = ℕ} 0 1 = cc in omega arith)

module _ (g : Geometry) where
  -- an element of the list's size is lent its memory, and a step keeps its promise there
  pub lent : (words : List ℕ) (e : Element) → wrong_sized e ≡ false → (wrong_sized e ≡ true) ⊎ Gets g words e → Gets g words e
  lent words e q (inl h) = absurd (true≢false (sym h ∙ q))
  lent words e q (inr h) = h

  pub step_promise : (words : List ℕ) (e : Element) (r : Step) → e.event ≡ step_call r → Meets e → Gets g words e → StepPromise g words r e.after
  step_promise words e r q a h = subst (λ v. Promised v g words e.after) q (subst Meets (is_over g words e h) a)

  -- a point of a cycle, and what follows it: nothing where it is over
  pub record Inside (words : List ℕ) (ds : List Element) : Type 0 where
    pub right : wrong_size g (length words) ≡ false
    pub consistent : Consistent g (mem_of g words)
    pub chain : Chain g words ds
    pub done_last : DoneLast ds
    pub over : phase (mem_of g words) ≡ idle → ds ≡ []

  pub sizes_at : (words : List ℕ) (ds : List Element) → Inside words ds → Sizes g (mem_of g words)
  sizes_at words ds i = sizes_of g words (sized g (length words) i.right)

  module _ (words : List ℕ) (e : Element) (ds : List Element) (i : Inside words (e ∷ ds)) where
    pub awake : phase (mem_of g words) ≡ idle → ⊥
    awake q = not_none e ds (i.over q)

    pub advance : Advances g (mem_of g words) (mem_of g (next_words words e)) e.event
    advance =
        let o = every_element g words e i.right i.consistent i.chain.0 i.chain.1 i.chain.2 in
        advances g (mem_of g words) (mem_of g (next_words words e)) (sizes_at words (e ∷ ds) i) i.consistent awake e.event o.acts

    over_next : Advances g (mem_of g words) (mem_of g (next_words words e)) e.event → phase (mem_of g (next_words words e)) ≡ idle → ds ≡ []
    over_next (quiet n p c w) q = absurd (awake (sym p ∙ q))
    over_next (moves v f p c) q = absurd (awake (still_on (phase (mem_of g words)) (sym p ∙ q)))
    over_next (traces v t c) q = absurd (let z : mark ≡ idle = sym t.stays ∙ q in let y : ◌≡◌ {A = ℕ} 0 1 = cc in omega arith)
    over_next (sweeps s f v p h c) q = absurd (let z : sweep ≡ idle = sym h ∙ q in let y : ◌≡◌ {A = ℕ} 0 1 = cc in omega arith)
    over_next (ends v p h) q = i.done_last [] ds e refl v

    pub inside_next : Inside (next_words words e) ds
    inside_next =
        let o = every_element g words e i.right i.consistent i.chain.0 i.chain.1 i.chain.2 in
        record {
          right = o.sized;
          consistent = o.consistent;
          chain = i.chain.3;
          done_last = λ xs ys x q. i.done_last (e ∷ xs) ys x (ap (λ (l : List Element). e ∷ l) q);
          over = over_next advance;
        }

  pub inside_walk : (xs ys : List Element) (words : List ℕ) → Inside words (xs ++ ys) → Inside (words_after words xs) ys
  inside_walk [] ys words i = i
  inside_walk (e ∷ xs) ys words i = inside_walk xs ys (next_words words e) (inside_next words e (xs ++ ys) i)
