-- How enter keeps its promise, by the mutator's state word.
use mathlib.Core.Path.{◌≡◌, refl, sym, ◌∙◌}
use mathlib.Core.Bool.{false}
use mathlib.Core.List.{List}
use Prim.Native.Nat.{ℕ, ◌≤◌, ◌<◌}
use lib.ListN.{length}
use borrow.Author.Tests.{lt-ltb, le-ltb, eq-eqb, ne_eqb}
use Rattle.layout.specs.declared.Geometry.{Geometry}
use Rattle.layout.specs.Geometry.{wrong_size, mutator_count}
use Rattle.layout.specs.Mem.{Mem, mem_of}
use Rattle.theory.specs.Calls.{c_enter, require, refusal}
use Rattle.std.specs.Prelude.{Ok, Err}
use Rattle.model.specs.declared.Answer.TheVariants.{Done}
use Rattle.model.specs.declared.Refusal.TheVariants.{Mutator, Absent, Side}
use Rattle.model.specs.Fields.{absent, inside, state, set_mutator_state}
use Rattle.model.specs.Calls.{observe, act}
use Rattle.model.specs.Promise.{Promise}
use Rattle.model_laws.proofs.Promised.{refused, done}

module _ (m : Mem) (k : ℕ) where
  unknown : mutator_count ≤ k → 2 ≡ refusal (observe m) (c_enter k)
  unfolding require
  unknown l = rw (le-ltb _ _ l)

  module _ (l : k < mutator_count) where
    gone : state m k ≡ absent → 4 ≡ refusal (observe m) (c_enter k)
    unfolding require
    gone e = rw (lt-ltb _ _ l, eq-eqb _ _ e)

    module _ (a : state m k ≡ absent → ⊥) where
      -- "5, side: enter while inside"
      already : state m k ≡ inside → 5 ≡ refusal (observe m) (c_enter k)
      unfolding require
      already e = rw (lt-ltb _ _ l, ne_eqb _ _ a, eq-eqb _ _ e)

      may : (state m k ≡ inside → ⊥) → 0 ≡ refusal (observe m) (c_enter k)
      unfolding require
      may n = rw (lt-ltb _ _ l, ne_eqb _ _ a, ne_eqb _ _ n)

-- v is the state word
module _ (g : Geometry) (xs : List ℕ) (k : ℕ) (e : wrong_size g (length xs) ≡ false) where
  pub enter_2 : mutator_count ≤ k → Promise (c_enter k) g xs (Err Mutator) xs
  enter_2 l = refused (c_enter k) g xs Mutator e (unknown (mem_of g xs) k l)

  module _ (l : k < mutator_count) (v : ℕ) (s : v ≡ state (mem_of g xs) k) where
    pub enter_4 : v ≡ absent → Promise (c_enter k) g xs (Err Absent) xs
    enter_4 z = refused (c_enter k) g xs Absent e (gone (mem_of g xs) k l (sym s ∙ z))

    module _ (a : v ≡ absent → ⊥) where
      pub enter_5 : v ≡ inside → Promise (c_enter k) g xs (Err Side) xs
      enter_5 z = refused (c_enter k) g xs Side e (already (mem_of g xs) k l (λ y. a (s ∙ y)) (sym s ∙ z))

      pub enter_ok : (v ≡ inside → ⊥) → (ys : List ℕ) → mem_of g ys ≡ set_mutator_state (mem_of g xs) k inside → Promise (c_enter k) g xs (Ok Done) ys
      unfolding act
      enter_ok n ys q = done (c_enter k) g xs e (may (mem_of g xs) k l (λ y. a (s ∙ y)) (λ y. n (s ∙ y))) refl refl refl q
