-- A mutator that comes: its entry unless a handshake is on, and how attach and spawn keep their promises with it.
use mathlib.Core.Path.{◌≡◌, refl, sym, ◌∙◌, ap, subst}
use mathlib.Core.Bool.{Bool, true, false}
use mathlib.Core.Logic.{◌⊎◌, inl, inr}
use mathlib.Core.List.{List}
use Prim.Native.Nat.{ℕ, ◌≤◌, ◌<◌}
use native.Mathlib.Omega.{arith}
use lib.Dec.{ltb}
use lib.ListN.{length}
use borrow.Author.Tests.{lt-ltb, le-ltb, ltb-true, eq-eqb, ne_eqb}
use Rattle.layout.specs.declared.Geometry.{Geometry}
use Rattle.layout.specs.Geometry.{wrong_size, mutator_count, root_count}
use Rattle.layout.specs.Mem.{Mem, mem_of, control_word}
use Rattle.theory.specs.Phases.{in_handshake, newcomer}
use Rattle.theory.specs.Calls.{Call, c_attach, c_spawn, require, if_root, refusal, unless, a_ok}
use Rattle.theory.proofs.Refusals.{require_ok, root_ok}
use Rattle.model.specs.declared.Answer.{Answer}
use Rattle.std.specs.Prelude.{Result, Ok, Err}
use Rattle.model.specs.declared.Answer.TheVariants.{Done}
use Rattle.model.specs.declared.Refusal.{Refusal}
use Rattle.model.specs.declared.Refusal.TheVariants.{Mutator, Taken, NotNow}
use Rattle.model.specs.Refusals.{number_of}
use Rattle.model.specs.Answers.{ResultOf, among, may_give}
use Rattle.model.specs.PhaseNumbers.{phase_of}
use Rattle.model.specs.Fields.{phase, absent, inside, state, root}
use Rattle.model.specs.Mutators.{set_entry, attached}
use Rattle.model.specs.Calls.{is_attached, is_inside, observe, act}
use Rattle.model.specs.Promise.{Promise}
use Rattle.model_laws.proofs.Promised.{refused, done, declined}
use Rattle.mutators.specs.Inside.{inside_then}
use Rattle.mutators.specs.Entry.{entry_of}
use Rattle.attaching.specs.Coming.{Admits, spawn_refusal}

-- ---- by the phase's number n, and whether it is a handshake

pub handshake : (m : Mem) (n : ℕ) (h : Bool) → n ≡ control_word m 0 → h ≡ in_handshake (phase_of n) → in_handshake (phase m) ≡ h
handshake m n h en eh = sym (eh ∙ ap (λ z. in_handshake (phase_of z)) en)

module _ (m : Mem) (k v n : ℕ) (h : Bool) (en : n ≡ control_word m 0) (eh : h ≡ in_handshake (phase_of n)) where
  pub not_admitted : h ≡ true → Admits m k v (Err NotNow) m
  not_admitted t = record { either = inr (refl, handshake m n h en eh ∙ t, refl) }

  pub admitted : h ≡ false → (a : ℕ) → a ≡ newcomer (phase_of n) → (m' : Mem) → m' ≡ set_entry m k (entry_of v inside a) → Admits m k v (Ok Done) m'
  unfolding attached
  admitted f a ea m' e = record { either = inl (refl, handshake m n h en eh ∙ f, e ∙ ap (λ z. set_entry m k (entry_of v inside z)) (ea ∙ ap (λ z. newcomer (phase_of z)) en)) }

-- ---- a call that no number from 2 to 9 refuses and that has a mutator come

module _ (c : Call) (g : Geometry) (xs : List ℕ) (k v : ℕ) (acts : act g (mem_of g xs) c ≡ unless (in_handshake (phase (mem_of g xs))) 11 (mem_of g xs) (attached (mem_of g xs) k v))
    (result : ResultOf c a_ok) (can : among 11 (may_give c) ≡ true) where
  pub comes : wrong_size g (length xs) ≡ false → 0 ≡ refusal (observe (mem_of g xs)) c → (r : Result Answer Refusal) (ys : List ℕ) → Admits (mem_of g xs) k v r (mem_of g ys) → Promise c g xs r ys
  comes e z r ys a = go a.either
    where
      go : ((r ≡ Ok Done) × (in_handshake (phase (mem_of g xs)) ≡ false) × (mem_of g ys ≡ attached (mem_of g xs) k v))
          ⊎ ((r ≡ Err NotNow) × (in_handshake (phase (mem_of g xs)) ≡ true) × (mem_of g ys ≡ mem_of g xs))
          → Promise c g xs r ys
      go (inl (q, b, y)) =
          let w = acts ∙ ap (λ x. unless x 11 (mem_of g xs) (attached (mem_of g xs) k v)) b in
          subst (λ r. Promise c g xs r ys) (sym q) (done c g xs e z result refl (sym (ap (λ x. x.0) w)) (y ∙ sym (ap (λ x. x.1) w)))
      go (inr (q, b, y)) =
          subst (λ r. Promise c g xs r ys) (sym q)
          (declined c g xs NotNow e z (acts ∙ ap (λ x. unless x 11 (mem_of g xs) (attached (mem_of g xs) k v)) b) y can (omega arith))

-- ---- attach: v is the state word

module _ (g : Geometry) (xs : List ℕ) (k : ℕ) (e : wrong_size g (length xs) ≡ false) where
  pub attach_2 : mutator_count ≤ k → Promise (c_attach k) g xs (Err Mutator) xs
  unfolding require
  attach_2 l = refused (c_attach k) g xs Mutator e (rw (le-ltb _ _ l))

  module _ (l : k < mutator_count) (v : ℕ) (s : v ≡ state (mem_of g xs) k) where
    -- "3, taken: attach or spawn onto a number in use"
    pub attach_3 : (v ≡ absent → ⊥) → Promise (c_attach k) g xs (Err Taken) xs
    unfolding require
    attach_3 f = refused (c_attach k) g xs Taken e (rw (lt-ltb _ _ l, ne_eqb _ _ (λ y. f (s ∙ y))))

    pub attaches : v ≡ absent → (r : Result Answer Refusal) (ys : List ℕ) → Admits (mem_of g xs) k 0 r (mem_of g ys) → Promise (c_attach k) g xs r ys
    unfolding act require
    attaches z r ys = comes (c_attach k) g xs k 0 refl refl refl e (rw (lt-ltb _ _ l, eq-eqb _ _ (sym s ∙ z))) r ys

-- ---- the refusals of a spawn

module _ (m : Mem) (k p i : ℕ) where
  pub spawn_2 : mutator_count ≤ k → 2 ≡ spawn_refusal m k p i
  unfolding require spawn_refusal
  spawn_2 l = rw (le-ltb _ _ l)

  module _ (l : k < mutator_count) where
    pub parent_2 : mutator_count ≤ p → 2 ≡ spawn_refusal m k p i
    unfolding require spawn_refusal
    parent_2 h = rw (lt-ltb _ _ l, le-ltb _ _ h)

    module _ (h : p < mutator_count) (v : ℕ) (s : v ≡ state m k) where
      pub spawn_3 : (v ≡ absent → ⊥) → 3 ≡ spawn_refusal m k p i
      unfolding require spawn_refusal
      spawn_3 f = rw (lt-ltb _ _ l, lt-ltb _ _ h, ne_eqb _ _ (λ y. f (s ∙ y)))

      -- where mutator k is known and absent, the refusal is the parent's, whose lowest number is 2
      pub parent_rest : v ≡ absent → (n : ℕ) → n ≡ inside_then m p (if_root i 0) → n ≡ spawn_refusal m k p i
      unfolding require spawn_refusal inside_then
      parent_rest z n q = q ∙ rw (lt-ltb _ _ l, lt-ltb _ _ h, eq-eqb _ _ (sym s ∙ z))

  -- where none of them applies, both numbers and the root are in range
  pub spawn_range : spawn_refusal m k p i ≡ 0 → (k < mutator_count) × (p < mutator_count) × (i < root_count)
  unfolding spawn_refusal
  spawn_range e =
      let a = require_ok (ltb k mutator_count) 2 _ (omega arith) e in
      let b = require_ok (ltb p mutator_count) 2 _ (omega arith) a.1 in
      let t = require_ok _ 3 _ (omega arith) b.1 in
      let q = require_ok (is_attached m p) 4 _ (omega arith) t.1 in
      let o = require_ok (is_inside m p) 5 _ (omega arith) q.1 in
      (ltb-true _ _ a.0, ltb-true _ _ b.0, (root_ok i 0 o.1).0)

-- ---- spawn

module _ (g : Geometry) (xs : List ℕ) (k p i : ℕ) (e : wrong_size g (length xs) ≡ false) where
  pub spawn_refused : (w : Refusal) → number_of w ≡ spawn_refusal (mem_of g xs) k p i → Promise (c_spawn k p i) g xs (Err w) xs
  unfolding spawn_refusal
  spawn_refused w s = refused (c_spawn k p i) g xs w e s

  -- past its refusals
  module _ (s : 0 ≡ spawn_refusal (mem_of g xs) k p i) where
    pub in_range : (k < mutator_count) × (p < mutator_count) × (i < root_count)
    in_range = spawn_range (mem_of g xs) k p i (sym s)

    pub spawns : (v : ℕ) → v ≡ root (mem_of g xs) p i → (r : Result Answer Refusal) (ys : List ℕ) → Admits (mem_of g xs) k v r (mem_of g ys) → Promise (c_spawn k p i) g xs r ys
    unfolding act spawn_refusal
    spawns v w r ys a =
        comes (c_spawn k p i) g xs k (root (mem_of g xs) p i) refl refl refl e s r ys (subst (λ x. Admits (mem_of g xs) k x r (mem_of g ys)) w a)
