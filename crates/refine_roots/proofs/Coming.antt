-- A mutator's entry written whole when it comes: attach and spawn.
use mathlib.Core.Path.{◌≡◌, refl, sym, ◌∙◌, ap, subst}
use mathlib.Core.Logic.{◌⊎◌, inl, inr, ⊎_elim}
use mathlib.Core.Bool.{Bool, true, false, not, true≢false}
use mathlib.Core.Option.{none}
use mathlib.Core.List.{List, ◌∷◌, ◌++◌}
use Prim.Native.Nat.{ℕ, zero, suc, ◌+◌, ◌-◌, ◌*◌, ◌≤◌, ◌<◌}
use native.Mathlib.Omega.{arith}
use lib.Dec.{eqb, ltb}
use lib.ListN.{length, get_or, replicate, get_or-replicate, get_or-append}
use lib.Seq.{get_or-append-add}
use borrow.Author.Tests.{eqb-true, not-true, not-false, ltb-true}
use Rattle.basics.proofs.Order.{same_or_not}
use Rattle.classes.specs.Class.{first_class, IsClass}
use Rattle.layout.specs.declared.Geometry.{Geometry}
use Rattle.layout.specs.Geometry.{mutator_count, mutator_words, root_count, segment_of}
use Rattle.layout.specs.Mem.{Mem, mutator_word, set_run, Sizes}
use Rattle.theory.specs.Phases.{Phase, idle, sync1, sync2, mark, sweep, newcomer, in_handshake}
use Rattle.theory.specs.Calls.{c_attach, c_spawn, refusal}
use Rattle.theory.proofs.Refusals.{require_ok, root_ok}
use Rattle.theory.specs.Update.{upd}
use Rattle.theory.proofs.Updates.{upd_hit, upd_other, upd_hit₁, upd_miss₁}
use Rattle.theory.proofs.CycleKeeps.{attach_live}
use Rattle.model.specs.Fields.{phase, absent, inside, state_at, acks_at, held_from, state, acks, holding}
use Rattle.model.specs.Records.{record?}
use Rattle.model.specs.Mutators.{attached, set_entry}
use Rattle.model.specs.Calls.{is_attached, is_inside, observe, act}
use Rattle.model.specs.Reaching.{IsRoot}
use Rattle.model.specs.Consistent.{MutatorOk}
use Rattle.refine_view.specs.View.{view}
use Rattle.refine_view.specs.Refines.{Ordered, Moves, CallRefines}
use Rattle.refine_view.proofs.Seeing.{root_on}
use Rattle.model_laws.proofs.Rooted.{named}
use Rattle.refine_view.proofs.Invariants.{to_inv, structure_of}
use Rattle.refine_view.proofs.SelfSimulation.{matches_by, unless_refines}
use Rattle.model_laws.proofs.Rooted.{is_root}
use Rattle.theory.proofs.Updates.{upd_by}
use Rattle.model_laws.proofs.Entries.{holding_word, holding_by, table_below, entry_in, entry_out}
use Rattle.refine_view.proofs.EntriesOnly.{entries_moves}
use Rattle.theory.specs.Machine as machine
use Rattle.model.specs.Fields as fields

-- ---- the entry of a mutator that comes, with its first root

module _ (g : Geometry) (m : Mem) (s : Sizes g m) (c : Ordered g m) (k v : ℕ) (l : k < mutator_count) (a : state m k ≡ absent) (r : (b : ℕ) → v ≡ suc b → IsRoot m b) where
  abbrev words : List ℕ
  words = v ∷ replicate (root_count - 1) 0 ++ inside ∷ newcomer (phase m) ∷ replicate (mutator_words - held_from) 0

  long : length words ≡ mutator_words
  long = refl

  abbrev now : Mem
  now = set_entry m k words

  -- word o of the entry, and of another
  word_here : (o : ℕ) → o < mutator_words → mutator_word now (k * mutator_words + o) ≡ get_or words o 0
  unfolding set_run
  word_here o h = entry_in g m s k l words long o h

  word_there : (j o : ℕ) → o < mutator_words → (j ≡ k → ⊥) → mutator_word now (j * mutator_words + o) ≡ mutator_word m (j * mutator_words + o)
  unfolding set_run
  word_there j o h f = entry_out g m s k l words long j o h f

  state_here : (j : ℕ) → j ≡ k → state now j ≡ inside
  state_here j e = ap (state now) e ∙ word_here state_at (omega arith)

  state_there : (j : ℕ) → (j ≡ k → ⊥) → state now j ≡ state m j
  state_there j f = word_there j state_at (omega arith) f

  abbrev after : List ℕ
  after = inside ∷ newcomer (phase m) ∷ replicate (mutator_words - held_from) 0

  -- the roots after the first, and the words after the acknowledgements, are 0
  zero_root : (i : ℕ) → suc i < root_count → get_or words (suc i) 0 ≡ 0
  zero_root i h = get_or-append (replicate (root_count - 1) 0) after 0 i (omega arith) ∙ get_or-replicate (root_count - 1) i 0 0 (omega arith)

  zero_held : (o : ℕ) → o < mutator_words - held_from → get_or words (held_from + o) 0 ≡ 0
  zero_held o h =
      let e : held_from + o ≡ suc (length (replicate {A = ℕ} (root_count - 1) 0) + suc (suc o)) = omega arith in
      ap (λ z. get_or words z 0) e ∙ get_or-append-add (replicate (root_count - 1) 0) after (suc (suc o)) 0 ∙ get_or-replicate (mutator_words - held_from) o 0 0 h

  root_here : (i : ℕ) → i < root_count → fields.root now k i ≡ get_or words i 0
  root_here i h = word_here i (omega arith)

  first_root : (i : ℕ) → i < root_count → record? (fields.root now k i) ≡ upd (λ _. none) 0 (record? v) i
  first_root zero h = ap record? (root_here 0 h) ∙ sym (upd_hit (λ _. none) 0 (record? v) 0 refl)
  first_root (suc i) h = ap record? (root_here (suc i) h ∙ zero_root i h) ∙ sym (upd_other (λ _. none) 0 (record? v) (suc i) (λ z. omega arith))

  root_at : (j i : ℕ) → i < root_count → record? (fields.root now j i) ≡ upd (λ j i. record? (fields.root m j i)) k (upd (λ _. none) 0 (record? v)) j i
  root_at j i h = ⊎_elim
      (λ e. ap (λ z. record? (fields.root now z i)) e ∙ first_root i h ∙ sym (upd_hit₁ (λ j i. record? (fields.root m j i)) k (upd (λ _. none) 0 (record? v)) j i e))
      (λ f. ap record? (word_there j i (omega arith) f) ∙ sym (upd_miss₁ (λ j i. record? (fields.root m j i)) k (upd (λ _. none) 0 (record? v)) j i f)) (same_or_not j k)

  holding_here : (cl : ℕ) → IsClass cl → holding now k cl ≡ 0
  holding_here cl q =
      let x = q.0 in
      let y = q.1 in
      holding_word now k cl ∙ word_here (held_from + (cl - first_class)) (omega arith) ∙ zero_held (cl - first_class) (omega arith)

  holding_there : (j cl : ℕ) → IsClass cl → (j ≡ k → ⊥) → holding now j cl ≡ holding m j cl
  holding_there j cl q f = holding_by m now j cl (word_there j (held_from + (cl - first_class)) (table_below cl q) f)

  newcomer_le : (p : Phase) → newcomer p ≤ 2
  newcomer_le idle = omega arith
  newcomer_le sync1 = omega arith
  newcomer_le sync2 = omega arith
  newcomer_le mark = omega arith
  newcomer_le sweep = omega arith

  mutator_on : (j : ℕ) → j < mutator_count → MutatorOk g now j
  unfolding set_run
  mutator_on j q = go (same_or_not j k)
    where
      here : MutatorOk g now k
      here = record {
        states = subst (λ z. z ≤ 2) (sym (state_here k refl)) (omega arith);
        acknowledged = subst (λ z. z ≤ 2) (sym (word_here acks_at (omega arith))) (newcomer_le (phase m));
        gone = λ e i w. absurd (let z = sym (state_here k refl) ∙ e in omega arith);
        holds = λ cl r i e. absurd (let z = sym (holding_here cl i) ∙ e in omega arith);
      }

      there : (j ≡ k → ⊥) → MutatorOk g now j
      there f =
          let o = c.mutators j q in
          record {
            states = subst (λ z. z ≤ 2) (sym (state_there j f)) o.states;
            acknowledged = subst (λ z. z ≤ 2) (sym (word_there j acks_at (omega arith) f)) o.acknowledged;
            gone = λ e i w. word_there j i (omega arith) f ∙ o.gone (sym (state_there j f) ∙ e) i w;
            holds = λ cl r i e. o.holds cl r i (sym (holding_there j cl i f) ∙ e);
          }

      go : (j ≡ k) ⊎ (j ≡ k → ⊥) → MutatorOk g now j
      go (inl e) = subst (MutatorOk g now) (sym e) here
      go (inr f) = there f

  other : (j : ℕ) → (state m j ≡ absent → ⊥) → j ≡ k → ⊥
  other j f e = f (ap (state m) e ∙ a)

  module _ (quiet : in_handshake (phase m) ≡ false) where
    not_first : phase m ≡ sync1 → ⊥
    not_first e = true≢false (ap in_handshake (sym e) ∙ quiet)

    not_second : phase m ≡ sync2 → ⊥
    not_second e = true≢false (ap in_handshake (sym e) ∙ quiet)

    pub coming_moves : Moves g m (attached m k v) (machine.attach (view g m) k (record? v))
    unfolding attached set_run
    coming_moves = entries_moves g m _ _ _ _ _ s (structure_of g m c) (record {
      mutators = mutator_on;
      held = λ j cl q i f. (λ e. f (sym (state_there j (other j f)) ∙ e), holding_there j cl i (other j f));
      attached = λ j. upd_by (is_attached m) k true j (is_attached now j) (λ e. ap (λ x. not (eqb x absent)) (state_here j e)) (λ f. ap (λ x. not (eqb x absent)) (state_there j f));
      inside = λ j. upd_by (is_inside m) k true j (is_inside now j) (λ e. ap (λ x. eqb x inside) (state_here j e)) (λ f. ap (λ x. eqb x inside) (state_there j f));
      acks = λ j. upd_by (acks m) k (newcomer (phase m)) j (acks now j) (λ e. ap (acks now) e ∙ word_here acks_at (omega arith)) (λ f. word_there j acks_at (omega arith) f);
      root = λ j i b q. root_at j i q;
      live = λ x p. attach_live (segment_of g) (view g m) (to_inv g m s c) k (record? v) (λ b e. root_on g m b (r b (named v b e))) not_first not_second p;
    })

-- refused 11 in a handshake, and then nothing changes
module _ (out : ℕ → Bool) (late : out 11 ≡ true) (g : Geometry) (m : Mem) (s : Sizes g m) (c : Ordered g m) where
  not_there : (k : ℕ) → not (is_attached m k) ≡ true → state m k ≡ absent
  not_there k e = eqb-true _ _ (not-false _ (not-true _ e))

  pub attach_refines : (k : ℕ) → refusal (observe m) (c_attach k) ≡ 0 → CallRefines out g m (c_attach k)
  unfolding act
  attach_refines k e =
      let p = require_ok (ltb k mutator_count) 2 _ (omega arith) e in
      let q = require_ok (not (is_attached m k)) 3 _ (omega arith) p.1 in
      unless_refines out g m (attached m k 0) (c_attach k) 11 late (in_handshake (phase m))
      (λ x. matches_by g m (c_attach k) _ x refl (coming_moves g m s c k 0 (ltb-true _ _ p.0) (not_there k q.0) (λ b y. absurd (omega arith)) x))

  pub spawn_refines : (k p i : ℕ) → refusal (observe m) (c_spawn k p i) ≡ 0 → CallRefines out g m (c_spawn k p i)
  unfolding act
  spawn_refines k p i e =
      let a = require_ok (ltb k mutator_count) 2 _ (omega arith) e in
      let b = require_ok (ltb p mutator_count) 2 _ (omega arith) a.1 in
      let d = require_ok (not (is_attached m k)) 3 _ (omega arith) b.1 in
      let f = require_ok (is_attached m p) 4 _ (omega arith) d.1 in
      let n = require_ok (is_inside m p) 5 _ (omega arith) f.1 in
      let q = root_ok i _ n.1 in
      unless_refines out g m (attached m k (fields.root m p i)) (c_spawn k p i) 11 late (in_handshake (phase m))
      (λ x. matches_by g m (c_spawn k p i) _ x refl
      (coming_moves g m s c k (fields.root m p i) (ltb-true _ _ a.0) (not_there k d.0) (λ at y. is_root m p i at (ltb-true _ _ b.0) q.0 f.0 y) x))
