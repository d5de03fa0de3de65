-- An acknowledgement, and those of the mutators outside, one after the other: which words stay, and what they need and keep.
use mathlib.Core.Path.{◌≡◌, refl, sym, ◌∙◌, ap}
use mathlib.Core.Bool.{Bool, true, false}
use mathlib.Core.Logic.{inl}
use Prim.Native.Nat.{ℕ, zero, suc, ◌+◌, ◌*◌, ◌≤◌, ◌<◌}
use native.Mathlib.Omega.{arith}
use lib.Dec.{eqb}
use lib.ListN.{get_or}
use lib.Seq.{get_or-set_other}
use borrow.Author.Tests.{eqb-true}
use Rattle.basics.specs.Pick.{pick}
use Rattle.layout.specs.declared.Geometry.{Geometry}
use Rattle.layout.specs.Geometry.{mutator_count, mutator_words, root_count}
use Rattle.layout.specs.Mem.{Mem, Sizes, control_word, mutator_word, set_control, set_mutator, set_trace}
use Rattle.theory.specs.Phases.{Phase, idle, sync1, sync2, mark, sweep, owes}
use Rattle.model.specs.Fields.{phase, absent, outside, state_at, acks_at, state, acks, set_acks, root}
use Rattle.model.specs.Records.{record?, entered, set_entered}
use Rattle.model.specs.Tracing.{push, on_top, push_roots}
use Rattle.model.specs.Mutators.{given, acknowledged}
use Rattle.model.specs.Collector.{outside_answered}
use Rattle.model.specs.Reaching.{IsRoot}
use Rattle.model.specs.Consistent.{RecordOk, Consistent}
use Rattle.model_laws.proofs.Words.{mutator_other}
use Rattle.model_laws.proofs.Entries.{state_set, root_set}
use Rattle.model_laws.proofs.Lengths.{sizes_mutator}
use Rattle.model_laws.proofs.Operations.{sizes_roots}
use Rattle.model_laws.proofs.Pushes.{Untouched, Counted, PushReady, record_same, record_untouched, fold_untouched, fold_ready, roots_next}
use Rattle.theory.specs.Reach as reach

-- an acknowledgement does nothing, sets one acknowledgement, or pushes the roots and sets two
pub acknowledged_by : (g : Geometry) (m : Mem) (k : ℕ) (P : Mem → Type 0) → P m → P (set_acks m k 1) → P (set_acks (push_roots g m k root_count) k 2) → P (acknowledged g m k)
unfolding acknowledged
acknowledged_by g m k P none first second = go (phase m) (owes (phase m) (acks m k))
  where
    go : (p : Phase) (o : Bool) → P (pick o (given g p m k) m)
    go p false = none
    go idle true = none
    go sync1 true = first
    go sync2 true = second
    go mark true = none
    go sweep true = none

roots_untouched : (g : Geometry) (m : Mem) (k : ℕ) → Untouched m (push_roots g m k root_count)
unfolding push_roots
roots_untouched g m k = fold_untouched g (push_roots g m k) (root m k) (roots_next g m k) root_count

-- ---- the acknowledgements may be set before the roots are pushed

push_acks : (g : Geometry) (m : Mem) (k v w : ℕ) → push g (set_acks m k v) (record? w) ≡ set_acks (push g m (record? w)) k v
unfolding push set_mutator set_trace set_control set_entered
push_acks g m k v zero = refl
push_acks g m k v (suc at) = go (eqb (entered g m at) 1)
  where
    go : (x : Bool) → pick x (set_acks m k v) (on_top g (set_acks m k v) at) ≡ set_acks (pick x m (on_top g m at)) k v
    go true = refl
    go false = refl

pub root_acks : (m : Mem) (k v i : ℕ) → i < root_count → root (set_acks m k v) k i ≡ root m k i
unfolding set_mutator
root_acks m k v i l = get_or-set_other m.mutators (k * mutator_words + acks_at) (k * mutator_words + i) v 0 (λ e. omega arith)

pub roots_acks : (g : Geometry) (m : Mem) (k v n : ℕ) → n ≤ root_count → push_roots g (set_acks m k v) k n ≡ set_acks (push_roots g m k n) k v
unfolding push_roots
roots_acks g m k v zero l = refl
roots_acks g m k v (suc n) l =
    ap (λ z. push g z (record? (root (set_acks m k v) k n))) (roots_acks g m k v n (omega arith))
    ∙ ap (λ z. push g (set_acks (push_roots g m k n) k v) (record? z)) (root_acks m k v n l)
    ∙ push_acks g (push_roots g m k n) k v (root m k n)

-- ---- the words that stay: of mutators' entries all but the acknowledgements of this one; and the phase

module _ (g : Geometry) (m : Mem) (s : Sizes g m) (k : ℕ) (l : k < mutator_count) where
  abbrev Stays : ℕ → ℕ → Mem → Type 0
  Stays j o m' = mutator_word m' (j * mutator_words + o) ≡ mutator_word m (j * mutator_words + o)

  pub acknowledged_word : (j o : ℕ) → o < mutator_words → (j ≡ k → o ≡ acks_at → ⊥) → Stays j o (acknowledged g m k)
  acknowledged_word j o h f =
      acknowledged_by g m k (Stays j o) refl
      (mutator_other g m s k acks_at 1 l (omega arith) j o h f)
      (mutator_other g (push_roots g m k root_count) (sizes_roots g m s k root_count) k acks_at 2 l (omega arith) j o h f
      ∙ ap (λ z. get_or z (j * mutator_words + o) 0) (roots_untouched g m k).mutators)

pub acknowledged_phase : (g : Geometry) (m : Mem) (k : ℕ) → control_word (acknowledged g m k) 0 ≡ control_word m 0
unfolding set_mutator
acknowledged_phase g m k = acknowledged_by g m k (λ z. control_word z 0 ≡ control_word m 0) refl refl (roots_untouched g m k).phase

-- ---- what they need and keep: the entries are counted, and the records that roots name are in order

pub record RootsReady (g : Geometry) (m : Mem) : Type 0 where
  pub sizes : Sizes g m
  pub number : Counted g m
  pub records : (at : ℕ) → IsRoot m at → RecordOk g m at

pub roots_ready : (g : Geometry) (m : Mem) → Sizes g m → Consistent g m → RootsReady g m
roots_ready g m s c = record { sizes = s; number = c.sound.trace.number; records = λ at r. c.sound.records at (reach.root (inl r)) }

-- roots that are the same name the same records
same_roots : (m m' : Mem) → ((j : ℕ) → state m' j ≡ state m j) → ((j i : ℕ) → i < root_count → root m' j i ≡ root m j i) → (at : ℕ) → IsRoot m' at → IsRoot m at
same_roots m m' states words at r = record {
  mutator = r.mutator;
  index = r.index;
  few = r.few;
  within = r.within;
  attached = λ e. r.attached (states r.mutator ∙ e);
  names = sym (words r.mutator r.index r.within) ∙ r.names;
}

module _ (g : Geometry) (m : Mem) (y : RootsReady g m) where
  pub ready_roots : PushReady g m
  ready_roots = record { control = let l = y.sizes.control in omega arith; marks = y.sizes.marks; number = y.number }

  module _ (k : ℕ) (l : k < mutator_count) where
    ready_acks : (v : ℕ) → RootsReady g (set_acks m k v)
    unfolding set_mutator
    ready_acks v = record {
      sizes = sizes_mutator g m y.sizes (k * mutator_words + acks_at) v;
      number = y.number;
      records = λ at r. record_same g m (set_acks m k v) refl refl refl at (y.records at (was at r));
    }
      where
        was : (at : ℕ) → IsRoot (set_acks m k v) at → IsRoot m at
        was =
            same_roots m (set_acks m k v) (λ j. state_set g m y.sizes k acks_at v l (omega arith) j (λ x z. omega arith))
            (λ j i h. root_set g m y.sizes k acks_at v l (omega arith) j i h (λ x z. omega arith))

    module _ (there : state m k ≡ absent → ⊥) where
      -- the roots of an attached mutator
      pub root_ok : (i at : ℕ) → i < root_count → root m k i ≡ suc at → RecordOk g m at
      root_ok i at h e = y.records at (record { mutator = k; index = i; few = l; within = h; attached = there; names = e })

      counted_pushed : Counted g (push_roots g m k root_count)
      unfolding push_roots
      counted_pushed = (fold_ready g (push_roots g m k) (root m k) (roots_next g m k) ready_roots root_count root_ok).number

      ready_pushed : RootsReady g (push_roots g m k root_count)
      ready_pushed =
          let u = roots_untouched g m k in
          let w : (j o : ℕ) → mutator_word (push_roots g m k root_count) (j * mutator_words + o) ≡ mutator_word m (j * mutator_words + o) = λ j o. ap (λ z. get_or z (j * mutator_words + o) 0) u.mutators in
          record {
            sizes = sizes_roots g m y.sizes k root_count;
            number = counted_pushed;
            records = λ at r. record_untouched g m (push_roots g m k root_count) u at (y.records at (same_roots m (push_roots g m k root_count) (λ j. w j state_at) (λ j i h. w j i) at r));
          }

-- from one acknowledgement to the next
pub ready_acknowledged : (g : Geometry) (m : Mem) → RootsReady g m → (k : ℕ) → k < mutator_count → (state m k ≡ absent → ⊥) → RootsReady g (acknowledged g m k)
ready_acknowledged g m y k l there =
    acknowledged_by g m k (RootsReady g) y (ready_acks g m y k l 1) (ready_acks g (push_roots g m k root_count) (ready_pushed g m y k l there) k l 2)

-- ---- "answers for outside scripts, in number order": the first n mutators

-- m' is m with the acknowledgements of some of them: ready as before, with the phase, and of mutators' entries all else
pub record AnswersKeep (g : Geometry) (m : Mem) (n : ℕ) (m' : Mem) : Type 0 where
  pub ready : RootsReady g m'
  pub phase : control_word m' 0 ≡ control_word m 0
  pub words : (j o : ℕ) → o < mutator_words → (j < n → o ≡ acks_at → ⊥) → mutator_word m' (j * mutator_words + o) ≡ mutator_word m (j * mutator_words + o)

module _ (g : Geometry) (m : Mem) where
  one_keeps : (k : ℕ) (m' : Mem) → AnswersKeep g m k m' → k < mutator_count → state m k ≡ outside → AnswersKeep g m (suc k) (acknowledged g m' k)
  one_keeps k m' a l e =
      let there : state m' k ≡ absent → ⊥ = λ z. let w = sym z ∙ a.words k state_at (omega arith) (λ x q. omega arith) ∙ e in omega arith in
      record {
        ready = ready_acknowledged g m' a.ready k l there;
        phase = acknowledged_phase g m' k ∙ a.phase;
        words = λ j o h f. acknowledged_word g m' a.ready.sizes k l j o h (λ x. f (omega arith)) ∙ a.words j o h (λ x. f (omega arith));
      }

  module _ (y : RootsReady g m) where
    pub answers_keep : (n : ℕ) → n ≤ mutator_count → AnswersKeep g m n (outside_answered g m n)
    unfolding outside_answered
    answers_keep zero l = record { ready = y; phase = refl; words = λ j o h f. refl }
    answers_keep (suc k) l = go (answers_keep k (omega arith)) (eqb (state m k) outside) refl
      where
        go : AnswersKeep g m k (outside_answered g m k) → (b : Bool) → eqb (state m k) outside ≡ b → AnswersKeep g m (suc k) (pick b (acknowledged g (outside_answered g m k) k) (outside_answered g m k))
        go a true e = one_keeps k (outside_answered g m k) a l (eqb-true _ _ e)
        go a false e = record { ready = a.ready; phase = a.phase; words = λ j o h f. a.words j o h (λ x. f (omega arith)) }
