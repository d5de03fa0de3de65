-- What beginning the acknowledgements anew changes: that word of every mutator's entry, which becomes 0, and no other.
use mathlib.Core.Path.{◌≡◌, refl, ◌∙◌, ap}
use mathlib.Core.Logic.{◌⊎◌, inl, inr}
use Prim.Native.Nat.{ℕ, zero, suc, ◌+◌, ◌*◌, ◌≤◌, ◌<◌}
use native.Mathlib.Omega.{arith}
use lib.ListN.{get_or-eq_default}
use Rattle.basics.proofs.Order.{le_or_lt, same_or_not}
use Rattle.layout.specs.declared.Geometry.{Geometry}
use Rattle.layout.specs.Geometry.{mutator_count, mutator_words}
use Rattle.layout.specs.Mem.{Mem, mutator_word, set_mutator, Sizes}
use Rattle.model.specs.Fields.{acks_at, acks, set_acks}
use Rattle.model.specs.Collector.{acks_reset}
use Rattle.model_laws.proofs.Words.{mutator_there, mutator_other}
use Rattle.words.proofs.Counts.{lt_of}
use Rattle.model_laws.proofs.Operations.{sizes_reset}

-- ---- the other regions

pub record BesideMutators (m m' : Mem) : Type 0 where
  pub control : m'.control ≡ m.control
  pub segments : m'.segments ≡ m.segments
  pub stacks : m'.stacks ≡ m.stacks
  pub bitmaps : m'.bitmaps ≡ m.bitmaps
  pub trace : m'.trace ≡ m.trace
  pub heap : m'.heap ≡ m.heap

pub beside_reset : (m : Mem) (n : ℕ) → BesideMutators m (acks_reset m n)
unfolding acks_reset set_mutator
beside_reset m zero = record { control = refl; segments = refl; stacks = refl; bitmaps = refl; trace = refl; heap = refl }
beside_reset m (suc k) =
    let b = beside_reset m k in
    record { control = b.control; segments = b.segments; stacks = b.stacks; bitmaps = b.bitmaps; trace = b.trace; heap = b.heap }

-- ---- the mutators' words

module _ (g : Geometry) (m : Mem) (z : Sizes g m) where
  words_kept : (n : ℕ) → n ≤ mutator_count → (k o : ℕ) → o < mutator_words → (o ≡ acks_at → ⊥) → mutator_word (acks_reset m n) (k * mutator_words + o) ≡ mutator_word m (k * mutator_words + o)
  unfolding acks_reset
  words_kept zero h k o l f = refl
  words_kept (suc j) h k o l f = mutator_other g (acks_reset m j) (sizes_reset g m z j) j acks_at 0 (omega arith) (omega arith) k o l (λ e q. f q) ∙ words_kept j (omega arith) k o l f

  acks_below : (n : ℕ) → n ≤ mutator_count → (k : ℕ) → k < n → acks (acks_reset m n) k ≡ 0
  unfolding acks_reset
  acks_below zero h k l = absurd (omega arith)
  acks_below (suc j) h k l = go (same_or_not k j) (λ q. acks_below j (omega arith) k q)
    where
      go : (k ≡ j) ⊎ (k ≡ j → ⊥) → (k < j → acks (acks_reset m j) k ≡ 0) → acks (set_acks (acks_reset m j) j 0) k ≡ 0
      go (inl q) ih = ap (acks (set_acks (acks_reset m j) j 0)) q ∙ mutator_there g (acks_reset m j) (sizes_reset g m z j) j acks_at 0 (omega arith) (omega arith)
      go (inr q) ih = mutator_other g (acks_reset m j) (sizes_reset g m z j) j acks_at 0 (omega arith) (omega arith) k acks_at (omega arith) (λ e y. q e) ∙ ih (lt_of l q)

  pub reset_kept : (k o : ℕ) → o < mutator_words → (o ≡ acks_at → ⊥) → mutator_word (acks_reset m mutator_count) (k * mutator_words + o) ≡ mutator_word m (k * mutator_words + o)
  reset_kept = words_kept mutator_count (omega arith)

  -- past the last mutator the word is 0
  pub reset_acks : (k : ℕ) → acks (acks_reset m mutator_count) k ≡ 0
  reset_acks k = go (le_or_lt mutator_count k)
    where
      go : (mutator_count ≤ k) ⊎ (k < mutator_count) → acks (acks_reset m mutator_count) k ≡ 0
      go (inl l) = let y = (sizes_reset g m z mutator_count).mutators in get_or-eq_default (acks_reset m mutator_count).mutators 0 (omega arith)
      go (inr l) = acks_below mutator_count (omega arith) k l
