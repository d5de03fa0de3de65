-- A mutator's entry written whole: cleared, and then three of its words set.
use mathlib.Core.Path.{◌≡◌, refl, sym, ◌∙◌, ap}
use mathlib.Core.List.{List, [], ◌∷◌}
use Prim.Native.Nat.{ℕ, zero, suc, ◌+◌, ◌*◌, ◌<◌}
use native.Mathlib.Omega.{arith}
use lib.ListN.{length, set, replicate}
use lib.Seq.{sets, set-set, set_comm}
use Rattle.layout.specs.Geometry.{mutator_words}
use Rattle.layout.specs.Mem.{Mem, with_region, set_mutator, set_run}
use Rattle.layout.proofs.Spliced.{spliced_sets}
use Rattle.model.specs.Fields.{absent, state_at, acks_at, set_mutator_state, set_acks, set_root}
use Rattle.model.specs.Mutators.{set_entry}
use Rattle.mutators.specs.Entry.{entry_of}
use Rattle.layout.specs.Region as Region

-- ---- a run of stores, and one of its elements stored again

set_before : (vs l : List ℕ) (i j v : ℕ) → j < i → set (sets l i vs) j v ≡ sets (set l j v) i vs
set_before [] l i j v h = refl
set_before (a ∷ vs) l i j v h =
    set_before vs (set l i a) (suc i) j v (omega arith) ∙ ap (λ (z : List ℕ). sets z (suc i) vs) (set_comm l i j a v (λ e. omega arith))

set-within : (vs l : List ℕ) (i j v : ℕ) → j < length vs → set (sets l i vs) (i + j) v ≡ sets l i (set vs j v)
set-within [] l i j v h = absurd (omega arith)
set-within (a ∷ vs) l i zero v h =
    let e : i + 0 ≡ i = omega arith in
    ap (λ n. set (sets (set l i a) (suc i) vs) n v) e ∙ set_before vs (set l i a) (suc i) i v (omega arith) ∙ ap (λ (z : List ℕ). sets z (suc i) vs) (set-set l i a v)
set-within (a ∷ vs) l i (suc j) v h =
    let e : i + suc j ≡ suc i + j = omega arith in
    ap (λ n. set (sets (set l i a) (suc i) vs) n v) e ∙ set-within vs (set l i a) (suc i) j v (omega arith)

-- ---- a word of an entry that was written whole

word_within : (m : Mem) (k o v : ℕ) (vs : List ℕ) → o < length vs → set_mutator (set_entry m k vs) (k * mutator_words + o) v ≡ set_entry m k (set vs o v)
unfolding set_mutator set_run
word_within m k o v vs h =
    ap (with_region m Region.mutators)
    (ap (λ (z : List ℕ). set z (k * mutator_words + o) v) (spliced_sets m.mutators (k * mutator_words) vs)
    ∙ set-within vs m.mutators (k * mutator_words) o v h
    ∙ sym (spliced_sets m.mutators (k * mutator_words) (set vs o v)))

pub entry_written : (m m₁ m₂ m₃ m₄ : Mem) (k v s a : ℕ) → m₁ ≡ set_entry m k (replicate mutator_words 0) → m₂ ≡ set_root m₁ k 0 v → m₃ ≡ set_mutator_state m₂ k s → m₄ ≡ set_acks m₃ k a
    → m₄ ≡ set_entry m k (entry_of v s a)
entry_written m m₁ m₂ m₃ m₄ k v s a e₁ e₂ e₃ e₄ =
    e₄
    ∙ ap (λ z. set_acks z k a)
    (e₃ ∙ ap (λ z. set_mutator_state z k s) (e₂ ∙ ap (λ z. set_root z k 0 v) e₁ ∙ word_within m k 0 v _ (omega arith)) ∙ word_within m k state_at s _ (omega arith))
    ∙ word_within m k acks_at a _ (omega arith)

-- an absent mutator's
pub entry_cleared : entry_of 0 absent 0 ≡ replicate mutator_words 0
entry_cleared = refl
