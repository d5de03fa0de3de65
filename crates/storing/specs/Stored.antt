-- A store to a word of the heap, and what can hinder its barrier, over memory of any content.
use Rattle.std.specs.Prelude.{◌≡◌, ◌⊎◌, ℕ, Result, Ok, Err}
use Rattle.layout.specs.declared.Geometry.{Geometry}
use Rattle.layout.specs.Mem.{Mem, heap_word, set_heap}
use Rattle.theory.specs.Phases.{duty}
use Rattle.model.specs.declared.Answer.{Answer}
use Rattle.model.specs.declared.Answer.TheVariants.{Done}
use Rattle.model.specs.declared.Refusal.{Refusal}
use Rattle.model.specs.declared.Refusal.TheVariants.{Torn}
use Rattle.model.specs.Fields.{phase, acks}
use Rattle.model.specs.Records.{record?}
use Rattle.model.specs.Tracing.{push, barrier}
use Rattle.tracing.specs.Pushing.{PushFails}

-- the barrier of mutator k, then the word
abbrev pub stored : Geometry → Mem → ℕ → ℕ → ℕ → Mem
stored g m k p new = set_heap (barrier g (duty (phase m) (acks m k)) m (record? new) (record? (heap_word m p))) p new

-- one of its pushes is hindered
abbrev pub Hinders : Geometry → Mem → ℕ → ℕ → Type 0
Hinders g m new o = PushFails g m new ⊎ (PushFails g m o ⊎ PushFails g (push g m (record? new)) o)

-- done and the memory stored to, or 13 where a push is hindered
pub record Stores (g : Geometry) (m : Mem) (k p new : ℕ) (r : Result Answer Refusal) (after : Mem) : Type 0 where
  pub either : ((r ≡ Ok Done) × (after ≡ stored g m k p new)) ⊎ ((r ≡ Err Torn) × Hinders g m new (heap_word m p))
