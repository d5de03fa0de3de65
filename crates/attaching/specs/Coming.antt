-- A mutator that comes, over memory of any content: "11, not now: attach, spawn .. in a roll call", or the entry of a newcomer.
use Rattle.std.specs.Prelude.{◌≡◌, true, false, ◌⊎◌, ℕ, Result, Ok, Err}
use Rattle.layout.specs.Mem.{Mem}
use Rattle.theory.specs.Phases.{in_handshake}
use Rattle.theory.specs.Calls.{c_spawn, refusal}
use Rattle.model.specs.declared.Answer.{Answer}
use Rattle.model.specs.declared.Answer.TheVariants.{Done}
use Rattle.model.specs.declared.Refusal.{Refusal}
use Rattle.model.specs.declared.Refusal.TheVariants.{NotNow}
use Rattle.model.specs.Fields.{phase}
use Rattle.model.specs.Mutators.{attached}
use Rattle.model.specs.Calls.{observe}

-- mutator k comes with v in root 0, or the answer is 11 and nothing changes
pub record Admits (m : Mem) (k v : ℕ) (r : Result Answer Refusal) (after : Mem) : Type 0 where
  pub either : ((r ≡ Ok Done) × (in_handshake (phase m) ≡ false) × (after ≡ attached m k v)) ⊎ ((r ≡ Err NotNow) × (in_handshake (phase m) ≡ true) × (after ≡ m))

-- the lowest of the numbers 2 to 6 that refuses a spawn, by theory's order, and 0 where none does
unfoldable pub spawn_refusal : Mem → ℕ → ℕ → ℕ → ℕ
spawn_refusal m k p i = refusal (observe m) (c_spawn k p i)
