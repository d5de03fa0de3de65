-- The parts of a step in a handshake: the acknowledgements of the mutators outside and what can hinder them, and how many inside still owe, over
-- memory of any content.
use Rattle.std.specs.Prelude.{◌≡◌, Bool, true, false, ◌&&◌, ℕ, ◌≤◌, ◌<◌, eqb, Some, None}
use Rattle.std.specs.declared.option.Option.{Option}
use Rattle.basics.specs.Pick.{one_if}
use Rattle.layout.specs.declared.Geometry.{Geometry}
use Rattle.layout.specs.Geometry.{mutator_count}
use Rattle.layout.specs.Mem.{Mem}
use Rattle.theory.specs.Phases.{Phase, owes}
use Rattle.theory.specs.Calls.{Answer}
use Rattle.model.specs.Fields.{inside, outside, state, acks}
use Rattle.model.specs.Collector.{outside_answered, waiting, moved_or_waiting}
use Rattle.tracing.specs.Roots.{RootFails}

-- k is the first mutator outside, from a number on
pub record FirstOutside (m : Mem) (from k : ℕ) : Type 0 where
  pub after : from ≤ k
  pub few : k < mutator_count
  pub before : (j : ℕ) → from ≤ j → j < k → state m j ≡ outside → ⊥
  pub is : state m k ≡ outside

-- the first mutator outside, from a number on, or none where there is none
pub record NextOutside (m : Mem) (from : ℕ) (r : Option ℕ) : Type 0 where
  pub some : (k : ℕ) → r ≡ Some k → FirstOutside m from k
  pub none : r ≡ None → (j : ℕ) → from ≤ j → j < mutator_count → state m j ≡ outside → ⊥

-- the acknowledgement of one mutator outside is hindered, after those before it
pub record AnswerFails (g : Geometry) (m : Mem) : Type 0 where
  pub mutator : ℕ
  pub few : mutator < mutator_count
  pub is : state m mutator ≡ outside
  pub why : RootFails g (outside_answered g m mutator) mutator

-- true and the memory with the acknowledgements of all mutators outside, or false where one is hindered
pub record AnswersOutside (g : Geometry) (m : Mem) (r : Bool) (after : Mem) : Type 0 where
  pub done : r ≡ true → after ≡ outside_answered g m mutator_count
  pub fails : r ≡ false → AnswerFails g m

-- 1 where mutator k is inside and owes an acknowledgement in a phase
unfoldable pub waits : Mem → Phase → ℕ → ℕ
waits m p k = one_if (eqb (state m k) inside && owes p (acks m k))

-- a step in a handshake, with the phase after it
abbrev pub handshakes : Phase → Geometry → Mem → Answer × Mem
handshakes p g m = moved_or_waiting (waiting (outside_answered g m mutator_count) mutator_count) (outside_answered g m mutator_count) p
