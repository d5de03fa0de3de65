-- The rules of the cycle, as small functions of the phase and of a mutator's acknowledgements. Document 01: "Phases are idle,
-- roll 1, roll 2, mark and sweep: ASYNC, SYNC1, SYNC2, MARK and ASYNC again in document 000."
use Rattle.std.specs.Prelude.{Bool, true, false, ℕ, zero, suc}

-- document 01: idle, roll 1, roll 2, mark, sweep
pub data Phase : Type 0 where
  idle sync1 sync2 mark sweep : Phase

-- "the two roll calls"
abbrev pub in_handshake : Phase → Bool
in_handshake idle = false
in_handshake sync1 = true
in_handshake sync2 = true
in_handshake mark = false
in_handshake sweep = false

-- what a store enters on the trace stack
pub data Duty : Type 0 where
  nothing both old : Duty

-- "between a script's first answer and the phase mark, it enters the new value, then the old. In mark it enters the old value.
-- Otherwise nothing."
abbrev pub duty : Phase → ℕ → Duty
duty idle acks = nothing
duty sync1 zero = nothing
duty sync1 (suc acks) = both
duty sync2 zero = nothing
duty sync2 (suc acks) = both
duty mark acks = old
duty sweep acks = nothing

-- "a script that owes an answer to the roll call": one acknowledgement is wanted in the first handshake, two in the second
abbrev pub owes : Phase → ℕ → Bool
owes idle acks = false
owes sync1 zero = true
owes sync1 (suc acks) = false
owes sync2 zero = true
owes sync2 (suc zero) = true
owes sync2 (suc (suc acks)) = false
owes mark acks = false
owes sweep acks = false

abbrev pub twice : ℕ → Bool
twice zero = false
twice (suc zero) = false
twice (suc (suc acks)) = true

-- allocated black: "A block made by a script after its second answer, until the phase sweep, is born marked"
abbrev pub black : Phase → ℕ → Bool
black idle acks = false
black sync1 acks = false
black sync2 acks = twice acks
black mark acks = twice acks
black sweep acks = false

-- "A script attached or spawned in mark counts as having given both answers."
abbrev pub newcomer : Phase → ℕ
newcomer idle = 0
newcomer sync1 = 0
newcomer sync2 = 0
newcomer mark = 2
newcomer sweep = 0
