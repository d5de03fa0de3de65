-- The invariant of the abstract machine: what the collector argument carries from call to call. Only proofs use it.
use Rattle.std.specs.Prelude.{◌≡◌, Bool, true, false, ℕ, ◌≤◌}
use mathlib.Core.List.{List, [], ◌∷◌, Memᴰ}
use Rattle.theory.specs.Machine.{State, Holds, Points, Live, Reached, Covered}
use Rattle.theory.specs.Phases.{Phase, idle, sync1, sync2, mark, sweep}

-- entries of the trace stack are unmarked, and each stands there once
abbrev pub Nodup : List ℕ → Type 0
Nodup [] = Unit {0}
Nodup (x ∷ l) = (¬ Memᴰ x l) × Nodup l

pub record StackOk (m : ℕ → Bool) (l : List ℕ) : Type 0 where
  pub white : (x : ℕ) → Memᴰ x l → m x ≡ false
  pub nodup : Nodup l

abbrev pub Tracing : Phase → Type 0
Tracing idle = ⊥
Tracing sync1 = Unit {0}
Tracing sync2 = Unit {0}
Tracing mark = Unit {0}
Tracing sweep = ⊥

abbrev pub Quiet : Phase → Type 0
Quiet idle = Unit {0}
Quiet sync1 = ⊥
Quiet sync2 = ⊥
Quiet mark = ⊥
Quiet sweep = Unit {0}

-- acknowledgements after which a mutator's roots must be covered
abbrev pub Acked : ℕ → Type 0
Acked a = 2 ≤ a

-- the tricolour invariant
pub record Core (st : State) : Type 0 where
  pub roots_covered : (i b : ℕ) → Acked (st.acks i) → Holds st i b → Covered st b
  pub pointers_covered : (x y : ℕ) → Live st x → st.marked x ≡ true → Points st x y → Covered st y

pub record Inv (segment_of : ℕ → ℕ) (st : State) : Type 0 where
  pub valid : (b : ℕ) → Live st b → st.used b ≡ true
  pub stack : StackOk st.marked st.stack
  pub quiet : Quiet st.phase → st.stack ≡ []
  pub blank : st.phase ≡ sync1 → (b : ℕ) → Live st b → st.marked b ≡ false
  pub first : st.phase ≡ sync1 → (i : ℕ) → st.acks i ≤ 1
  pub second : st.phase ≡ sync2 → (i : ℕ) → st.attached i ≡ true → 1 ≤ st.acks i
  pub all : st.phase ≡ mark → (i : ℕ) → st.attached i ≡ true → 2 ≤ st.acks i
  pub core : Tracing st.phase → Core st
  pub kept : st.phase ≡ sweep → (b : ℕ) → Reached st b → st.condemned (segment_of b) ≡ true → st.marked b ≡ true
