-- What the parts of the answer to a line owe.
use Rattle.std.specs.Prelude.{◌≡◌, false, List, ℕ, length}
use Rattle.layout.specs.declared.Geometry.{Geometry}
use Rattle.layout.specs.Geometry.{wrong_size}
use Rattle.layout.specs.Mem.{Mem, mem_of}
use Rattle.model.specs.Consistent.{Consistent}
use Rattle.bracket_forms.specs.declared.Reply.{Reply}
use Rattle.bracket_steps.specs.declared.Task.{Task}
use Rattle.bracket_steps.specs.declared.Task.TheVariants.{Open, Call, Start, Step}
use Rattle.bracket_steps.specs.Said.{State, done, reply_of, answered, Good}

-- an opening "works on memory of any content", every other call on memory that passes the examination
abbrev pub TaskReady : Task → Geometry → Mem → Type 0
TaskReady (Open n) g m = Unit
TaskReady (Call q) g m = Consistent g m
TaskReady Start g m = Consistent g m
TaskReady Step g m = Consistent g m

-- a task carried out over the words of its heap
pub record Ran (t : Task) (g : Geometry) (before : List ℕ) (r : Reply) (after : List ℕ) : Type 0 where
  pub exact : wrong_size g (length before) ≡ false → TaskReady t g (mem_of g before)
      → (r ≡ reply_of (done t g (mem_of g before)).0) × (mem_of g after ≡ (done t g (mem_of g before)).1)
  pub keeps : wrong_size g (length before) ≡ false → TaskReady t g (mem_of g before) → length after ≡ length before → Consistent g (mem_of g after)

-- and among the lent words
pub record Carries (t : Task) (s : State) (r : Reply) (after : State) : Type 0 where
  pub exact : Good s → (r ≡ (answered t s).0) × (after ≡ (answered t s).1)
  pub keeps : Good s → Good after
