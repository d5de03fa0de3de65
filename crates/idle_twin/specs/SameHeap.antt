-- Memories of the same heap: only the collector's own words may differ. A mutator's call over two such memories, the second in idle; and that no such
-- call changes the phase.
use Rattle.std.specs.Prelude.{◌≡◌, true, ℕ, ◌+◌, ◌*◌, ◌<◌, length}
use Rattle.layout.specs.declared.Geometry.{Geometry}
use Rattle.layout.specs.Geometry.{mutator_words}
use Rattle.layout.specs.Mem.{Mem, Sizes, mutator_word}
use Rattle.theory.specs.Phases.{idle, in_handshake}
use Rattle.theory.specs.Calls.{Call, a_no}
use Rattle.model.specs.Fields.{acks_at, phase}
use Rattle.model.specs.Calls.{exec}

-- Equal but for control words, acknowledgements, marks and trace entries: every word of the mutators' entries but the acknowledgements,
-- every word of the heap, of the segment records, of the stacks and of the bitmaps.
pub record SameHeap (m m' : Mem) : Type 0 where
  pub long : length m'.mutators ≡ length m.mutators
  pub entries : (k o : ℕ) → o < mutator_words → (o ≡ acks_at → ⊥) → mutator_word m' (k * mutator_words + o) ≡ mutator_word m (k * mutator_words + o)
  pub heap : m'.heap ≡ m.heap
  pub segments : m'.segments ≡ m.segments
  pub stacks : m'.stacks ≡ m.stacks
  pub bitmaps : m'.bitmaps ≡ m.bitmaps

-- it is refused 11 in a handshake and nothing changes; or the answer is the one over the memory in idle, and the heap is the same again
pub data AsInIdle (g : Geometry) (m idle_mem : Mem) (c : Call) : Type 0 where
  not_now : in_handshake (phase m) ≡ true → exec g m c ≡ (a_no 11, m) → AsInIdle g m idle_mem c
  same : (exec g m c).0 ≡ (exec g idle_mem c).0 → SameHeap (exec g m c).1 (exec g idle_mem c).1 → AsInIdle g m idle_mem c

-- of the definitions, over words of any content in regions of the right sizes
abbrev pub EveryCall : Type 0
EveryCall = (g : Geometry) (m idle_mem : Mem) → Sizes g m → SameHeap m idle_mem → phase idle_mem ≡ idle → (c : Call) → AsInIdle g m idle_mem c

-- a mutator's call leaves the phase as it is
abbrev pub PhaseStays : Type 0
PhaseStays = (g : Geometry) (m : Mem) (c : Call) → phase (exec g m c).1 ≡ phase m
