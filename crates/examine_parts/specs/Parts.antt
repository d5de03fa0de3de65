-- The part of `Sound` that is decided segment by segment and mutator by mutator, and its pieces as the examination goes through them.
use Rattle.std.specs.Prelude.{◌≡◌, ℕ, suc, ◌+◌, ◌*◌, ◌≤◌, ◌<◌}
use Rattle.words.specs.Bits.{bit_at}
use Rattle.layout.specs.declared.Geometry.{Geometry}
use Rattle.layout.specs.Geometry.{mutator_count, mutator_words, entry_words, blocks_in}
use Rattle.layout.specs.Mem.{Mem, control_word, mutator_word}
use Rattle.theory.specs.Phases.{sweep}
use Rattle.model.specs.PhaseNumbers.{phase_number}
use Rattle.model.specs.Fields.{phase, absent, outside, state, acks, holding, tag, class, place, owner}
use Rattle.model.specs.Segments.{bitmap, used_bit}
use Rattle.model.specs.Consistent.{SegmentOk, Occupied, Behind, MutatorOk, AcksIn}
use Rattle.model.specs.Tag as Tag

-- the fields of `Sound` that speak of one segment or of one mutator, the phase's number and the cursor
pub record Parts (g : Geometry) (m : Mem) : Type 0 where
  pub phases : control_word m 0 ≤ phase_number sweep
  pub segments : (s : ℕ) → s < g.segments → SegmentOk g m s
  pub occupied : (s : ℕ) → s < g.segments → Occupied g m s
  pub behind : Behind g m
  pub mutators : (k : ℕ) → k < mutator_count → MutatorOk g m k
  pub acknowledgements : (k : ℕ) → k < mutator_count → (state m k ≡ absent → ⊥) → AcksIn (phase m) (acks m k)

-- ---- a segment

-- a free segment's other words are 0
abbrev pub Cleared : Mem → ℕ → Type 0
Cleared m s = (class m s ≡ 0) × (place m s ≡ 0) × (owner m s ≡ 0)

-- of the blocks of class c, one at or after the place is free, and one is in use
pub record Open (g : Geometry) (m : Mem) (s c : ℕ) : Type 0 where
  pub remains : (b : ℕ) × (place m s ≤ b) × (b < blocks_in g c) × (bit_at (bitmap g m s) b ≡ 0)
  pub occupied : (b : ℕ) × (b < blocks_in g c) × (used_bit g m s b ≡ 1)

-- the mutator of the segment's record is attached and holds it as its segment of class c
abbrev pub Owned : Mem → ℕ → ℕ → Type 0
Owned m s c = (owner m s < mutator_count) × (state m (owner m s) ≡ absent → ⊥) × (holding m (owner m s) c ≡ suc s)

-- a segment of tag t that is not free, and of class c
pub record Used (g : Geometry) (m : Mem) (s t c : ℕ) : Type 0 where
  pub held : t ≡ Tag.held → Owned m s c
  pub unowned : (t ≡ Tag.held → ⊥) → owner m s ≡ 0
  pub opened : t ≤ Tag.held → Open g m s c
  pub filled : t ≡ Tag.full → place m s ≡ blocks_in g c
  pub within : Tag.full < t → place m s ≤ blocks_in g c

-- a segment is as its record asks
abbrev pub SegmentParts : Geometry → Mem → ℕ → Type 0
SegmentParts g m s = SegmentOk g m s × Occupied g m s

-- ---- a mutator

-- an absent mutator's words are 0
abbrev pub Gone : Mem → ℕ → Type 0
Gone m k = (i : ℕ) → i < entry_words → mutator_word m (k * mutator_words + i) ≡ 0

-- segment s is held by mutator k, with class c
abbrev pub HeldBy : Geometry → Mem → ℕ → ℕ → ℕ → Type 0
HeldBy g m k c s = (s < g.segments) × (tag m s ≡ Tag.held) × (class m s ≡ c) × (owner m s ≡ k)

-- what mutator k holds of class c is held by it
abbrev pub Holds : Geometry → Mem → ℕ → ℕ → Type 0
Holds g m k c = (s : ℕ) → holding m k c ≡ suc s → HeldBy g m k c s

-- the words of its entry are in range, and 0 where it is absent
pub record Entry (m : Mem) (k : ℕ) : Type 0 where
  pub states : state m k ≤ outside
  pub acknowledged : acks m k ≤ 2
  pub gone : state m k ≡ absent → Gone m k

-- its acknowledgements are those of the phase
abbrev pub Acknowledged : Mem → ℕ → Type 0
Acknowledged m k = (state m k ≡ absent → ⊥) → AcksIn (phase m) (acks m k)

abbrev pub MutatorParts : Geometry → Mem → ℕ → Type 0
MutatorParts g m k = MutatorOk g m k × Acknowledged m k
