-- The words of the memory by name: control, mutators' entries, segment records. docs/LAYOUT.md has the order of the words.
use Rattle.std.specs.Prelude.{ℕ, ◌+◌, ◌-◌, ◌*◌}
use Rattle.classes.specs.Class.{first_class}
use Rattle.layout.specs.Geometry.{mutator_words, root_count, segment_record_words}
use Rattle.layout.specs.Mem.{Mem, control_word, mutator_word, segment_record_word, set_control, set_mutator, set_segment}
use Rattle.theory.specs.Phases.{Phase}
use Rattle.model.specs.PhaseNumbers.{phase_of, phase_number}

-- ---- control

abbrev pub phase : Mem → Phase
phase m = phase_of (control_word m 0)

abbrev pub set_phase : Mem → Phase → Mem
set_phase m p = set_control m 0 (phase_number p)

abbrev pub trace_count : Mem → ℕ
trace_count m = control_word m 1

abbrev pub set_trace_count : Mem → ℕ → Mem
set_trace_count m n = set_control m 1 n

-- the sweep's cursor: it has passed the segments before it
abbrev pub cursor : Mem → ℕ
cursor m = control_word m 2

abbrev pub set_cursor : Mem → ℕ → Mem
set_cursor m s = set_control m 2 s

-- ---- mutator k: root i, its state (0 absent, 1 inside, 2 outside), its acknowledgements, and the segment that it holds of class c
-- (0, or 1 + the segment)

abbrev pub state_at : ℕ
state_at = root_count

abbrev pub acks_at : ℕ
acks_at = state_at + 1

abbrev pub held_from : ℕ
held_from = acks_at + 1

abbrev pub absent : ℕ
absent = 0

abbrev pub inside : ℕ
inside = 1

abbrev pub outside : ℕ
outside = 2

abbrev pub state : Mem → ℕ → ℕ
state m k = mutator_word m (k * mutator_words + state_at)

abbrev pub set_mutator_state : Mem → ℕ → ℕ → Mem
set_mutator_state m k v = set_mutator m (k * mutator_words + state_at) v

abbrev pub acks : Mem → ℕ → ℕ
acks m k = mutator_word m (k * mutator_words + acks_at)

abbrev pub set_acks : Mem → ℕ → ℕ → Mem
set_acks m k v = set_mutator m (k * mutator_words + acks_at) v

abbrev pub root : Mem → ℕ → ℕ → ℕ
root m k i = mutator_word m (k * mutator_words + i)

abbrev pub set_root : Mem → ℕ → ℕ → ℕ → Mem
set_root m k i v = set_mutator m (k * mutator_words + i) v

abbrev pub holding : Mem → ℕ → ℕ → ℕ
holding m k c = mutator_word m (k * mutator_words + held_from + (c - first_class))

abbrev pub set_holding : Mem → ℕ → ℕ → ℕ → Mem
set_holding m k c v = set_mutator m (k * mutator_words + held_from + (c - first_class)) v

-- ---- segment s: its tag (0 free, 1 part, 2 held, 3 full, 4 condemned), its class, its place, the mutator that holds it, and two counts

abbrev pub tag_at : ℕ
tag_at = 0

abbrev pub class_at : ℕ
class_at = tag_at + 1

abbrev pub place_at : ℕ
place_at = class_at + 1

abbrev pub owner_at : ℕ
owner_at = place_at + 1

abbrev pub kept_at : ℕ
kept_at = owner_at + 1

abbrev pub handed_at : ℕ
handed_at = kept_at + 1

abbrev pub tag : Mem → ℕ → ℕ
tag m s = segment_record_word m (s * segment_record_words + tag_at)

abbrev pub set_tag : Mem → ℕ → ℕ → Mem
set_tag m s t = set_segment m (s * segment_record_words + tag_at) t

abbrev pub class : Mem → ℕ → ℕ
class m s = segment_record_word m (s * segment_record_words + class_at)

abbrev pub set_class : Mem → ℕ → ℕ → Mem
set_class m s c = set_segment m (s * segment_record_words + class_at) c

-- document 01: place; the allocation pointer
abbrev pub place : Mem → ℕ → ℕ
place m s = segment_record_word m (s * segment_record_words + place_at)

abbrev pub set_place : Mem → ℕ → ℕ → Mem
set_place m s p = set_segment m (s * segment_record_words + place_at) p

abbrev pub owner : Mem → ℕ → ℕ
owner m s = segment_record_word m (s * segment_record_words + owner_at)

abbrev pub set_owner : Mem → ℕ → ℕ → Mem
set_owner m s k = set_segment m (s * segment_record_words + owner_at) k

-- request No. 3: "blocks kept at its last sweep (0 before one), and blocks handed out since"
abbrev pub kept_count : Mem → ℕ → ℕ
kept_count m s = segment_record_word m (s * segment_record_words + kept_at)

abbrev pub set_kept_count : Mem → ℕ → ℕ → Mem
set_kept_count m s n = set_segment m (s * segment_record_words + kept_at) n

abbrev pub handed_count : Mem → ℕ → ℕ
handed_count m s = segment_record_word m (s * segment_record_words + handed_at)

abbrev pub set_handed_count : Mem → ℕ → ℕ → Mem
set_handed_count m s n = set_segment m (s * segment_record_words + handed_at) n
