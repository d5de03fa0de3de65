-- The collector's calls: start, and step in each of the five phases. Document 01, "The cycle".
use Rattle.std.specs.Prelude.{Bool, ◌&&◌, ◌||◌, ℕ, zero, suc, ◌+◌, ◌-◌, eqb, length, replicate}
use Rattle.std.proofs.Math.Option.{Option, none, some}
use Rattle.basics.specs.Pick.{pick, one_if}
use Rattle.words.specs.Bits.{bit_at, ones_among}
use Rattle.classes.specs.Class.{first_class, class_count}
use Rattle.layout.specs.declared.Geometry.{Geometry}
use Rattle.layout.specs.Geometry.{mutator_count, blocks_in}
use Rattle.layout.specs.Mem.{Mem, trace_word, with_region}
use Rattle.bitmap_write.specs.Completed.{adopted}
use Rattle.theory.specs.Phases.{Phase, idle, sync1, sync2, mark, sweep, owes}
use Rattle.theory.specs.Calls.{Answer, a_ok, a_moved, a_traced, a_done, a_idle, a_no, a_waiting, a_swept}
use Rattle.model.specs.Fields.{phase, set_phase, set_cursor, trace_count, inside, outside, state, acks, set_acks, tag, set_tag, class, set_kept_count, set_handed_count}
use Rattle.model.specs.Segments.{set_segment_state, free_stack, part_stack, stacked, emptied, above, bitmap, set_bitmap, marks_of, in_use}
use Rattle.model.specs.Tracing.{traced}
use Rattle.model.specs.Mutators.{acknowledged}
use Rattle.model.specs.declared.SegmentState.TheVariants as segment
use Rattle.layout.specs.Region as Region
use Rattle.model.specs.Tag as Tag

-- ---- start: "every full segment becomes condemned, all marks are cleared, the phase is roll 1". Request No. 5: "A start now condemns the part
-- segments as well. A condemned segment keeps its place and is on no stack".

abbrev pub full_or_part : Mem → ℕ → Bool
full_or_part m s = eqb (tag m s) Tag.full || eqb (tag m s) Tag.part

-- which segments a start condemns: the full and the part ones (proofs/Collecting.antt)
unfoldable pub collects : Mem → ℕ → Bool
collects m s = full_or_part m s

-- those of the first n segments become condemned: the tag says so, and the rest of the record stays, its place too
unfoldable pub condemned : Mem → ℕ → Mem
condemned m zero = m
condemned m (suc s) = pick (collects m s) (set_tag (condemned m s) s Tag.condemned) (condemned m s)

-- the part stacks of the first n classes are emptied
unfoldable pub parts_emptied : Geometry → Mem → ℕ → Mem
parts_emptied g m zero = m
parts_emptied g m (suc n) = emptied g (parts_emptied g m n) (part_stack (first_class + n))

-- the acknowledgements of the first n mutators begin anew
unfoldable pub acks_reset : Mem → ℕ → Mem
acks_reset m zero = m
acks_reset m (suc k) = set_acks (acks_reset m k) k 0

abbrev pub marks_cleared : Mem → Mem
marks_cleared m = with_region m Region.marks (replicate (length m.marks) 0)

unfoldable pub started : Geometry → Mem → Mem
started g m =
    set_phase (set_cursor (marks_cleared (acks_reset (parts_emptied g (condemned m g.segments) class_count) mutator_count)) 0) sync1

-- "11, not now: start outside idle". Request No. 1: "A start in idle with no full segment now opens a cycle over no segments."
-- Request No. 5: "now needs a start with neither full nor part ones".
abbrev pub start_in : Phase → Geometry → Mem → Answer × Mem
start_in idle g m = (a_ok, started g m)
start_in sync1 g m = (a_no 11, m)
start_in sync2 g m = (a_no 11, m)
start_in mark g m = (a_no 11, m)
start_in sweep g m = (a_no 11, m)

unfoldable pub start_of : Geometry → Mem → Answer × Mem
start_of g m = start_in (phase m) g m

-- ---- step, in a handshake

-- "answers for outside scripts, in number order, as check does": those of the first n mutators
unfoldable pub outside_answered : Geometry → Mem → ℕ → Mem
outside_answered g m zero = m
outside_answered g m (suc k) = pick (eqb (state m k) outside) (acknowledged g (outside_answered g m k) k) (outside_answered g m k)

-- "If inside scripts still owe": how many of the first n mutators
unfoldable pub waiting : Mem → ℕ → ℕ
waiting m zero = 0
waiting m (suc k) = one_if (eqb (state m k) inside && owes (phase m) (acks m k)) + waiting m k

-- "it answers waiting and how many; else the next phase, and moved"
abbrev pub moved_or_waiting : ℕ → Mem → Phase → Answer × Mem
moved_or_waiting zero m p = (a_moved, set_phase m p)
moved_or_waiting (suc n) m p = (a_waiting (suc n), m)

-- ---- step, in mark: "takes the last entered record .. With an empty stack: sweep, and moved."

abbrev pub traces : Geometry → ℕ → Mem → Answer × Mem
traces g zero m = (a_moved, set_phase m sweep)
traces g (suc n) m = (a_traced, traced g m (trace_word m n - 1))

-- ---- step, in sweep: "the lowest condemned segment"

abbrev pub or_then : Option ℕ → Option ℕ → Option ℕ
or_then none o = o
or_then (some s) o = some s

-- the lowest of the first n condemned segments
unfoldable pub lowest : Mem → ℕ → Option ℕ
lowest m zero = none
lowest m (suc s) = or_then (lowest m s) (pick (eqb (tag m s) Tag.condemned) (some s) none)

-- how many blocks of a segment are marked
abbrev pub marked_blocks : Geometry → Mem → ℕ → ℕ
marked_blocks g m s = ones_among (bit_at (marks_of g m s)) (blocks_in g (class m s))

-- "its level 0 becomes the marks, upper levels rebuilt"
abbrev pub rebuilt_by : Geometry → Mem → ℕ → Mem
rebuilt_by g m s = set_bitmap g m s (adopted (above g (class m s)) (blocks_in g (class m s)) (marks_of g m s) (bitmap g m s))

-- request No. 3: "blocks kept at its last sweep (0 before one), and blocks handed out since"
abbrev pub recounted : Geometry → Mem → ℕ → Mem
recounted g m s = set_handed_count (set_kept_count (rebuilt_by g m s) s (marked_blocks g m s)) s 0

-- "place 0 unless it becomes full. No mark: free. All blocks marked: full. Else part."
unfoldable pub settled_by : Geometry → Mem → ℕ → Mem
settled_by g m s =
    pick (eqb (marked_blocks g m s) 0) (stacked g (set_segment_state g (recounted g m s) s segment.Free) free_stack s)
    (pick (eqb (marked_blocks g m s) (blocks_in g (class m s))) (set_segment_state g (recounted g m s) s (segment.Full (class m s)))
    (stacked g (set_segment_state g (recounted g m s) s (segment.Part (class m s) 0)) (part_stack (class m s)) s))

-- and the cursor passes it
unfoldable pub swept : Geometry → Mem → ℕ → Mem
swept g m s = set_cursor (settled_by g m s) (suc s)

-- "how many blocks in use became free": those in use before less those after. "With none left: idle, and done."
abbrev pub sweeps : Geometry → Option ℕ → Mem → Answer × Mem
sweeps g none m = (a_done, set_phase m idle)
sweeps g (some s) m = (a_swept s (in_use g m s - in_use g (swept g m s) s), swept g m s)

abbrev pub step_in : Phase → Geometry → Mem → Answer × Mem
step_in idle g m = (a_idle, m)
step_in sync1 g m = moved_or_waiting (waiting (outside_answered g m mutator_count) mutator_count) (outside_answered g m mutator_count) sync2
step_in sync2 g m = moved_or_waiting (waiting (outside_answered g m mutator_count) mutator_count) (outside_answered g m mutator_count) mark
step_in mark g m = traces g (trace_count m) m
step_in sweep g m = sweeps g (lowest m g.segments) m

unfoldable pub step_of : Geometry → Mem → Answer × Mem
step_of g m = step_in (phase m) g m
