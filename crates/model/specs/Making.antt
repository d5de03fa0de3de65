-- make: the segment it takes from, the block it is handed, and the record there. Document 01: "takes the next free block of the script's held
-- segment of that class; the place moves just past it. Without one, it first takes a part segment of the class, else a free one".
use Rattle.std.specs.Prelude.{◌≡◌, ℕ, suc, ◌+◌, ◌-◌, ◌<◌, eqb, Ok, Err, Some, None}
use Rattle.basics.specs.Pick.{pick}
use Rattle.classes.specs.declared.RecordShape.{RecordShape}
use Rattle.layout.specs.Geometry.{blocks_in}
use Rattle.layout.specs.declared.Geometry.{Geometry}
use Rattle.layout.specs.Mem.{Mem}
use Rattle.bitmap_search.specs.Scan.{Found}
use Rattle.bitmap_write.specs.Completed.{fresh}
use Rattle.theory.specs.Phases.{black}
use Rattle.theory.specs.Calls.{Answer, a_ok, a_no}
use Rattle.model.specs.declared.SegmentState.TheVariants.{Held, Full}
use Rattle.model.specs.Fields.{phase, acks, holding, set_holding, set_root, tag, class, place, owner, handed_count, set_handed_count}
use Rattle.model.specs.Segments.{set_segment_state, free_stack, part_stack, count, top, pop, above, bitmap, set_bitmap, free}
use Rattle.model.specs.Records.{header_of, written, set_entered}
use Rattle.model.specs.Tag as Tag

-- the segment that a make of class c takes its block from
pub data Source : Type 0 where
  held part unused : (segment : ℕ) → Source
  no_room : Source

-- by the held segments of the mutator's entry and the counts of the stacks; `NoRoom` says it of the segments
abbrev pub source_of : Geometry → Mem → ℕ → ℕ → Source
source_of g m k c =
    pick (eqb (holding m k c) 0)
    (pick (eqb (count g m (part_stack c)) 0) (pick (eqb (count g m free_stack) 0) no_room (unused (top g m free_stack))) (part (top g m (part_stack c))))
    (held (holding m k c - 1))

-- "10, no room: make: the script has no held segment of the class, no part one of it exists, none is free"
pub record NoRoom (g : Geometry) (m : Mem) (k c : ℕ) : Type 0 where
  pub no_held : (s : ℕ) → s < g.segments → tag m s ≡ Tag.held → class m s ≡ c → owner m s ≡ k → ⊥
  pub no_part : (s : ℕ) → s < g.segments → tag m s ≡ Tag.part → class m s ≡ c → ⊥
  pub no_free : (s : ℕ) → s < g.segments → tag m s ≡ Tag.free → ⊥

-- mutator k holds segment s of class c from a place on
abbrev pub set_held : Geometry → Mem → ℕ → ℕ → ℕ → ℕ → Mem
set_held g m k c s p = set_holding (set_segment_state g m s (Held c p k)) k c (suc s)

-- "a free one, whose place is then 0 and whose blocks' bits are all 0"
abbrev pub freshened : Geometry → Mem → ℕ → ℕ → Mem
freshened g m s c = set_bitmap g m s (fresh (above g c) (blocks_in g c) (bitmap g m s))

-- "When no free block remains at or after the new place, the segment becomes full in the same call"
abbrev pub advanced : Geometry → Mem → ℕ → ℕ → ℕ → ℕ → Found → Mem
advanced g m k c s p (Ok (Some b)) = set_segment_state g m s (Held c p k)
advanced g m k c s p (Ok None) = set_holding (set_segment_state g m s (Full c)) k c 0
advanced g m k c s p (Err _) = set_holding (set_segment_state g m s (Full c)) k c 0

-- "born marked"
abbrev pub blackened : Geometry → Mem → ℕ → ℕ → Mem
blackened g m k at = pick (black (phase m) (acks m k)) (set_entered g m at) m

-- request No. 3: "blocks handed out since": one more of segment s
abbrev pub counted_out : Mem → ℕ → Mem
counted_out m s = set_handed_count m s (handed_count m s + 1)

-- the record of a shape in block b of segment s, into root d
unfoldable pub handed_out : Geometry → Mem → ℕ → ℕ → ℕ → ℕ → ℕ → RecordShape → Mem
handed_out g m k d c s b shape =
    set_root (blackened g (written (advanced g (counted_out m s) k c s (b + 1) (free g m s c (b + 1))) (header_of g s c b) shape) k (header_of g s c b)) k d (suc (header_of g s c b))

-- the block at or after the place; a held segment always has one
abbrev pub in_block : Geometry → Mem → Mem → Found → ℕ → ℕ → ℕ → ℕ → RecordShape → Answer × Mem
in_block g m taken (Ok (Some b)) k d c s shape = (a_ok, handed_out g taken k d c s b shape)
in_block g m taken (Ok None) k d c s shape = (a_no 13, m)
in_block g m taken (Err _) k d c s shape = (a_no 13, m)

abbrev pub in_segment : Geometry → Mem → Mem → ℕ → ℕ → ℕ → ℕ → RecordShape → Answer × Mem
in_segment g m taken k d c s shape = in_block g m taken (free g taken s c (place taken s)) k d c s shape

abbrev pub from_source : Geometry → Mem → ℕ → ℕ → ℕ → RecordShape → Source → Answer × Mem
from_source g m k d c shape (held s) = in_segment g m m k d c s shape
from_source g m k d c shape (part s) = in_segment g m (set_held g (pop g m (part_stack c)) k c s (place m s)) k d c s shape
from_source g m k d c shape (unused s) = in_segment g m (freshened g (set_held g (pop g m free_stack) k c s 0) s c) k d c s shape
from_source g m k d c shape no_room = (a_no 10, m)

-- a make of class c by mutator k into root d
unfoldable pub made : Geometry → Mem → ℕ → ℕ → ℕ → RecordShape → Answer × Mem
made g m k d c shape = from_source g m k d c shape (source_of g m k c)
