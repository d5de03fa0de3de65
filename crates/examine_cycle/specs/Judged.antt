-- What is judged by the bits of two searches, of live or reached records and of covered ones.
use Rattle.std.specs.Prelude.{◌≡◌, ◌⊎◌, List, ℕ, ◌+◌, ◌*◌, ◌≤◌, ◌<◌, length}
use Rattle.words.specs.Bits.{bit_at}
use Rattle.classes.specs.Class.{IsClass}
use Rattle.layout.specs.declared.Geometry.{Geometry}
use Rattle.layout.specs.Geometry.{len, most_blocks, blocks_in, mark_bit, mutator_words, root_count}
use Rattle.layout.specs.Mem.{Mem}
use Rattle.model.specs.Fields.{absent, state, acks, tag, class}
use Rattle.model.specs.Records.{entered, header_of, pointer_count}
use Rattle.model.specs.Consistent.{RecordOk}
use Rattle.graph_search.specs.Walk.{At}
use Rattle.examine_search.specs.Graph.{records_of, InRun}
use Rattle.examine_cycle.specs.declared.Asked.{Asked}
use Rattle.examine_cycle.specs.declared.Asked.TheVariants.{Pointers, Marks}
use Rattle.layout.specs.Region as Region
use Rattle.model.specs.Tag as Tag

-- bits of records that pass the test
pub record Known (g : Geometry) (m : Mem) (bits : List ℕ) : Type 0 where
  pub room : len g Region.marks ≤ length bits
  pub records : (k : ℕ) → k < g.segments * most_blocks g → bit_at bits k ≡ 1 → At (records_of g m) k

-- segment s is of class c
abbrev pub OfClass : Mem → ℕ → ℕ → Type 0
OfClass m s c = (c ≡ class m s) × IsClass c

-- a record that passes the test and is covered: its bit is 1, or its cover bit
abbrev pub Fine : Geometry → Mem → List ℕ → ℕ → Type 0
Fine g m cover x = RecordOk g m x × ((entered g m x ≡ 1) ⊎ (bit_at cover (mark_bit x) ≡ 1))

abbrev pub FineRun : Geometry → Mem → List ℕ → List ℕ → ℕ → ℕ → Type 0
FineRun g m cover ws from count = (x : ℕ) → InRun ws from count x → Fine g m cover x

-- the roots of an attached mutator with two acknowledgements
abbrev pub RootsFine : Geometry → Mem → List ℕ → ℕ → Type 0
RootsFine g m cover k = (state m k ≡ absent → ⊥) → 2 ≤ acks m k → FineRun g m cover m.mutators (k * mutator_words) root_count

-- what is asked of the record at a word of segment s, whose bit is k: that its pointers are covered, if its bit is 1; or that it is marked, in the collect set
abbrev pub RecordFine : Asked → Geometry → Mem → List ℕ → ℕ → ℕ → ℕ → Type 0
RecordFine Pointers g m cover s at k = bit_at m.marks k ≡ 1 → FineRun g m cover m.heap (at + 1) (pointer_count m at)
RecordFine Marks g m cover s at k = tag m s ≡ Tag.condemned → bit_at m.marks k ≡ 1

-- of the block at a word of segment s, if its bit is in the set
abbrev pub BlockJudged : Asked → Geometry → Mem → List ℕ → List ℕ → ℕ → ℕ → Type 0
BlockJudged asked g m bits cover s at = bit_at bits (mark_bit at) ≡ 1 → RecordFine asked g m cover s at (mark_bit at)

abbrev pub SegmentJudged : Asked → Geometry → Mem → List ℕ → List ℕ → ℕ → Type 0
SegmentJudged asked g m bits cover s = IsClass (class m s) → (b : ℕ) → b < blocks_in g (class m s) → BlockJudged asked g m bits cover s (header_of g s (class m s) b)

abbrev pub Judged : Asked → Geometry → Mem → List ℕ → List ℕ → Type 0
Judged asked g m bits cover = (s : ℕ) → s < g.segments → SegmentJudged asked g m bits cover s
