-- The heap as a graph: its nodes are the records that pass the test, each placed at its bit; its edges are pointers, all of them or those of unmarked
-- records only; and the runs of words that name records.
use Rattle.std.specs.Prelude.{◌≡◌, List, ◌⊎◌, ℕ, suc, ◌+◌, ◌*◌, ◌≤◌, ◌<◌, get_or, eqb}
use Rattle.basics.specs.Pick.{pick}
use Rattle.layout.specs.declared.Geometry.{Geometry}
use Rattle.layout.specs.Geometry.{most_blocks, len, mutator_words, root_count, mark_bit}
use Rattle.layout.specs.Mem.{Mem}
use Rattle.model.specs.Fields.{trace_count, absent, state}
use Rattle.model.specs.Records.{pointer_count, entered}
use Rattle.model.specs.Reaching.{IsEntry, PointsTo}
use Rattle.model.specs.Consistent.{RecordOk}
use Rattle.graph_search.specs.Walk.{State, Nodes, Seen, Graph}
use Rattle.examine_search.specs.declared.Edges.{Edges}
use Rattle.examine_search.specs.declared.Edges.TheVariants.{All, Unentered}
use Rattle.examine_search.specs.declared.Source.{Source}
use Rattle.examine_search.specs.declared.Source.TheVariants.{Roots, Pointers, Entries}
use Rattle.layout.specs.Region as Region

abbrev pub records_of : Geometry → Mem → Nodes
records_of g m = record { size = g.segments * most_blocks g; Ok = RecordOk g m; place = mark_bit }

-- how many pointers of a record are followed: all of them, or, of one whose bit is 1, none
abbrev pub followed : Edges → Geometry → Mem → ℕ → ℕ
followed All g m at = pointer_count m at
followed Unentered g m at = pick (eqb (entered g m at) 1) 0 (pointer_count m at)

-- where words that name records are read, and how many there are
abbrev pub words_of : Source → Mem → List ℕ
words_of Roots m = m.mutators
words_of Pointers m = m.heap
words_of Entries m = m.trace

abbrev pub length_of : Source → Geometry → ℕ
length_of Roots g = len g Region.mutators
length_of Pointers g = len g Region.heap
length_of Entries g = len g Region.trace

-- among count words from a word on one names the record at x
pub record InRun (ws : List ℕ) (from count x : ℕ) : Type 0 where
  pub index : ℕ
  pub within : index < count
  pub names : get_or ws (from + index) 0 ≡ suc x

abbrev pub Follows : Edges → Geometry → Mem → ℕ → ℕ → Type 0
Follows e g m x = InRun m.heap (x + 1) (followed e g m x)

-- a root of mutator k, which is attached
abbrev pub RootOf : Mem → ℕ → ℕ → Type 0
RootOf m k x = (state m k ≡ absent → ⊥) × InRun m.mutators (k * mutator_words) root_count x

-- a root of one of the first n mutators
pub record RootBelow (m : Mem) (n x : ℕ) : Type 0 where
  pub mutator : ℕ
  pub few : mutator < n
  pub names : RootOf m mutator x

-- a pointer of the record that w names names x
abbrev pub PointedBy : Mem → ℕ → ℕ → Type 0
PointedBy m w x = (e : ℕ) × (w ≡ suc e) × PointsTo m e x

-- w names x, or the record that w names does
abbrev pub Seeds : Mem → ℕ → ℕ → Type 0
Seeds m w x = (w ≡ suc x) ⊎ PointedBy m w x

-- so does one of the first n words of the trace stack
pub record SeedBelow (m : Mem) (n x : ℕ) : Type 0 where
  pub index : ℕ
  pub few : index < n
  pub seed : Seeds m (get_or m.trace index 0) x

-- an entry of the trace stack, or named by one
abbrev pub ByEntry : Mem → ℕ → Type 0
ByEntry m x = IsEntry m x ⊎ ((e : ℕ) × IsEntry m e × PointsTo m e x)

-- as many entries as the trace stack's count says, of those that have words
pub record EntryCount (g : Geometry) (m : Mem) (n : ℕ) : Type 0 where
  pub room : n ≤ len g Region.trace
  pub few : n ≤ trace_count m
  pub all : (i : ℕ) → i < trace_count m → (i < n) ⊎ (len g Region.trace ≤ i)

-- the graph from some roots, and from what a state has seen
abbrev pub graph_of : Edges → Geometry → Mem → (ℕ → Type 0) → Graph
graph_of e g m Root = record { nodes = records_of g m; Root = Root; Edge = Follows e g m }

abbrev pub graph_from : Edges → Geometry → Mem → State → Graph
graph_from e g m s = graph_of e g m (Seen (records_of g m) s)
