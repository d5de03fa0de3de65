-- What a search promises, in the model's terms: the bits of the records of a set, each of which passes the test; or a record of the set that fails it.
use Rattle.std.specs.Prelude.{◌≡◌, Bool, true, false, List, ℕ, ◌*◌, ◌<◌, eqb}
use Rattle.words.specs.Bits.{bit_at}
use Rattle.layout.specs.declared.Geometry.{Geometry}
use Rattle.layout.specs.Geometry.{most_blocks, mark_bit}
use Rattle.layout.specs.Mem.{Mem}
use Rattle.theory.specs.Reach.{Protected}
use Rattle.model.specs.Records.{entered}
use Rattle.model.specs.Reaching.{PointsTo}
use Rattle.model.specs.Consistent.{RecordOk}
use Rattle.graph_search.specs.Walk.{At}
use Rattle.examine_search.specs.Graph.{records_of, ByEntry}

-- every record of the set passes the test, and a bit is 1 exactly when it is that of a record of the set
pub record BitsOf (g : Geometry) (m : Mem) (Set : ℕ → Type 0) (bits : List ℕ) : Type 0 where
  pub passes : (at : ℕ) → Set at → RecordOk g m at
  pub found : (at : ℕ) → Set at → bit_at bits (mark_bit at) ≡ 1
  pub only : (at : ℕ) → RecordOk g m at → bit_at bits (mark_bit at) ≡ 1 → Set at
  pub records : (k : ℕ) → k < g.segments * most_blocks g → bit_at bits k ≡ 1 → At (records_of g m) k

-- a record of the set that fails the test
pub record BadRecord (g : Geometry) (m : Mem) (Set : ℕ → Type 0) : Type 0 where
  pub at : ℕ
  pub member : Set at
  pub fails : RecordOk g m at → ⊥

pub record Finds (g : Geometry) (m : Mem) (Set : ℕ → Type 0) (r : Bool) (bits : List ℕ) : Type 0 where
  pub good : r ≡ true → BitsOf g m Set bits
  pub bad : r ≡ false → BadRecord g m Set

-- an entry of the trace stack, named by one, or reached from there through records whose bit is 0: covered is that the bit is 1, or this
abbrev pub ByEntries : Geometry → Mem → ℕ → Type 0
ByEntries g m = Protected (ByEntry m) (λ at. eqb (entered g m at) 1) (PointsTo m)
