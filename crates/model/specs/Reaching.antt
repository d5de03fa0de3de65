-- Which records roots and the trace stack lead to, over the words of the memory: live, reached and covered.
use Rattle.std.specs.Prelude.{◌≡◌, ◌⊎◌, Bool, ℕ, suc, ◌<◌, eqb}
use Rattle.layout.specs.declared.Geometry.{Geometry}
use Rattle.layout.specs.Geometry.{mutator_count, root_count}
use Rattle.layout.specs.Mem.{Mem, trace_word}
use Rattle.theory.specs.Reach.{Reach, Cover}
use Rattle.model.specs.Fields.{trace_count, absent, state, root}
use Rattle.model.specs.Records.{pointer_count, pointer, marked}

-- a root of an attached mutator names the record at a word
pub record IsRoot (m : Mem) (at : ℕ) : Type 0 where
  pub mutator : ℕ
  pub index : ℕ
  pub few : mutator < mutator_count
  pub within : index < root_count
  pub attached : state m mutator ≡ absent → ⊥
  pub names : root m mutator index ≡ suc at

-- an entry of the trace stack names it
pub record IsEntry (m : Mem) (at : ℕ) : Type 0 where
  pub index : ℕ
  pub within : index < trace_count m
  pub names : trace_word m index ≡ suc at

-- a pointer of the record at x names the one at y
pub record PointsTo (m : Mem) (x y : ℕ) : Type 0 where
  pub field : ℕ
  pub within : field < pointer_count m x
  pub names : pointer m x field ≡ suc y

-- "records reachable from slots or trace stack"
abbrev pub Live : Mem → ℕ → Type 0
Live m = Reach (λ at. IsRoot m at ⊎ IsEntry m at) (PointsTo m)

abbrev pub Reached : Mem → ℕ → Type 0
Reached m = Reach (IsRoot m) (PointsTo m)

abbrev pub is_marked : Geometry → Mem → ℕ → Bool
is_marked g m at = eqb (marked g m at) 1

-- marked, or reachable from an entry of the trace stack through unmarked records only
abbrev pub Covered : Geometry → Mem → ℕ → Type 0
Covered g m = Cover (IsEntry m) (is_marked g m) (PointsTo m)
