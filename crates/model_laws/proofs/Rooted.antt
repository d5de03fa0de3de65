-- A record that a root of an attached mutator names: it is live, and so in order in consistent memory.
use mathlib.Core.Path.{◌≡◌, ap}
use mathlib.Core.Bool.{true}
use mathlib.Core.Logic.{inl}
use mathlib.Core.Option.{some, some-injective}
use Prim.Native.Nat.{ℕ, zero, suc, ◌<◌}
use Rattle.layout.specs.declared.Geometry.{Geometry}
use Rattle.layout.specs.Geometry.{mutator_count, root_count}
use Rattle.layout.specs.Mem.{Mem}
use Rattle.theory.proofs.Invariant.{none_some}
use Rattle.model.specs.Fields.{root}
use Rattle.model.specs.Records.{record?}
use Rattle.model.specs.Calls.{is_attached}
use Rattle.model.specs.Reaching.{IsRoot, Live}
use Rattle.model.specs.Consistent.{RecordOk, Consistent}
use Rattle.model_laws.proofs.Bools.{not_eq}
use Rattle.theory.specs.Reach as reach

-- what a word names
pub named : (w y : ℕ) → record? w ≡ some y → w ≡ suc y
named zero y e = none_some e
named (suc w) y e = ap suc (some-injective w y e)

module _ (m : Mem) (k i at : ℕ) (l : k < mutator_count) (h : i < root_count) (a : is_attached m k ≡ true) (e : root m k i ≡ suc at) where
  pub is_root : IsRoot m at
  is_root = record { mutator = k; index = i; few = l; within = h; attached = not_eq _ _ a; names = e }

  pub live_root : Live m at
  live_root = reach.root (inl is_root)

  pub rooted : (g : Geometry) → Consistent g m → RecordOk g m at
  rooted g c = c.sound.records at live_root
