-- What the sweep of one segment leaves, whatever became of the segment: the one interface between the words that a sweep writes and what follows
-- from them.
use mathlib.Core.Path.{◌≡◌}
use Prim.Native.Nat.{ℕ, ◌<◌}
use Rattle.layout.specs.Geometry.{blocks_in}
use Rattle.layout.specs.declared.Geometry.{Geometry}
use Rattle.layout.specs.Mem.{Mem}
use Rattle.model.specs.Fields.{tag, class}
use Rattle.model.specs.Segments.{bitmap, used_bit}
use Rattle.model.specs.Records.{header_of, entered}
use Rattle.model.specs.Consistent.{SegmentOk, Occupied, TreeOk, CountsOk}
use Rattle.model_laws.proofs.Words.{Untouched}
use Rattle.model_laws.proofs.Parted.{Stacks}
use Rattle.model.specs.Tag as Tag

-- what the sweep of segment r leaves alone: other regions, and other segments
pub record Left (g : Geometry) (m m' : Mem) (r : ℕ) : Type 0 where
  pub control : m'.control ≡ m.control
  pub mutators : m'.mutators ≡ m.mutators
  pub marks : m'.marks ≡ m.marks
  pub trace : m'.trace ≡ m.trace
  pub heap : m'.heap ≡ m.heap
  pub other : (x : ℕ) → (x ≡ r → ⊥) → Untouched m m' x
  pub bitmaps : (x : ℕ) → (x ≡ r → ⊥) → bitmap g m' x ≡ bitmap g m x

pub record Outcome (g : Geometry) (m m' : Mem) (r : ℕ) : Type 0 where
  pub left : Left g m m' r
  -- the segment itself: free, part or full; in use is what is marked
  pub segment : SegmentOk g m' r
  pub tree : TreeOk g m' r
  pub counts : CountsOk g m' r
  pub occupied : Occupied g m' r
  pub unheld : tag m' r ≡ Tag.held → ⊥
  pub uncondemned : tag m' r ≡ Tag.condemned → ⊥
  pub classed : (tag m' r ≡ Tag.free → ⊥) → class m' r ≡ class m r
  pub used : (tag m' r ≡ Tag.free → ⊥) → (b : ℕ) → b < blocks_in g (class m r) → used_bit g m' r b ≡ entered g m (header_of g r (class m r) b)
  pub kept : (b : ℕ) → b < blocks_in g (class m r) → entered g m (header_of g r (class m r) b) ≡ 1 → tag m' r ≡ Tag.free → ⊥
  pub stacks : Stacks g m'
