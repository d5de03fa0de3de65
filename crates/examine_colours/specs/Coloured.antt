-- What the examination's searches decide, and the scratch that they work in.
use Rattle.std.specs.Prelude.{◌≡◌, List, ℕ, length}
use Rattle.layout.specs.declared.Geometry.{Geometry}
use Rattle.layout.specs.Geometry.{Sized, len, segment_of, scratch_words}
use Rattle.layout.specs.Mem.{Mem}
use Rattle.model.specs.Fields.{tag}
use Rattle.model.specs.Records.{entered}
use Rattle.model.specs.Reaching.{Live, Reached}
use Rattle.model.specs.Consistent.{RecordOk, Tricolour}
use Rattle.layout.specs.Region as Region
use Rattle.model.specs.Tag as Tag

-- memory and scratch have their lengths, and n words are one field of bits
pub record Room (g : Geometry) (memory : List ℕ) (n : ℕ) (scratch : List ℕ) : Type 0 where
  pub sized : Sized g (length memory)
  pub field : n ≡ len g Region.marks
  pub room : length scratch ≡ scratch_words g

-- "That definition binds the links of records reachable from slots or trace stack only."
abbrev pub LiveOk : Geometry → Mem → Type 0
LiveOk g m = (at : ℕ) → Live m at → RecordOk g m at

pub record Coloured (g : Geometry) (m : Mem) : Type 0 where
  pub records : LiveOk g m
  pub tricolour : Tricolour g m

-- in sweep nothing is on the trace stack, and a bit says that its record is marked
pub record SweptOk (g : Geometry) (m : Mem) : Type 0 where
  pub records : (at : ℕ) → Reached m at → RecordOk g m at
  pub entered : (at : ℕ) → Reached m at → tag m (segment_of g at) ≡ Tag.condemned → entered g m at ≡ 1
