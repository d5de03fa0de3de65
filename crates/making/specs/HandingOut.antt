-- The block that a make hands out of a held segment, and the record there, over memory of any content: where the segment is ready, as it is in
-- memory that passes the examination, they are the model's.
use Rattle.std.specs.Prelude.{◌≡◌, ◌⊎◌, ℕ, suc, ◌+◌, ◌≤◌, ◌<◌, Result, Ok, Err, Some}
use Rattle.words.specs.Bits.{bit_at}
use Rattle.words.specs.Tree.{Tree}
use Rattle.classes.specs.declared.RecordShape.{RecordShape}
use Rattle.layout.specs.declared.Geometry.{Geometry}
use Rattle.layout.specs.Geometry.{blocks_in}
use Rattle.layout.specs.Mem.{Mem}
use Rattle.model.specs.declared.Answer.{Answer}
use Rattle.model.specs.declared.Answer.TheVariants.{Done}
use Rattle.model.specs.declared.Refusal.{Refusal}
use Rattle.model.specs.declared.Refusal.TheVariants.{NoRoom, Torn}
use Rattle.model.specs.Answers.{answer_of}
use Rattle.model.specs.Fields.{set_root, tag, class, place, owner, handed_count}
use Rattle.model.specs.Segments.{above, bitmap, free}
use Rattle.model.specs.Records.{header_of, written}
use Rattle.model.specs.Making.{advanced, blackened, counted_out, handed_out, made}
use Rattle.model.specs.Consistent.{Consistent}
use Rattle.model.specs.Tag as Tag

-- segment s is held by mutator k and of class c, its bitmap is a tree, a free block remains at or after the place, and its count can grow
pub record SegmentReady (g : Geometry) (m : Mem) (k c s : ℕ) : Type 0 where
  pub tag : tag m s ≡ Tag.held
  pub class : class m s ≡ c
  pub owner : owner m s ≡ k
  pub tree : Tree (above g c) (blocks_in g c) (bitmap g m s)
  pub remains : (b : ℕ) × (place m s ≤ b) × (b < blocks_in g c) × (bit_at (bitmap g m s) b ≡ 0)
  pub counted : handed_count m s < 4294967295

-- the block, one of the segment's, and the memory with it counted and the place just past it; a segment that is ready has one
abbrev pub Advances : Geometry → Mem → ℕ → ℕ → ℕ → Result ℕ Refusal → Mem → Type 0
Advances g m k c s (Ok b) after =
    (b < blocks_in g c)
    × (SegmentReady g m k c s → (free g m s c (place m s) ≡ Ok (Some b)) × (after ≡ advanced g (counted_out m s) k c s (b + 1) (free g m s c (b + 1))))
Advances g m k c s (Err e) after = (e ≡ Torn) × (SegmentReady g m k c s → ⊥)

-- the record of a shape in block b of segment s, born marked or not, into root d
abbrev pub filled_as : Geometry → Mem → ℕ → ℕ → ℕ → ℕ → ℕ → RecordShape → Mem
filled_as g m k d c s b shape = set_root (blackened g (written m (header_of g s c b) shape) k (header_of g s c b)) k d (suc (header_of g s c b))

-- done and the memory with the record, or 13; where the segment is ready, the first, and as the model has it
pub record HandsOut (g : Geometry) (m : Mem) (k d c s : ℕ) (shape : RecordShape) (r : Result Answer Refusal) (after : Mem) : Type 0 where
  pub either : (r ≡ Ok Done) ⊎ (r ≡ Err Torn)
  pub exact : SegmentReady g m k c s → (b : ℕ) × (r ≡ Ok Done) × (free g m s c (place m s) ≡ Ok (Some b)) × (after ≡ handed_out g m k d c s b shape)

-- a make of class c: the model's over memory that passes the examination; done, 10 or 13 over any
pub record Makes (g : Geometry) (m : Mem) (k d c : ℕ) (shape : RecordShape) (r : Result Answer Refusal) (after : Mem) : Type 0 where
  pub either : (r ≡ Ok Done) ⊎ ((r ≡ Err NoRoom) ⊎ (r ≡ Err Torn))
  pub exact : Consistent g m → (answer_of r ≡ (made g m k d c shape).0) × (after ≡ (made g m k d c shape).1)
