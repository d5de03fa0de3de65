-- The words of the memory that a make leaves, beside those that it began with.
use mathlib.Core.Path.{◌≡◌}
use mathlib.Core.Bool.{true, false}
use mathlib.Core.Logic.{◌⊎◌}
use Prim.Native.Nat.{ℕ, suc, ◌+◌, ◌-◌, ◌*◌, ◌≤◌, ◌<◌}
use Rattle.words.specs.Bits.{bit_at}
use Rattle.words.proofs.FirstZero.{NoZero}
use Rattle.classes.specs.Class.{first_class}
use Rattle.classes.specs.declared.RecordShape.{RecordShape}
use Rattle.classes.specs.Record.{field_count_of}
use Rattle.layout.specs.declared.Geometry.{Geometry}
use Rattle.layout.specs.Geometry.{mutator_words, blocks_in, mark_bit}
use Rattle.layout.specs.Mem.{Mem, mutator_word, heap_word, Sizes}
use Rattle.theory.specs.Phases.{black}
use Rattle.model.specs.Fields.{phase, held_from, acks, root, holding, kept_count, handed_count}
use Rattle.model.specs.Segments.{bitmap}
use Rattle.model.specs.Records.{header_of, header_word, entered}
use Rattle.model_laws.proofs.Words.{Recorded, Counted, Untouched}

-- the segment is still held, with a free block at or after its place
pub record StillHeld (g : Geometry) (m m' : Mem) (k cl r b : ℕ) : Type 0 where
  pub recorded : Recorded m' r 2 cl (b + 1) k
  pub held : holding m' k cl ≡ suc r
  pub next : ℕ
  pub after : b + 1 ≤ next
  pub below : next < blocks_in g cl
  pub unused : bit_at (bitmap g m r) next ≡ 0

-- the segment has become full: no free block is left behind block b
pub record NowFull (g : Geometry) (m m' : Mem) (k cl r b : ℕ) : Type 0 where
  pub recorded : Recorded m' r 3 cl (blocks_in g cl) 0
  pub held : holding m' k cl ≡ 0
  pub last : NoZero (bit_at (bitmap g m r)) (b + 1) (blocks_in g cl)

-- the place has moved: what is left of the segment, of the mutator's table and of the rest
pub record Moved (g : Geometry) (m m' : Mem) (k cl r b : ℕ) : Type 0 where
  pub sizes : Sizes g m'
  pub control : m'.control ≡ m.control
  pub stacks : m'.stacks ≡ m.stacks
  pub bitmaps : m'.bitmaps ≡ m.bitmaps
  pub marks : m'.marks ≡ m.marks
  pub trace : m'.trace ≡ m.trace
  pub heap : m'.heap ≡ m.heap
  pub words : (j o : ℕ) → o < mutator_words → (j ≡ k → o ≡ held_from + (cl - first_class) → ⊥) → mutator_word m' (j * mutator_words + o) ≡ mutator_word m (j * mutator_words + o)
  pub others : (x : ℕ) → (x ≡ r → ⊥) → Untouched m m' x
  pub counts : Counted m' r (kept_count m r) (handed_count m r + 1)
  pub segment : StillHeld g m m' k cl r b ⊎ NowFull g m m' k cl r b

-- a record of a shape in block b of segment r, in root d of mutator k
pub record Result (g : Geometry) (m m' : Mem) (k d cl r b : ℕ) (shape : RecordShape) : Type 0 where
  pub sizes : Sizes g m'
  pub control : m'.control ≡ m.control
  pub stacks : m'.stacks ≡ m.stacks
  pub bitmaps : m'.bitmaps ≡ m.bitmaps
  pub trace : m'.trace ≡ m.trace
  pub words : (j o : ℕ) → o < mutator_words → (j ≡ k → o ≡ held_from + (cl - first_class) → ⊥) → (j ≡ k → o ≡ d → ⊥) → mutator_word m' (j * mutator_words + o) ≡ mutator_word m (j * mutator_words + o)
  pub named : root m' k d ≡ suc (header_of g r cl b)
  pub others : (x : ℕ) → (x ≡ r → ⊥) → Untouched m m' x
  pub counts : Counted m' r (kept_count m r) (handed_count m r + 1)
  pub segment : StillHeld g m m' k cl r b ⊎ NowFull g m m' k cl r b
  pub header : heap_word m' (header_of g r cl b) ≡ header_word shape
  pub fields : (i : ℕ) → i < field_count_of shape → heap_word m' (header_of g r cl b + 1 + i) ≡ 0
  pub before : (i : ℕ) → i < header_of g r cl b → heap_word m' i ≡ heap_word m i
  pub behind : (i : ℕ) → header_of g r cl b + field_count_of shape < i → heap_word m' i ≡ heap_word m i
  pub marks : (i : ℕ) → (i ≡ mark_bit (header_of g r cl b) → ⊥) → bit_at m'.marks i ≡ bit_at m.marks i
  pub born : black (phase m) (acks m k) ≡ true → entered g m' (header_of g r cl b) ≡ 1
  pub unborn : black (phase m) (acks m k) ≡ false → entered g m' (header_of g r cl b) ≡ entered g m (header_of g r cl b)
