-- What a root or a pointer holds, and the words of a record's fields over memory of any content.
use Rattle.std.specs.Prelude.{◌≡◌, Bool, ℕ, zero, suc, ◌+◌, ltb, Result, Ok, Err}
use Rattle.basics.specs.Pick.{pick}
use Rattle.classes.specs.Record.{has_pointer, has_value}
use Rattle.classes.specs.declared.RecordShape.{RecordShape}
use Rattle.layout.specs.declared.Geometry.{Geometry}
use Rattle.layout.specs.Geometry.{len}
use Rattle.layout.specs.Mem.{Mem}
use Rattle.model.specs.Records.{InHalves, shape_of, pointer_count}
use Rattle.model.specs.declared.Held.{Held}
use Rattle.model.specs.declared.Held.TheVariants.{Nil, Record}
use Rattle.model.specs.declared.Refusal.{Refusal}
use Rattle.model.specs.declared.Refusal.TheVariants.{Field, Torn}
use Rattle.layout.specs.Region as Region

-- nil is 0, and a record is named by 1 + the index of its header word in the heap
abbrev pub held_of : ℕ → Held
held_of zero = Nil
held_of (suc at) = Record at

-- the shape of the record at a word, over memory of any content
pub record ShapeRead (m : Mem) (at : ℕ) (r : RecordShape) : Type 0 where
  pub shape : r ≡ shape_of m at
  pub small : InHalves r

-- "13, torn": off the heap
abbrev pub if_in_heap : Geometry → ℕ → Result ℕ Refusal → Result ℕ Refusal
if_in_heap g at rest = pick (ltb at (len g Region.heap)) rest (Err Torn)

-- a field at a word: 8 where there is no such field
abbrev pub field_at : Geometry → Bool → ℕ → Result ℕ Refusal
field_at g has word = pick has (if_in_heap g word (Ok word)) (Err Field)

-- field f of the record at a word
unfoldable pub pointer_at : Geometry → Mem → ℕ → ℕ → Result ℕ Refusal
pointer_at g m at f = if_in_heap g at (field_at g (has_pointer (shape_of m at) f) (at + 1 + f))

unfoldable pub value_at : Geometry → Mem → ℕ → ℕ → Result ℕ Refusal
value_at g m at f = if_in_heap g at (field_at g (has_value (shape_of m at) f) (at + 1 + pointer_count m at + f))
