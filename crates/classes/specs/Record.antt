-- The shape of a record: document 01, "A record has P links and N numbers". Its counts, its class, and which fields it has.
use Rattle.std.specs.Prelude.{Bool, ℕ, ◌+◌, ltb}
use Rattle.classes.specs.Class.{SizeClass, class_of}
use Rattle.classes.specs.declared.RecordShape.{RecordShape}

-- p pointers and n values
abbrev pub of_counts : ℕ → ℕ → RecordShape
of_counts p n = record { pointer_count = p; value_count = n }

abbrev pub pointer_count_of : RecordShape → ℕ
pointer_count_of s = s.pointer_count

abbrev pub value_count_of : RecordShape → ℕ
value_count_of s = s.value_count

abbrev pub field_count_of : RecordShape → ℕ
field_count_of s = pointer_count_of s + value_count_of s

-- "A record's class is the smallest whose block holds 1 + P + N words"
abbrev pub class_of_record : RecordShape → SizeClass
class_of_record s = class_of (field_count_of s)

-- whether it has a pointer f, and a value f
abbrev pub has_pointer : RecordShape → ℕ → Bool
has_pointer s f = ltb f (pointer_count_of s)

abbrev pub has_value : RecordShape → ℕ → Bool
has_value s f = ltb f (value_count_of s)
