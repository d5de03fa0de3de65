-- The size class of a record. Document 01: "Class c, 3 to 12, has blocks of 2^c bytes. A record's class is the smallest whose
-- block holds 1 + P + N words"; document 02, No. 2: "Classes 13 (two blocks a segment) and 14 (one block) are added, so a record
-- has up to 4,095 fields"; and the number that document 01 gives each answer.
use Rattle.std.specs.Prelude.{Bool, false, ℕ, zero, suc, ◌+◌, ◌-◌, ◌*◌, ◌/◌, ◌^◌, ◌≤◌, ◌<◌, leb, ltb, Some, None}
use Rattle.std.specs.declared.option.Option.{Option}
use Rattle.basics.specs.Pick.{pick}

-- the classes are 3 to 14
abbrev pub first_class : ℕ
first_class = 3

abbrev pub class_count : ℕ
class_count = 12

-- a class number
abbrev pub IsClass : ℕ → Type 0
IsClass c = (first_class ≤ c) × (c < first_class + class_count)

-- the same as a test (in no statement: contracts and proofs use it)
unfoldable pub class_test : ℕ → Bool
class_test c = pick (ltb c first_class) false (ltb c (first_class + class_count))

-- a word has 32 bits
abbrev pub word_bytes : ℕ
word_bytes = 4

-- the words of a block of class c
abbrev pub block_words : ℕ → ℕ
block_words c = 2 ^ c / word_bytes

-- the most fields that a block of the largest class holds: "a record has up to 4,095 fields"
abbrev pub max_fields : ℕ
max_fields = block_words (first_class + class_count - 1) - 1

-- the class of a record, or none: the record has too many fields
abbrev pub SizeClass : Type 0
SizeClass = Option ℕ

-- the smallest of the n classes from c on whose block of 2 ^ c bytes holds b bytes
abbrev pub smallest_from : ℕ → ℕ → ℕ → SizeClass
smallest_from zero c b = None
smallest_from (suc n) c b = pick (leb b (2 ^ c)) (Some c) (smallest_from n (suc c) b)

-- a header word and a word for each field
abbrev pub record_bytes : ℕ → ℕ
record_bytes fields = (1 + fields) * word_bytes

abbrev pub class_of : ℕ → SizeClass
class_of fields = smallest_from class_count first_class (record_bytes fields)

-- an answer as document 01 has it: a value, or a refusal by its number (in no statement: evaluated cases use it)
pub data Outcome : Type 0 where
  value : ℕ → Outcome
  refusal : ℕ → Outcome

-- "Refusal 9 now begins at 4,096 fields." (in no statement: evaluated cases use it)
abbrev pub outcome_of : SizeClass → Outcome
outcome_of (Some c) = value c
outcome_of None = refusal 9
