-- The trace stack in order: entered one after the other among the bits of a scratch.
use Rattle.std.specs.Prelude.{◌≡◌, Bool, true, false, List, ℕ, ◌-◌, ◌≤◌, ◌<◌, length}
use Rattle.words.specs.Bits.{bit_at, set_bit}
use Rattle.layout.specs.declared.Geometry.{Geometry}
use Rattle.layout.specs.Geometry.{len, mark_bit}
use Rattle.layout.specs.Mem.{Mem, trace_word}
use Rattle.model.specs.Fields.{trace_count}
use Rattle.model.specs.Records.{entered}
use Rattle.model.specs.Reaching.{IsEntry}
use Rattle.model.specs.Consistent.{RecordOk, TraceOk}
use Rattle.layout.specs.Region as Region

-- the trace stack is in order, and its entries are records that pass the test
pub record Traced (g : Geometry) (m : Mem) : Type 0 where
  pub trace : TraceOk g m
  pub records : (at : ℕ) → IsEntry m at → RecordOk g m at

-- the word that entry i names
abbrev pub entry_at : Mem → ℕ → ℕ
entry_at m i = trace_word m i - 1

abbrev pub entry_bit : Geometry → Mem → ℕ → ℕ
entry_bit g m i = mark_bit (entry_at m i)

-- entry i by itself: "Entering nil, a marked record, or one already on the stack does nothing."
pub record EntryOk (g : Geometry) (m : Mem) (i : ℕ) : Type 0 where
  pub named : 1 ≤ trace_word m i
  pub passes : RecordOk g m (entry_at m i)
  pub bit : entered g m (entry_at m i) ≡ 1

-- bit k of an entry, entered among the bits so far
pub record BitEnters (m : Mem) (k : ℕ) (before : List ℕ) (r : Bool) (after : List ℕ) : Type 0 where
  pub new : r ≡ true → (bit_at m.marks k ≡ 1) × (bit_at before k ≡ 0) × (after ≡ set_bit before k)
  pub wrong : r ≡ false → bit_at m.marks k ≡ 1 → bit_at before k ≡ 0 → ⊥

pub record Enters (g : Geometry) (m : Mem) (i : ℕ) (before : List ℕ) (r : Bool) (after : List ℕ) : Type 0 where
  pub new : r ≡ true → EntryOk g m i × (bit_at before (entry_bit g m i) ≡ 0) × (after ≡ set_bit before (entry_bit g m i))
  pub wrong : r ≡ false → EntryOk g m i → bit_at before (entry_bit g m i) ≡ 0 → ⊥

-- the first i entries are in order, none of them twice, and the bits are exactly theirs
pub record Seen (g : Geometry) (m : Mem) (i : ℕ) (bits : List ℕ) : Type 0 where
  pub long : len g Region.marks ≤ length bits
  pub entries : (k : ℕ) → k < i → EntryOk g m k
  pub once : (j k : ℕ) → j < k → k < i → trace_word m j ≡ trace_word m k → ⊥
  pub there : (k : ℕ) → k < i → bit_at bits (entry_bit g m k) ≡ 1
  pub only : (b : ℕ) → bit_at bits b ≡ 1 → (k : ℕ) × (k < i) × (entry_bit g m k ≡ b)

-- all entries entered, or one that a trace stack in order, of records that pass the test, has not
pub record EntersAll (g : Geometry) (m : Mem) (r : Bool) (after : List ℕ) : Type 0 where
  pub new : r ≡ true → Seen g m (trace_count m) after
  pub wrong : r ≡ false → Traced g m → ⊥
