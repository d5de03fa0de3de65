-- A push on the trace stack, with what can hinder it, over memory of any content.
use Rattle.std.specs.Prelude.{◌≡◌, Bool, true, false, ◌⊎◌, ℕ, suc, ◌+◌, ◌≤◌, eqb, None}
use Rattle.basics.specs.Pick.{pick}
use Rattle.words.specs.Bits.{bit_at}
use Rattle.layout.specs.declared.Geometry.{Geometry}
use Rattle.layout.specs.Geometry.{len}
use Rattle.layout.specs.Mem.{Mem, set_trace}
use Rattle.model.specs.Fields.{trace_count, set_trace_count}
use Rattle.model.specs.declared.Duty.{Duty}
use Rattle.model.specs.Records.{record?, entered}
use Rattle.model.specs.Tracing.{push, barrier}
use Rattle.marks.specs.Bits.{record_bit_at, with_mark}
use Rattle.theory.specs.Phases as theory
use Rattle.model.specs.declared.Duty.TheVariants as duty
use Rattle.layout.specs.Region as Region

-- the word w on top of the stack, with bit k, unless the bit is set
unfoldable pub pushed_bit : Mem → ℕ → ℕ → Mem
pushed_bit m w k =
    pick (eqb (bit_at m.marks k) 1) m (set_trace_count (set_trace (with_mark m k) (trace_count m) w) (trace_count m + 1))

-- what a push of word w and bit k answers: true and the memory with it, or false where its bit is not set and the stack has no room
pub record PushesBit (g : Geometry) (m : Mem) (w k : ℕ) (r : Bool) (after : Mem) : Type 0 where
  pub done : r ≡ true → after ≡ pushed_bit m w k
  pub full : r ≡ false → (bit_at m.marks k ≡ 1 → ⊥) × (len g Region.trace ≤ trace_count m)

-- what hinders a push of word w: its record has no bit, or its bit is not set while the stack has no room
pub record PushFails (g : Geometry) (m : Mem) (w : ℕ) : Type 0 where
  pub at : ℕ
  pub names : w ≡ suc at
  pub why : (record_bit_at g at ≡ None) ⊎ ((entered g m at ≡ 1 → ⊥) × (len g Region.trace ≤ trace_count m))

pub record Pushes (g : Geometry) (m : Mem) (w : ℕ) (r : Bool) (after : Mem) : Type 0 where
  pub done : r ≡ true → after ≡ push g m (record? w)
  pub fails : r ≡ false → PushFails g m w

-- the barrier's duty as theory has it
abbrev pub rule_of : Duty → theory.Duty
rule_of duty.Nothing = theory.nothing
rule_of duty.Both = theory.both
rule_of duty.Old = theory.old

pub record BarrierRuns (g : Geometry) (m : Mem) (d : Duty) (new old : ℕ) (r : Bool) (after : Mem) : Type 0 where
  pub done : r ≡ true → after ≡ barrier g (rule_of d) m (record? new) (record? old)
  pub fails : r ≡ false → PushFails g m new ⊎ (PushFails g m old ⊎ PushFails g (push g m (record? new)) old)
