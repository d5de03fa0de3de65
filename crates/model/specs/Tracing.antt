-- The trace stack: what is pushed, by the barrier, by an acknowledgement and by tracing. Document 01: "Entering nil, a marked record, or one
-- already on the stack does nothing."
use Rattle.std.proofs.Math.Option.{Option, none, some}
use Rattle.std.specs.Prelude.{ℕ, zero, suc, ◌+◌, ◌-◌, eqb}
use Rattle.basics.specs.Pick.{pick}
use Rattle.layout.specs.declared.Geometry.{Geometry}
use Rattle.layout.specs.Mem.{Mem, set_trace}
use Rattle.theory.specs.Phases.{Duty, nothing, both, old}
use Rattle.model.specs.Fields.{trace_count, set_trace_count, root}
use Rattle.model.specs.Records.{record?, pointer_count, pointer, entered, set_entered}

-- on top of the stack, with its bit
abbrev pub on_top : Geometry → Mem → ℕ → Mem
on_top g m at = set_trace_count (set_trace (set_entered g m at) (trace_count m) (suc at)) (trace_count m + 1)

-- document 01: entering
unfoldable pub push : Geometry → Mem → Option ℕ → Mem
push g m none = m
push g m (some at) = pick (eqb (entered g m at) 1) m (on_top g m at)

-- "it enters the new value, then the old"
abbrev pub barrier : Geometry → Duty → Mem → Option ℕ → Option ℕ → Mem
barrier g nothing m new o = m
barrier g both m new o = push g (push g m new) o
barrier g old m new o = push g m o

-- the first n roots of mutator k, "in slot order"
unfoldable pub push_roots : Geometry → Mem → ℕ → ℕ → Mem
push_roots g m k zero = m
push_roots g m k (suc n) = push g (push_roots g m k n) (record? (root m k n))

-- the first n pointers of the record at a word, "in field order"
unfoldable pub push_pointers : Geometry → Mem → ℕ → ℕ → Mem
push_pointers g m at zero = m
push_pointers g m at (suc n) = push g (push_pointers g m at n) (record? (pointer m at n))

-- "takes the last entered record, marks it, enters its links in field order": an entry has its bit (`TraceOk`), so off the stack it is marked
abbrev pub popped : Geometry → Mem → ℕ → Mem
popped g m at = set_trace_count m (trace_count m - 1)

abbrev pub traced : Geometry → Mem → ℕ → Mem
traced g m at = push_pointers g (popped g m at) at (pointer_count m at)
