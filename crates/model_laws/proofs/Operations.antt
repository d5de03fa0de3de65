-- The operations that calls are made of keep the lengths of the regions, over memory of any content.
use mathlib.Core.Path.{◌∙◌}
use mathlib.Core.Bool.{Bool, true, false}
use mathlib.Core.Option.{Option, none, some}
use Prim.Native.Nat.{ℕ, zero, suc, ◌+◌, ◌-◌, ◌*◌}
use lib.Dec.{eqb}
use lib.ListN.{length, length-replicate}
use Rattle.basics.specs.Pick.{pick}
use Rattle.classes.specs.Class.{class_count}
use Rattle.layout.specs.declared.Geometry.{Geometry}
use Rattle.layout.specs.Geometry.{mutator_count, mutator_words, root_count}
use Rattle.layout.specs.Mem.{Mem, set_trace, set_stack, Sizes}
use Rattle.theory.specs.Phases.{Phase, idle, sync1, sync2, mark, sweep, Duty, nothing, both, old, owes}
use Rattle.model.specs.PhaseNumbers.{phase_number}
use Rattle.model.specs.Fields.{set_cursor, phase, trace_count, acks_at, acks, root, set_tag}
use Rattle.model.specs.Segments.{stacked, count}
use Rattle.model.specs.Records.{record?, pointer_count, pointer, entered, set_entered}
use Rattle.model.specs.Tracing.{push, barrier, push_roots, push_pointers, popped, traced, on_top}
use Rattle.model.specs.Mutators.{given, acknowledged}
use Rattle.model.specs.Collector.{collects, condemned, parts_emptied, acks_reset, marks_cleared, started}
use Rattle.model_laws.proofs.Lengths.{sizes_control, sizes_mutator, sizes_segment, sizes_stack, sizes_entered, sizes_trace}
use Rattle.model.specs.Tag as Tag

module _ (g : Geometry) where
  -- one of two memories
  pub sizes_pick : (t : Bool) (m m' : Mem) → Sizes g m → Sizes g m' → Sizes g (pick t m m')
  sizes_pick true m m' s s' = s
  sizes_pick false m m' s s' = s'

  sizes_on_top : (m : Mem) → Sizes g m → (at : ℕ) → Sizes g (on_top g m at)
  sizes_on_top m s at =
      let a = sizes_entered g m s at in
      let b = sizes_trace g (set_entered g m at) a (trace_count m) (suc at) in
      sizes_control g (set_trace (set_entered g m at) (trace_count m) (suc at)) b 1 (trace_count m + 1)

  pub sizes_push : (m : Mem) → Sizes g m → (o : Option ℕ) → Sizes g (push g m o)
  unfolding push
  sizes_push m s none = s
  sizes_push m s (some at) =
      sizes_pick (eqb (entered g m at) 1) m (on_top g m at) s (sizes_on_top m s at)

  pub sizes_barrier : (d : Duty) (m : Mem) → Sizes g m → (new o : Option ℕ) → Sizes g (barrier g d m new o)
  sizes_barrier nothing m s new o = s
  sizes_barrier both m s new o = sizes_push (push g m new) (sizes_push m s new) o
  sizes_barrier old m s new o = sizes_push m s o

  pub sizes_roots : (m : Mem) → Sizes g m → (k n : ℕ) → Sizes g (push_roots g m k n)
  unfolding push_roots
  sizes_roots m s k zero = s
  sizes_roots m s k (suc n) = sizes_push (push_roots g m k n) (sizes_roots m s k n) (record? (root m k n))

  pub sizes_pointers : (m : Mem) → Sizes g m → (at n : ℕ) → Sizes g (push_pointers g m at n)
  unfolding push_pointers
  sizes_pointers m s at zero = s
  sizes_pointers m s at (suc n) = sizes_push (push_pointers g m at n) (sizes_pointers m s at n) (record? (pointer m at n))

  sizes_popped : (m : Mem) → Sizes g m → (at : ℕ) → Sizes g (popped g m at)
  sizes_popped m s at = sizes_control g m s 1 (trace_count m - 1)

  pub sizes_traced : (m : Mem) → Sizes g m → (at : ℕ) → Sizes g (traced g m at)
  sizes_traced m s at = sizes_pointers (popped g m at) (sizes_popped m s at) at (pointer_count m at)

  -- ---- acknowledgements, and stacks of segments

  given_sizes : (p : Phase) (m : Mem) → Sizes g m → (k : ℕ) → Sizes g (given g p m k)
  given_sizes idle m s k = s
  given_sizes sync1 m s k = sizes_mutator g m s (k * mutator_words + acks_at) 1
  given_sizes sync2 m s k = sizes_mutator g (push_roots g m k root_count) (sizes_roots m s k root_count) (k * mutator_words + acks_at) 2
  given_sizes mark m s k = s
  given_sizes sweep m s k = s

  pub sizes_acknowledged : (m : Mem) → Sizes g m → (k : ℕ) → Sizes g (acknowledged g m k)
  unfolding acknowledged
  sizes_acknowledged m s k = sizes_pick (owes (phase m) (acks m k)) (given g (phase m) m k) m (given_sizes (phase m) m s k) s

  pub sizes_stacked : (m : Mem) → Sizes g m → (t s : ℕ) → Sizes g (stacked g m t s)
  sizes_stacked m z t s =
      sizes_stack g (set_stack m (t * (1 + g.segments) + 1 + count g m t) s) (sizes_stack g m z (t * (1 + g.segments) + 1 + count g m t) s) (t * (1 + g.segments)) (count g m t + 1)

  -- ---- a start

  pub sizes_condemned : (m : Mem) → Sizes g m → (n : ℕ) → Sizes g (condemned m n)
  unfolding condemned
  sizes_condemned m z zero = z
  sizes_condemned m z (suc s) =
      let y : Sizes g (condemned m s) = sizes_condemned m z s in
      sizes_pick (collects m s) (set_tag (condemned m s) s Tag.condemned) (condemned m s) (sizes_segment g (condemned m s) y _ _) y

  pub sizes_emptied : (m : Mem) → Sizes g m → (n : ℕ) → Sizes g (parts_emptied g m n)
  unfolding parts_emptied
  sizes_emptied m z zero = z
  sizes_emptied m z (suc n) = sizes_stack g (parts_emptied g m n) (sizes_emptied m z n) _ 0

  pub sizes_reset : (m : Mem) → Sizes g m → (n : ℕ) → Sizes g (acks_reset m n)
  unfolding acks_reset
  sizes_reset m z zero = z
  sizes_reset m z (suc k) = sizes_mutator g (acks_reset m k) (sizes_reset m z k) (k * mutator_words + acks_at) 0

  sizes_cleared : (m : Mem) → Sizes g m → Sizes g (marks_cleared m)
  sizes_cleared m z = record {
    control = z.control;
    mutators = z.mutators;
    segments = z.segments;
    stacks = z.stacks;
    bitmaps = z.bitmaps;
    marks = length-replicate (length m.marks) 0 ∙ z.marks;
    trace = z.trace;
    heap = z.heap;
  }

  pub sizes_started : (m : Mem) → Sizes g m → Sizes g (started g m)
  unfolding started
  sizes_started m z =
      let m₀ : Mem = condemned m g.segments in
      let m₁ : Mem = parts_emptied g m₀ class_count in
      let m₂ : Mem = acks_reset m₁ mutator_count in
      let y = sizes_cleared m₂ (sizes_reset m₁ (sizes_emptied m₀ (sizes_condemned m z g.segments) class_count) mutator_count) in
      sizes_control g (set_cursor (marks_cleared m₂) 0) (sizes_control g (marks_cleared m₂) y 2 0) 0 (phase_number sync1)
