-- A consistent memory's own trace stack is in order.
use mathlib.Core.Path.{refl}
use mathlib.Core.Logic.{inr}
use Prim.Native.Nat.{ℕ, ◌-◌, ◌<◌}
use native.Mathlib.Omega.{arith}
use Rattle.layout.specs.declared.Geometry.{Geometry}
use Rattle.layout.specs.Mem.{Mem, trace_word, Sizes}
use Rattle.theory.specs.Reach.{root}
use Rattle.model.specs.Fields.{trace_count}
use Rattle.model.specs.Reaching.{IsEntry}
use Rattle.refine_view.specs.Refines.{Ordered}
use Rattle.refine_view.specs.View.{stack_of}
use Rattle.refine_view.proofs.Invariants.{structure_of}
use Rattle.refine_trace.proofs.Over.{over_self}
use Rattle.refine_trace.proofs.Entered.{Entered}
use Rattle.refine_trace.proofs.Push.{Pushed}

module _ (g : Geometry) (m : Mem) (s : Sizes g m) (c : Ordered g m) where
  pub entry_at : (i : ℕ) → i < trace_count m → IsEntry m (trace_word m i - 1)
  entry_at i l = record { index = i; within = l; names = let n = c.trace.named i l in omega arith }

  pub entered_self : Entered g m m.control m.marks m.trace
  entered_self = record {
    length_control = s.control;
    length_marks = s.marks;
    length_trace = s.trace;
    phase = refl;
    cursor = refl;
    named = c.trace.named;
    records = λ i l. c.records _ (root (inr (entry_at i l)));
    bits = λ i l. c.trace.bits _ (entry_at i l);
    number = c.trace.number;
    marks = (structure_of g m c).marks;
    same = λ x k. refl;
  }

  pub pushed_self : Pushed g m m (stack_of m (trace_count m))
  pushed_self = record { control = m.control; marks = m.marks; trace = m.trace; is = over_self m; entered = entered_self; stack = refl }
