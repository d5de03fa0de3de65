-- A start that condemns no segment, and a step that sweeps none, leave the same heap.
use mathlib.Core.Path.{◌≡◌, refl, sym, ◌∙◌, ap, subst}
use mathlib.Core.Bool.{Bool, true, false}
use mathlib.Core.Option.{none}
use Prim.Native.Nat.{ℕ, zero, suc, ◌-◌, ◌<◌}
use native.Mathlib.Omega.{arith}
use lib.Dec.{eqb}
use Rattle.basics.specs.Pick.{pick}
use Rattle.classes.specs.Class.{IsClass, class_count}
use Rattle.layout.specs.declared.Geometry.{Geometry}
use Rattle.layout.specs.Geometry.{mutator_count}
use Rattle.layout.specs.Mem.{Mem, trace_word}
use Rattle.theory.specs.Phases.{Phase, idle, sync1, sync2, mark, sweep}
use Rattle.model.specs.PhaseNumbers.{phase_number}
use Rattle.model.specs.Fields.{phase, trace_count, outside, state, set_tag, set_cursor}
use Rattle.model.specs.Records.{pointer_count}
use Rattle.model.specs.Tracing.{popped}
use Rattle.model.specs.Mutators.{acknowledged}
use Rattle.model.specs.Collector.{collects, condemned, parts_emptied, acks_reset, marks_cleared, started, outside_answered, waiting, moved_or_waiting, traces, lowest, sweeps, step_in, step_of}
use Rattle.model.specs.Segments.{part_stack, count}
use Rattle.model_laws.proofs.Emptied.{emptied_same}
use Rattle.idle_twin.specs.SameHeap.{SameHeap}
use Rattle.idle_twin.proofs.Same.{same_self, same_then, framed, leaves_control, leaves_acks, leaves_acknowledged, leaves_pointers}
use Rattle.model.specs.Tag as Tag

-- ---- start

none_collected : (m : Mem) (n : ℕ) → ((s : ℕ) → s < n → collects m s ≡ false) → condemned m n ≡ m
unfolding condemned
none_collected m zero h = refl
none_collected m (suc s) h = ap (λ b. pick b (set_tag (condemned m s) s Tag.condemned) (condemned m s)) (h s (omega arith)) ∙ none_collected m s (λ r l. h r (omega arith))

leaves_reset : (m : Mem) (n : ℕ) → SameHeap m (acks_reset m n)
unfolding acks_reset
leaves_reset m zero = same_self m
leaves_reset m (suc k) = same_then m (acks_reset m k) _ (leaves_reset m k) (leaves_acks (acks_reset m k) k 0)

leaves_cleared : (m : Mem) → SameHeap m (marks_cleared m)
leaves_cleared m = framed m _ refl refl refl refl refl

-- no part segment is on a stack
pub leaves_started : (g : Geometry) (m : Mem) → ((s : ℕ) → s < g.segments → collects m s ≡ false) → ((c : ℕ) → IsClass c → count g m (part_stack c) ≡ 0) → SameHeap m (started g m)
unfolding started
leaves_started g m h p =
    let m₀ : Mem = parts_emptied g (condemned m g.segments) class_count in
    let m₁ : Mem = acks_reset m₀ mutator_count in
    let f : m₀ ≡ m = ap (λ x. parts_emptied g x class_count) (none_collected m g.segments h) ∙ emptied_same g m p class_count (omega arith) in
    let e : SameHeap m m₁ = subst (λ x. SameHeap x m₁) f (leaves_reset m₀ mutator_count) in
    let m₂ : Mem = set_cursor (marks_cleared m₁) 0 in
    let d : SameHeap m m₂ = same_then m m₁ _ e (same_then m₁ (marks_cleared m₁) _ (leaves_cleared m₁) (leaves_control (marks_cleared m₁) 2 0)) in
    same_then m m₂ _ d (leaves_control m₂ 0 (phase_number sync1))

-- ---- step

module _ (g : Geometry) (m : Mem) where
  pub leaves_outside : (n : ℕ) → SameHeap m (outside_answered g m n)
  unfolding outside_answered
  leaves_outside zero = same_self m
  leaves_outside (suc k) = go (eqb (state m k) outside) (leaves_outside k)
    where
      go : (b : Bool) → SameHeap m (outside_answered g m k) → SameHeap m (pick b (acknowledged g (outside_answered g m k) k) (outside_answered g m k))
      go true e = same_then m (outside_answered g m k) _ e (leaves_acknowledged g (outside_answered g m k) k)
      go false e = e

  leaves_moves : (n : ℕ) (m₁ : Mem) → SameHeap m m₁ → (p : Phase) → SameHeap m (moved_or_waiting n m₁ p).1
  leaves_moves zero m₁ e p = same_then m m₁ _ e (leaves_control m₁ 0 (phase_number p))
  leaves_moves (suc n) m₁ e p = e

  leaves_popped : (at : ℕ) → SameHeap m (popped g m at)
  leaves_popped at = leaves_control m 1 (trace_count m - 1)

  leaves_traces : (n : ℕ) → SameHeap m (traces g n m).1
  leaves_traces zero = leaves_control m 0 (phase_number sweep)
  leaves_traces (suc n) = let at : ℕ = trace_word m n - 1 in same_then m (popped g m at) _ (leaves_popped at) (leaves_pointers g (popped g m at) at (pointer_count m at))

  -- a step that sweeps nothing
  pub leaves_unswept : (phase m ≡ sweep → lowest m g.segments ≡ none) → SameHeap m (step_of g m).1
  unfolding step_of
  leaves_unswept h = go (phase m) h
    where
      go : (p : Phase) → (p ≡ sweep → lowest m g.segments ≡ none) → SameHeap m (step_in p g m).1
      go idle h = same_self m
      go sync1 h = leaves_moves (waiting (outside_answered g m mutator_count) mutator_count) (outside_answered g m mutator_count) (leaves_outside mutator_count) sync2
      go sync2 h = leaves_moves (waiting (outside_answered g m mutator_count) mutator_count) (outside_answered g m mutator_count) (leaves_outside mutator_count) mark
      go mark h = leaves_traces (trace_count m)
      go sweep h = subst (λ o. SameHeap m (sweeps g o m).1) (sym (h refl)) (leaves_control m 0 (phase_number idle))

  pub leaves_step : lowest m g.segments ≡ none → SameHeap m (step_of g m).1
  leaves_step h = leaves_unswept (λ _. h)
