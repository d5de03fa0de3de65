-- A mutator's call leaves the phase as it is, and so do the parts of a step, but for the one that sets it.
use mathlib.Core.Path.{◌≡◌, refl, ◌∙◌, ap}
use mathlib.Core.Bool.{Bool, true, false}
use mathlib.Core.Option.{Option, none, some}
use mathlib.Core.List.{List}
use Prim.Native.Nat.{ℕ, zero, suc, ◌+◌, ◌-◌}
use native.Mathlib.Omega.{arith}
use lib.Dec.{eqb}
use lib.ListN.{get_or}
use lib.Seq.{get_or-set_same, get_or-set_other}
use Rattle.std.specs.Prelude.{Ok, Err, Some, None}
use Rattle.basics.specs.Pick.{pick}
use Rattle.classes.specs.Class.{class_count, SizeClass}
use Rattle.classes.specs.Record.{of_counts, class_of_record}
use Rattle.classes.specs.declared.RecordShape.{RecordShape}
use Rattle.std.specs.Prelude.{Some, None}
use Rattle.layout.specs.declared.Geometry.{Geometry}
use Rattle.layout.specs.Mem.{Mem, Sizes, control_word, set_control, set_mutator, set_segment, set_stack, set_heap, set_run}
use Rattle.bitmap_search.specs.Scan.{Found}
use Rattle.theory.specs.Phases.{Phase, idle, sync1, sync2, mark, sweep, Duty, nothing, both, old, black, duty, in_handshake}
use Rattle.theory.specs.Calls.{Call, c_attach, c_detach, c_check, c_leave, c_enter, c_spawn, c_make, c_load, c_store, c_copy, c_clear, c_put, c_get, c_same, c_shape, Answer, refusal, refuse, on_record, unless}
use Rattle.model.specs.PhaseNumbers.{phase_of, phase_number}
use Rattle.model.specs.Fields.{phase, set_phase, trace_count, outside, state, acks, place, root}
use Rattle.model.specs.Segments.{set_segment_state, free_stack, part_stack, pop, free}
use Rattle.model.specs.Records.{record?, pointer, pointer_count, header_of, written, set_entered}
use Rattle.model.specs.Tracing.{push, barrier, push_pointers, popped, traced}
use Rattle.model.specs.Mutators.{acknowledged, attached, detached}
use Rattle.model.specs.Making.{Source, held, part, unused, no_room, source_of, set_held, freshened, advanced, blackened, counted_out, handed_out, in_block, from_source, made}
use Rattle.model.specs.Calls.{observe, of_class, act, exec}
use Rattle.model.specs.Collector.{outside_answered}
use Rattle.model_laws.proofs.Pushes.{untouched_push, fold_untouched, pointers_next}
use Rattle.model_laws.proofs.Acknowledgements.{acknowledged_phase}
use Rattle.idle_twin.specs.SameHeap.{PhaseStays}
use Rattle.idle_twin.proofs.Entries.{stays_released}

-- the word of the phase
abbrev Still : Mem → Mem → Type 0
Still m m' = control_word m' 0 ≡ control_word m 0

-- ---- make

module _ (g : Geometry) (k d c : ℕ) (shape : RecordShape) where
  still_advanced : (m : Mem) (s p : ℕ) (f : Found) → Still m (advanced g m k c s p f)
  unfolding set_segment_state set_segment set_mutator
  still_advanced m s p (Ok (Some b)) = refl
  still_advanced m s p (Ok None) = refl
  still_advanced m s p (Err _) = refl

  still_blackened : (m : Mem) (at : ℕ) → Still m (blackened g m k at)
  unfolding set_entered
  still_blackened m at = go (black (phase m) (acks m k))
    where
      go : (b : Bool) → Still m (pick b (set_entered g m at) m)
      go true = refl
      go false = refl

  still_handed : (m : Mem) (s b : ℕ) → Still m (handed_out g m k d c s b shape)
  unfolding handed_out set_mutator set_segment set_heap set_run
  still_handed m s b =
      still_blackened (written (advanced g (counted_out m s) k c s (b + 1) (free g m s c (b + 1))) (header_of g s c b) shape) (header_of g s c b)
      ∙ still_advanced (counted_out m s) s (b + 1) (free g m s c (b + 1))

  still_block : (m taken : Mem) → Still m taken → (f : Found) (s : ℕ) → Still m (in_block g m taken f k d c s shape).1
  still_block m taken q (Ok (Some b)) s = still_handed taken s b ∙ q
  still_block m taken q (Ok None) s = refl
  still_block m taken q (Err _) s = refl

  still_source : (m : Mem) (o : Source) → Still m (from_source g m k d c shape o).1
  unfolding set_mutator set_segment_state set_segment set_stack set_run
  still_source m (held s) = still_block m m refl (free g m s c (place m s)) s
  still_source m (part s) = let m₁ : Mem = set_held g (pop g m (part_stack c)) k c s (place m s) in still_block m m₁ refl (free g m₁ s c (place m₁ s)) s
  still_source m (unused s) = let m₁ : Mem = freshened g (set_held g (pop g m free_stack) k c s 0) s c in still_block m m₁ refl (free g m₁ s c (place m₁ s)) s
  still_source m no_room = refl

still_class : (g : Geometry) (m : Mem) (k d : ℕ) (shape : RecordShape) (o : SizeClass) → Still m (of_class m o (λ c. made g m k d c shape)).1
unfolding made
still_class g m k d shape (Some c) = still_source g k d c shape m (source_of g m k c)
still_class g m k d shape None = refl

-- ---- every call

still_unless : (b : Bool) (m m' : Mem) → Still m m' → Still m (unless b 11 m m').1
still_unless true m m' q = refl
still_unless false m m' q = q

still_record : (o : Option ℕ) (m : Mem) (K : ℕ → Answer × Mem) → ((at : ℕ) → Still m (K at).1) → Still m (on_record o m K).1
still_record none m K f = refl
still_record (some at) m K f = f at

still_barrier : (g : Geometry) (d : Duty) (m : Mem) (v w : ℕ) → Still m (barrier g d m (record? v) (record? w))
still_barrier g nothing m v w = refl
still_barrier g both m v w = (untouched_push g (push g m (record? v)) w).phase ∙ (untouched_push g m v).phase
still_barrier g old m v w = (untouched_push g m w).phase

still_detached : (g : Geometry) (m : Mem) (k : ℕ) → Still m (detached g m k)
unfolding detached set_run
still_detached g m k = ap (λ (l : List ℕ). get_or l 0 0) (stays_released g k m class_count).1

still_act : (g : Geometry) (m : Mem) (c : Call) → Still m (act g m c).1
unfolding act attached set_run set_mutator set_heap
still_act g m (c_attach k) = still_unless (in_handshake (phase m)) m _ refl
still_act g m (c_spawn k p i) = still_unless (in_handshake (phase m)) m _ refl
still_act g m (c_detach k) = still_unless (in_handshake (phase m)) m _ (still_detached g m k)
still_act g m (c_check k) = acknowledged_phase g m k
still_act g m (c_leave k) = acknowledged_phase g m k
still_act g m (c_enter k) = refl
still_act g m (c_make k d p n) = still_class g m k d (of_counts p n) (class_of_record (of_counts p n))
still_act g m (c_load k d i f) = still_record (record? (root m k i)) m _ (λ at. refl)
still_act g m (c_store k i f j) = still_record (record? (root m k i)) m _ (λ at. still_barrier g (duty (phase m) (acks m k)) m (root m k j) (pointer m at f))
still_act g m (c_copy k d i) = refl
still_act g m (c_clear k d) = refl
still_act g m (c_put k i f v) = still_record (record? (root m k i)) m _ (λ at. refl)
still_act g m (c_get k i f) = still_record (record? (root m k i)) m _ (λ at. refl)
still_act g m (c_same k i j) = refl
still_act g m (c_shape k i) = still_record (record? (root m k i)) m _ (λ at. refl)

pub phase_stays : PhaseStays
unfolding exec
phase_stays g m c = ap phase_of (go (refusal (observe m) c))
  where
    go : (n : ℕ) → Still m (refuse n m (act g m c)).1
    go zero = still_act g m c
    go (suc n) = refl

-- ---- the parts of a step

pub phase_outside : (g : Geometry) (m : Mem) (n : ℕ) → phase (outside_answered g m n) ≡ phase m
unfolding outside_answered
phase_outside g m zero = refl
phase_outside g m (suc k) = go (eqb (state m k) outside) (phase_outside g m k)
  where
    go : (b : Bool) → phase (outside_answered g m k) ≡ phase m → phase (pick b (acknowledged g (outside_answered g m k) k) (outside_answered g m k)) ≡ phase m
    go true e = ap phase_of (acknowledged_phase g (outside_answered g m k) k) ∙ e
    go false e = e

still_popped : (g : Geometry) (m : Mem) (at : ℕ) → Still m (popped g m at)
unfolding set_control
still_popped g m at = get_or-set_other m.control 1 0 (trace_count m - 1) 0 (λ e. omega arith)

pub phase_traced : (g : Geometry) (m : Mem) (at : ℕ) → phase (traced g m at) ≡ phase m
unfolding push_pointers
phase_traced g m at =
    ap phase_of
    ((fold_untouched g (push_pointers g (popped g m at) at) (pointer (popped g m at) at) (pointers_next g (popped g m at) at) (pointer_count m at)).phase ∙ still_popped g m at)

numbered : (p : Phase) → phase_of (phase_number p) ≡ p
numbered idle = refl
numbered sync1 = refl
numbered sync2 = refl
numbered mark = refl
numbered sweep = refl

pub phase_set : (g : Geometry) (m : Mem) → Sizes g m → (p : Phase) → phase (set_phase m p) ≡ p
unfolding set_control
phase_set g m s p = let l = s.control in ap phase_of (get_or-set_same m.control 0 (phase_number p) 0 (omega arith)) ∙ numbered p
