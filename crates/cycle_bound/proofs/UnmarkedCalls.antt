-- Every mutator's call in mark: each block that is in use and not marked after it was so before.
use mathlib.Core.Path.{◌≡◌, refl, sym, ◌∙◌, ap, subst}
use mathlib.Core.Logic.{◌⊎◌, inl, inr}
use mathlib.Core.Bool.{Bool, true, false}
use mathlib.Core.Option.{Option, none, some}
use Prim.Native.Nat.{ℕ, zero, suc, ◌<◌}
use native.Mathlib.Omega.{arith}
use Rattle.basics.specs.Pick.{pick}
use Rattle.classes.specs.Class.{class_count}
use Rattle.classes.specs.Record.{of_counts, class_of_record}
use Rattle.layout.specs.declared.Geometry.{Geometry}
use Rattle.layout.specs.Geometry.{mutator_count}
use Rattle.layout.specs.Mem.{Mem, Sizes, set_run}
use Rattle.theory.specs.Phases.{mark, in_handshake, duty, owes}
use Rattle.theory.specs.Calls.{Call, c_attach, c_detach, c_check, c_leave, c_enter, c_spawn, c_make, c_load, c_store, c_copy, c_clear, c_put, c_get}
use Rattle.theory.specs.Calls.{c_same, c_shape, Answer, refusal, refuse, unless, on_record}
use Rattle.theory.proofs.Refusals.{by_ok}
use Rattle.model.specs.Fields.{phase, acks, root, class, trace_count}
use Rattle.model.specs.Segments.{bitmap}
use Rattle.model.specs.Records.{record?, pointer}
use Rattle.model.specs.Tracing.{barrier}
use Rattle.model.specs.Mutators.{given, acknowledged, released, detached}
use Rattle.model.specs.Calls.{observe, act, exec}
use Rattle.model.specs.Consistent.{Consistent}
use Rattle.model_laws.proofs.Bitmaps.{bitmap_by}
use Rattle.model_laws.proofs.Releasing.{Gone, gone?, Releasing}
use Rattle.model_laws.proofs.Released.{releasing, releasable}
use Rattle.refine_view.proofs.Invariants.{consistent_ordered}
use Rattle.idle_twin.proofs.Calls.{leaves_barrier}
use Rattle.cycle_bound.proofs.MarksKept.{MarksKept, barrier_kept}
use Rattle.cycle_bound.proofs.Unmarked.{Unmarked, WasUnmarked, was_self, was_then, was_standing, was_still, was_same, kept_framed, was_mutator, was_heap, was_attached}
use Rattle.cycle_bound.proofs.UnmarkedMake.{was_make}

-- ---- detach: what was held is part, with its class, place and bitmap

was_detached : (g : Geometry) (m : Mem) → Sizes g m → Consistent g m → (k : ℕ) → k < mutator_count → WasUnmarked g m (detached g m k)
unfolding detached set_run
was_detached g m s c k few = was_then g m parted (detached g m k) was_parted (was_still g parted (detached g m k) refl refl (kept_framed g parted (detached g m k) refl refl refl))
  where
    parted : Mem
    parted = released g m k class_count

    parts : Releasing g m parted k class_count
    parts = releasing g m s (releasable g m c) k few class_count (omega arith)

    kept : MarksKept g m parted
    kept = kept_framed g m parted (ap (λ (x : Mem). x.marks) parts.frame) (ap (λ (x : Mem). x.trace) parts.frame) (ap trace_count parts.frame)

    was_parted : WasUnmarked g m parted
    was_parted i b u = go (gone? m k class_count i)
      where
        same : bitmap g parted i ≡ bitmap g m i
        same = bitmap_by g m parted (ap (λ (x : Mem). x.bitmaps) parts.frame) i

        go : Gone m k class_count i ⊎ (Gone m k class_count i → ⊥) → Unmarked g m i b × (class parted i ≡ class m i)
        go (inl z) = let x = parts.gone i z in was_standing g m parted kept i b u (λ q. let y = z.0 in omega arith) x.class x.place same
        go (inr f) = let x = parts.stay i f in was_standing g m parted kept i b u (λ q. u.in_use.used (x.tag ∙ q)) x.class x.place same

-- ---- every call

was_unless : (g : Geometry) (b : Bool) (m m' : Mem) → WasUnmarked g m m' → WasUnmarked g m (unless b 11 m m').1
was_unless g true m m' h = was_self g m
was_unless g false m m' h = h

was_record : (g : Geometry) (o : Option ℕ) (m : Mem) (K : ℕ → Answer × Mem) → ((at : ℕ) → WasUnmarked g m (K at).1) → WasUnmarked g m (on_record o m K).1
was_record g none m K h = was_self g m
was_record g (some at) m K h = h at

-- in mark no mutator owes an acknowledgement
acknowledged_mark : (g : Geometry) (m : Mem) (k : ℕ) → phase m ≡ mark → acknowledged g m k ≡ m
unfolding acknowledged
acknowledged_mark g m k e = ap (λ p. pick (owes p (acks m k)) (given g p m k) m) e

module _ (g : Geometry) (m : Mem) (s : Sizes g m) (c : Consistent g m) (marking : phase m ≡ mark) where
  was_acknowledged : (k : ℕ) → WasUnmarked g m (acknowledged g m k)
  was_acknowledged k = subst (WasUnmarked g m) (sym (acknowledged_mark g m k marking)) (was_self g m)

  was_barrier : (k v w : ℕ) → WasUnmarked g m (barrier g (duty (phase m) (acks m k)) m (record? v) (record? w))
  was_barrier k v w =
      was_same g m _ (leaves_barrier g (duty (phase m) (acks m k)) m v w) (barrier_kept g (duty (phase m) (acks m k)) m (let l = s.control in omega arith) v w)

  was_act : (c : Call) → refusal (observe m) c ≡ 0 → WasUnmarked g m (act g m c).1
  unfolding act
  was_act (c_attach k) e = was_unless g (in_handshake (phase m)) m _ (was_attached g m k 0)
  was_act (c_spawn k p i) e = was_unless g (in_handshake (phase m)) m _ (was_attached g m k (root m p i))
  was_act (c_detach k) e = was_unless g (in_handshake (phase m)) m _ (was_detached g m s c k (by_ok (observe m) k _ e).0)
  was_act (c_check k) e = was_acknowledged k
  was_act (c_leave k) e = was_then g m (acknowledged g m k) _ (was_acknowledged k) (was_mutator g (acknowledged g m k) _ _)
  was_act (c_enter k) e = was_mutator g m _ _
  was_act (c_make k d p n) e = was_make g m s (consistent_ordered g m c) marking k d p n e (class_of_record (of_counts p n)) refl
  was_act (c_load k d i f) e = was_record g (record? (root m k i)) m _ (λ at. was_mutator g m _ _)
  was_act (c_store k i f j) e =
      was_record g (record? (root m k i)) m _
      (λ at. was_then g m (barrier g (duty (phase m) (acks m k)) m (record? (root m k j)) (record? (pointer m at f))) _
      (was_barrier k (root m k j) (pointer m at f)) (was_heap g _ _ _))
  was_act (c_copy k d i) e = was_mutator g m _ _
  was_act (c_clear k d) e = was_mutator g m _ _
  was_act (c_put k i f v) e = was_record g (record? (root m k i)) m _ (λ at. was_heap g m _ _)
  was_act (c_get k i f) e = was_record g (record? (root m k i)) m _ (λ at. was_self g m)
  was_act (c_same k i j) e = was_self g m
  was_act (c_shape k i) e = was_record g (record? (root m k i)) m _ (λ at. was_self g m)

  pub was_exec : (c : Call) → WasUnmarked g m (exec g m c).1
  unfolding exec
  was_exec c = go (refusal (observe m) c) refl
    where
      go : (n : ℕ) → refusal (observe m) c ≡ n → WasUnmarked g m (refuse n m (act g m c)).1
      go zero e = was_act c e
      go (suc n) e = was_self g m
