-- The two counts of every segment after a call: they stay, but that a make answered Ok counts one block more of one segment.
use mathlib.Core.Path.{◌≡◌, refl, sym, ◌∙◌, ap, subst}
use mathlib.Core.Logic.{◌⊎◌, inl, inr}
use mathlib.Core.Bool.{Bool, true, false}
use mathlib.Core.Option.{Option, none, some}
use Prim.Native.Nat.{ℕ, zero, suc, ◌+◌, ◌-◌, ◌<◌}
use native.Mathlib.Omega.{arith}
use lib.Dec.{eqb}
use borrow.Author.Tests.{eqb-true}
use Rattle.basics.specs.Pick.{pick}
use Rattle.classes.specs.Class.{class_count, SizeClass}
use Rattle.classes.specs.Record.{of_counts, class_of_record}
use Rattle.std.specs.Prelude.{Some, None}
use Rattle.classes.proofs.Smallest.{class_found}
use Rattle.layout.specs.declared.Geometry.{Geometry}
use Rattle.layout.specs.Geometry.{mutator_count, root_count}
use Rattle.layout.specs.Mem.{Mem, Sizes, set_mutator, set_heap, set_run}
use Rattle.theory.specs.Phases.{in_handshake, duty}
use Rattle.theory.specs.Calls.{Call, c_attach, c_detach, c_check, c_leave, c_enter, c_spawn, c_make, c_load, c_store, c_copy, c_clear, c_put, c_get, c_same, c_shape, CallKind, coming, working, asks_number, asks_flag, asks_shape, making, kind_of, Answer, refusal, refuse, unless, on_record, a_ok, a_moved, a_traced, a_done, a_idle, a_num, a_flag, a_shape, a_no, a_waiting, a_swept}
use Rattle.theory.proofs.Refusals.{by_ok, root_ok}
use Rattle.model.specs.Fields.{phase, acks, root, holding, kept_count, handed_count}
use Rattle.model.specs.Segments.{free_stack, part_stack, count, top}
use Rattle.model.specs.Records.{record?, pointer}
use Rattle.model.specs.Tracing.{barrier}
use Rattle.model.specs.Mutators.{acknowledged, attached, released, detached}
use Rattle.model.specs.Making.{held, part, unused, no_room, source_of, in_block, in_segment, from_source, made}
use Rattle.model.specs.Calls.{is_attached, observe, of_class, act, exec}
use Rattle.model.specs.Consistent.{Consistent}
use Rattle.model_laws.proofs.Words.{Counted, CountsStay, counted_then, untouched_same}
use Rattle.model_laws.proofs.Released.{releasing, releasable}
use Rattle.refine_view.specs.Refines.{Ordered}
use Rattle.refine_view.proofs.Invariants.{consistent_ordered}
use Rattle.refine_take_detach.proofs.SegmentTaken.{SegmentTaken}
use Rattle.refine_take_detach.proofs.TakePart.{taken_part}
use Rattle.refine_take_detach.proofs.TakeFree.{taken_free}
use Rattle.refine_making.proofs.Request.{requested}
use Rattle.refine_making.proofs.Blackened.{result}
use Rattle.idle_twin.specs.SameHeap.{SameHeap}
use Rattle.idle_twin.proofs.Same.{leaves_acknowledged}
use Rattle.idle_twin.proofs.Calls.{leaves_barrier}
use Rattle.guarantee.proofs.AllRefine.{some_of, in_order, own_taken}

-- every segment's counts stay
abbrev pub AllStay : Mem → Mem → Type 0
AllStay m m' = (q : ℕ) → CountsStay m m' q

stay_still : (m m' : Mem) → m'.segments ≡ m.segments → AllStay m m'
stay_still m m' e q = (untouched_same m m' q e).counts

stay_self : (m : Mem) → AllStay m m
stay_self m = stay_still m m refl

stay_then : (m m₁ m₂ : Mem) → AllStay m m₁ → AllStay m₁ m₂ → AllStay m m₂
stay_then m m₁ m₂ a b q = counted_then (a q) (b q)

stay_same : (m m' : Mem) → SameHeap m m' → AllStay m m'
stay_same m m' e = stay_still m m' e.segments

-- one block more of one segment is counted
pub record OneMore (g : Geometry) (m m' : Mem) : Type 0 where
  pub segment : ℕ
  pub inside : segment < g.segments
  pub there : Counted m' segment (kept_count m segment) (handed_count m segment + 1)
  pub others : (q : ℕ) → (q ≡ segment → ⊥) → CountsStay m m' q

-- 1 for ok, as document 01 has the answers
abbrev pub ok_of : Answer → ℕ
ok_of a_ok = 1
ok_of a_moved = 0
ok_of a_traced = 0
ok_of a_done = 0
ok_of a_idle = 0
ok_of (a_num v) = 0
ok_of (a_flag b) = 0
ok_of (a_shape s) = 0
ok_of (a_no n) = 0
ok_of (a_waiting n) = 0
ok_of (a_swept s f) = 0

-- ok and one more, or refused and nothing changes
abbrev pub MakesOne : Geometry → Mem → Answer × Mem → Type 0
MakesOne g m r = ((ok_of r.0 ≡ 1) × OneMore g m r.1) ⊎ ((ok_of r.0 ≡ 0) × (r.1 ≡ m))

-- what a call of each kind does to the counts
abbrev pub CountsBy : CallKind → Geometry → Mem → Answer × Mem → Type 0
CountsBy coming g m r = AllStay m r.1
CountsBy working g m r = AllStay m r.1
CountsBy asks_number g m r = AllStay m r.1
CountsBy asks_flag g m r = AllStay m r.1
CountsBy asks_shape g m r = AllStay m r.1
CountsBy (making k d) g m r = MakesOne g m r

-- ---- make

module _ (g : Geometry) (m : Mem) (s : Sizes g m) (c : Ordered g m) (k d cl p n : ℕ) (l : k < mutator_count)
    (a : is_attached m k ≡ true) (h : d < root_count) (e : class_of_record (of_counts p n) ≡ Some cl) where
  -- out of a segment that the mutator holds
  from_taken : (m₁ : Mem) (r : ℕ) → SegmentTaken g m m₁ k cl r → MakesOne g m (in_segment g m m₁ k d cl r (of_counts p n))
  from_taken m₁ r t =
      let q = requested g m₁ (in_order g m s c k d cl p n l a h e m₁ r t) k d cl r (of_counts p n) l t.known h e t.holds in
      let b : ℕ = q.0 in
      let x = result g m₁ t.sizes k d cl r b (of_counts p n) q.2 in
      let was = t.counts r in
      subst (λ f. MakesOne g m (in_block g m m₁ f k d cl r (of_counts p n))) (sym q.1) (inl (
        refl,
        record {
          segment = r;
          inside = q.2.inside;
          there = record { kept = x.counts.kept ∙ was.kept; handed = x.counts.handed ∙ ap (λ z. z + 1) was.handed };
          others = λ i f. counted_then (t.counts i) (x.others i f).counts;
        },
      ))

  from_source_lem : MakesOne g m (from_source g m k d cl (of_counts p n) (source_of g m k cl))
  from_source_lem = go (eqb (holding m k cl) 0) (eqb (count g m (part_stack cl)) 0) (eqb (count g m free_stack) 0) refl refl refl
    where
      go : (x y z : Bool) → eqb (holding m k cl) 0 ≡ x → eqb (count g m (part_stack cl)) 0 ≡ y → eqb (count g m free_stack) 0 ≡ z
          → MakesOne g m (from_source g m k d cl (of_counts p n) (pick x (pick y (pick z no_room (unused (top g m free_stack))) (part (top g m (part_stack cl)))) (held (holding m k cl - 1))))
      go false y z q i j = let w = some_of (holding m k cl) q in from_taken m (holding m k cl - 1) (own_taken g m s c k d cl p n l a h e (omega arith))
      go true false z q i j = from_taken _ _ (taken_part g m s c k cl l a (class_found (p + n) cl e) (eqb-true _ _ q) (some_of _ i))
      go true true false q i j = from_taken _ _ (taken_free g m s c k cl l a (class_found (p + n) cl e) (eqb-true _ _ q) (some_of _ j))
      go true true true q i j = inr (refl, refl)

from_make : (g : Geometry) (m : Mem) → Sizes g m → Ordered g m → (k d p n : ℕ) → refusal (observe m) (c_make k d p n) ≡ 0 → (o : SizeClass)
    → class_of_record (of_counts p n) ≡ o → MakesOne g m (of_class m o (λ cl. made g m k d cl (of_counts p n)))
unfolding made
from_make g m s c k d p n e (Some cl) q =
    let x = by_ok (observe m) k _ e in
    from_source_lem g m s c k d cl p n x.0 x.1 (root_ok d _ x.3).0 q
from_make g m s c k d p n e None q = inr (refl, refl)

-- ---- every call

stay_unless : (b : Bool) (m m' : Mem) → AllStay m m' → AllStay m (unless b 11 m m').1
stay_unless true m m' h = stay_self m
stay_unless false m m' h = h

stay_record : (o : Option ℕ) (m : Mem) (K : ℕ → Answer × Mem) → ((at : ℕ) → AllStay m (K at).1) → AllStay m (on_record o m K).1
stay_record none m K h = stay_self m
stay_record (some at) m K h = h at

stay_mutator : (m : Mem) (i v : ℕ) → AllStay m (set_mutator m i v)
unfolding set_mutator
stay_mutator m i v = stay_still m (set_mutator m i v) refl

stay_heap : (m : Mem) (i v : ℕ) → AllStay m (set_heap m i v)
unfolding set_heap
stay_heap m i v = stay_still m (set_heap m i v) refl

stay_attached : (m : Mem) (k v : ℕ) → AllStay m (attached m k v)
unfolding attached set_run
stay_attached m k v = stay_still m (attached m k v) refl

stay_detached : (g : Geometry) (m : Mem) → Sizes g m → Consistent g m → (k : ℕ) → k < mutator_count → AllStay m (detached g m k)
unfolding detached set_run
stay_detached g m s c k few =
    let parted : Mem = released g m k class_count in
    stay_then m parted (detached g m k) (releasing g m s (releasable g m c) k few class_count (omega arith)).counts (stay_still parted (detached g m k) refl)

counts_act : (g : Geometry) (m : Mem) → Sizes g m → Consistent g m → (c : Call) → refusal (observe m) c ≡ 0 → CountsBy (kind_of c) g m (act g m c)
unfolding act
counts_act g m s c (c_attach k) e = stay_unless (in_handshake (phase m)) m _ (stay_attached m k 0)
counts_act g m s c (c_spawn k p i) e = stay_unless (in_handshake (phase m)) m _ (stay_attached m k (root m p i))
counts_act g m s c (c_detach k) e = stay_unless (in_handshake (phase m)) m _ (stay_detached g m s c k (by_ok (observe m) k _ e).0)
counts_act g m s c (c_check k) e = stay_same m _ (leaves_acknowledged g m k)
counts_act g m s c (c_leave k) e = stay_then m (acknowledged g m k) _ (stay_same m _ (leaves_acknowledged g m k)) (stay_mutator (acknowledged g m k) _ _)
counts_act g m s c (c_enter k) e = stay_mutator m _ _
counts_act g m s c (c_make k d p n) e = from_make g m s (consistent_ordered g m c) k d p n e (class_of_record (of_counts p n)) refl
counts_act g m s c (c_load k d i f) e = stay_record (record? (root m k i)) m _ (λ at. stay_mutator m _ _)
counts_act g m s c (c_store k i f j) e =
    stay_record (record? (root m k i)) m _
    (λ at. stay_then m (barrier g (duty (phase m) (acks m k)) m (record? (root m k j)) (record? (pointer m at f))) _
    (stay_same m _ (leaves_barrier g (duty (phase m) (acks m k)) m (root m k j) (pointer m at f))) (stay_heap _ _ _))
counts_act g m s c (c_copy k d i) e = stay_mutator m _ _
counts_act g m s c (c_clear k d) e = stay_mutator m _ _
counts_act g m s c (c_put k i f v) e = stay_record (record? (root m k i)) m _ (λ at. stay_heap m _ _)
counts_act g m s c (c_get k i f) e = stay_record (record? (root m k i)) m _ (λ at. stay_self m)
counts_act g m s c (c_same k i j) e = stay_self m
counts_act g m s c (c_shape k i) e = stay_record (record? (root m k i)) m _ (λ at. stay_self m)

-- a refusal by one of the numbers 2 to 9 changes nothing
counts_refused : (k : CallKind) (g : Geometry) (m : Mem) (n : ℕ) → CountsBy k g m (a_no n, m)
counts_refused coming g m n = stay_self m
counts_refused working g m n = stay_self m
counts_refused asks_number g m n = stay_self m
counts_refused asks_flag g m n = stay_self m
counts_refused asks_shape g m n = stay_self m
counts_refused (making k d) g m n = inr (refl, refl)

pub counts_exec : (g : Geometry) (m : Mem) → Sizes g m → Consistent g m → (c : Call) → CountsBy (kind_of c) g m (exec g m c)
unfolding exec
counts_exec g m s k c = go (refusal (observe m) c) refl
  where
    go : (n : ℕ) → refusal (observe m) c ≡ n → CountsBy (kind_of c) g m (refuse n m (act g m c))
    go zero e = counts_act g m s k c e
    go (suc n) e = counts_refused (kind_of c) g m (suc n)
