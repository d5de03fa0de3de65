-- A mutator's call frees no block: each block in use stays in use, in a segment of the same class. Nor does a start, nor a step that sweeps nothing.
use mathlib.Core.Path.{◌≡◌, refl, sym, ◌∙◌, ap, subst}
use mathlib.Core.Logic.{◌⊎◌, inl, inr}
use mathlib.Core.Bool.{Bool, true, false}
use mathlib.Core.Option.{Option, none, some}
use mathlib.Core.List.{List}
use Prim.Native.Nat.{ℕ, zero, suc, ◌+◌, ◌-◌, ◌*◌, ◌≤◌, ◌<◌}
use native.Mathlib.Omega.{arith}
use lib.Dec.{eqb}
use lib.ListN.{get_or}
use borrow.Author.Tests.{eqb-true, eqb-false, ne_eqb}
use Rattle.basics.specs.Pick.{pick}
use Rattle.basics.proofs.Order.{same_or_not}
use Rattle.classes.specs.Class.{class_count, SizeClass}
use Rattle.classes.specs.Record.{of_counts, class_of_record}
use Rattle.std.specs.Prelude.{Some, None}
use Rattle.classes.proofs.Smallest.{class_found}
use Rattle.layout.specs.declared.Geometry.{Geometry}
use Rattle.layout.specs.Geometry.{mutator_count, root_count, blocks_in, bitmap_words}
use Rattle.layout.specs.Mem.{Mem, Sizes, set_mutator, set_segment, set_stack, set_heap, set_run}
use Rattle.theory.specs.Phases.{in_handshake, duty}
use Rattle.theory.specs.Calls.{Call, c_attach, c_detach, c_check, c_leave, c_enter, c_spawn, c_make, c_load, c_store, c_copy, c_clear, c_put, c_get, c_same, c_shape, Answer, refusal, refuse, unless, on_record}
use Rattle.theory.proofs.Refusals.{by_ok, root_ok}
use Rattle.model.specs.Fields.{phase, acks, root, holding, tag, class, place}
use Rattle.model.specs.Segments.{set_segment_state, free_stack, part_stack, count, top, pop, bitmap, used_bit}
use Rattle.model.specs.Records.{record?, pointer}
use Rattle.model.specs.Tracing.{barrier}
use Rattle.model.specs.Mutators.{acknowledged, attached, released, detached}
use Rattle.model.specs.Making.{held, part, unused, no_room, source_of, set_held, freshened, handed_out, in_block, in_segment, from_source, made}
use Rattle.model.specs.Calls.{is_attached, observe, of_class, act, exec}
use Rattle.model.specs.Consistent.{Consistent, StackOk, is_part}
use Rattle.refine_view.specs.Refines.{Ordered}
use Rattle.refine_view.proofs.Invariants.{consistent_ordered}
use Rattle.model_laws.proofs.Words.{Recorded, Untouched, untouched_as}
use Rattle.model_laws.proofs.Segments.{used_same}
use Rattle.model_laws.proofs.Bitmaps.{bitmap_by}
use Rattle.model_laws.proofs.Windows.{window_other}
use Rattle.model_laws.proofs.SetHeld.{set_held-there, set_held-other}
use Rattle.model_laws.proofs.Topmost.{top_part, part_class, top_free, free_tag, clean, long_clean}
use Rattle.model_laws.proofs.Releasing.{Gone, gone?, Releasing}
use Rattle.model_laws.proofs.Released.{releasing, releasable}
use Rattle.refine_take_detach.proofs.SegmentTaken.{SegmentTaken}
use Rattle.refine_take_detach.proofs.TakePart.{taken_part}
use Rattle.refine_take_detach.proofs.TakeFree.{taken_free}
use Rattle.refine_making.proofs.Request.{requested}
use Rattle.refine_making.proofs.Blackened.{result}
use Rattle.idle_twin.specs.SameHeap.{SameHeap}
use Rattle.idle_twin.proofs.Same.{leaves_acknowledged}
use Rattle.idle_twin.proofs.Calls.{leaves_barrier}
use Rattle.guarantee.specs.EmptyCycle.{FreesNothing}
use Rattle.guarantee.proofs.AllRefine.{some_of, in_order, own_taken}
use Rattle.refine_making.proofs.Standing as standing
use Rattle.model.specs.Tag as Tag

-- segment s is not free, has its class, and its blocks in use are in use
pub record StaysInUse (g : Geometry) (m m' : Mem) (s : ℕ) : Type 0 where
  used : tag m' s ≡ Tag.free → ⊥
  class : class m' s ≡ class m s
  block : (b : ℕ) → used_bit g m s b ≡ 1 → used_bit g m' s b ≡ 1

abbrev pub Grows : Geometry → Mem → Mem → Type 0
Grows g m m' = (s : ℕ) → (tag m s ≡ Tag.free → ⊥) → StaysInUse g m m' s

pub grows_self : (g : Geometry) (m : Mem) → Grows g m m
grows_self g m s u = record { used = u; class = refl; block = λ b e. e }

pub grows_then : (g : Geometry) (m m₁ m₂ : Mem) → Grows g m m₁ → Grows g m₁ m₂ → Grows g m m₂
grows_then g m m₁ m₂ a b s u = let x = a s u in let y = b s x.used in record { used = y.used; class = y.class ∙ x.class; block = λ i e. y.block i (x.block i e) }

pub grows_frees : (g : Geometry) (m m' : Mem) → Grows g m m' → FreesNothing g m m'
grows_frees g m m' h = record {
  segments = λ s e. let x = h s (eqb-false _ _ e) in (ne_eqb _ _ x.used, x.class);
  blocks = λ s b e. let x = h s e.used in record { used = x.used; within = subst (λ c. b < blocks_in g c) (sym x.class) e.within; block = x.block b e.block };
}

-- a segment whose record is the same but for its tag and its mutator, with its bitmap
stands_by : (g : Geometry) (m m' : Mem) (s : ℕ) → (tag m' s ≡ Tag.free → ⊥) → class m' s ≡ class m s → place m' s ≡ place m s → bitmap g m' s ≡ bitmap g m s → StaysInUse g m m' s
stands_by g m m' s u c p e = record { used = u; class = c; block = λ b q. used_same g m m' s b p e ∙ q }

-- the segments' records and the bitmaps stay
grows_still : (g : Geometry) (m m' : Mem) → m'.segments ≡ m.segments → m'.bitmaps ≡ m.bitmaps → Grows g m m'
grows_still g m m' e b s u =
    let w : (i : ℕ) → get_or m'.segments i 0 ≡ get_or m.segments i 0 = λ i. ap (λ (l : List ℕ). get_or l i 0) e in
    stands_by g m m' s (λ q. u (sym (w _) ∙ q)) (w _) (w _) (bitmap_by g m m' b s)

pub grows_same : (g : Geometry) (m m' : Mem) → SameHeap m m' → Grows g m m'
grows_same g m m' e = grows_still g m m' e.segments e.bitmaps

-- ---- make

module _ (g : Geometry) (m : Mem) (s : Sizes g m) (c : Ordered g m) (k d cl p n : ℕ) (l : k < mutator_count)
    (a : is_attached m k ≡ true) (h : d < root_count) (e : class_of_record (of_counts p n) ≡ Some cl) where
  -- out of a segment that the mutator holds
  grows_handed : (m₁ : Mem) (r : ℕ) → SegmentTaken g m m₁ k cl r → Grows g m m₁ → Grows g m (in_segment g m m₁ k d cl r (of_counts p n)).1
  grows_handed m₁ r t w =
      let q = requested g m₁ (in_order g m s c k d cl p n l a h e m₁ r t) k d cl r (of_counts p n) l t.known h e t.holds in
      let b : ℕ = q.0 in
      let m₂ : Mem = handed_out g m₁ k d cl r b (of_counts p n) in
      let x = result g m₁ t.sizes k d cl r b (of_counts p n) q.2 in
      subst (λ f. Grows g m (in_block g m m₁ f k d cl r (of_counts p n)).1) (sym q.1)
      (grows_then g m m₁ m₂ w (λ i u. record {
        used = standing.tag_used g m₁ m₂ k d cl r b (of_counts p n) q.2 x i u;
        class = standing.class_same g m₁ m₂ k d cl r b (of_counts p n) q.2 x i;
        block = standing.used_on g m₁ m₂ k d cl r b (of_counts p n) q.2 x i;
      }))

  -- a part segment is taken with its class, place and bitmap
  module _ (some : 1 ≤ count g m (part_stack cl)) where
    abbrev x : ℕ
    x = top g m (part_stack cl)

    abbrev with_part : Mem
    with_part = set_held g (pop g m (part_stack cl)) k cl x (place m x)

    part_bitmaps : with_part.bitmaps ≡ m.bitmaps
    unfolding set_mutator set_segment_state set_segment set_stack
    part_bitmaps = refl

    grows_part : Grows g m with_part
    grows_part i u = go (same_or_not i x)
      where
        stack : StackOk g m (part_stack cl) (is_part m cl)
        stack = c.summed.part_segments cl (class_found (p + n) cl e)

        there : Recorded with_part x 2 cl (place m x) k
        there = set_held-there g m s (part_stack cl * (1 + g.segments)) (count g m (part_stack cl) - 1) k cl x (place m x) (top_part g m cl stack some).0

        go : (i ≡ x) ⊎ (i ≡ x → ⊥) → StaysInUse g m with_part i
        go (inl q) =
            subst (StaysInUse g m with_part) (sym q)
            (stands_by g m with_part x (λ z. let y = there.tag in omega arith) (there.class ∙ sym (part_class g m cl stack some)) there.place (bitmap_by g m with_part part_bitmaps x))
        go (inr f) =
            let y = set_held-other g m s (part_stack cl * (1 + g.segments)) (count g m (part_stack cl) - 1) k cl x (place m x) i f in
            stands_by g m with_part i (λ z. u (sym y.tag ∙ z)) y.class y.place (bitmap_by g m with_part part_bitmaps i)

  -- a free one, of which nothing is asked
  module _ (some : 1 ≤ count g m free_stack) where
    abbrev y : ℕ
    y = top g m free_stack

    abbrev with_free : Mem
    with_free = freshened g (set_held g (pop g m free_stack) k cl y 0) y cl

    free_bitmap : (i : ℕ) → (i ≡ y → ⊥) → bitmap g with_free i ≡ bitmap g m i
    unfolding set_mutator set_segment_state set_segment set_stack set_run
    free_bitmap i f =
        let ic = class_found (p + n) cl e in
        let below = (top_free g m c.summed.free_segments some).0 in
        window_other (bitmap_words g) y i (clean g m s y below cl ic) m.bitmaps (long_clean g m s y below cl ic) f

    free_other : (i : ℕ) → (i ≡ y → ⊥) → Untouched m with_free i
    unfolding set_run
    free_other i f = untouched_as refl (set_held-other g m s (free_stack * (1 + g.segments)) (count g m free_stack - 1) k cl y 0 i f)

    grows_free : Grows g m with_free
    grows_free i u = go (same_or_not i y)
      where
        go : (i ≡ y) ⊎ (i ≡ y → ⊥) → StaysInUse g m with_free i
        go (inl q) = absurd (u (ap (tag m) q ∙ free_tag g m c.summed.free_segments some))
        go (inr f) = let o = free_other i f in stands_by g m with_free i (λ z. u (sym o.tag ∙ z)) o.class o.place (free_bitmap i f)

  grows_source : Grows g m (from_source g m k d cl (of_counts p n) (source_of g m k cl)).1
  grows_source = go (eqb (holding m k cl) 0) (eqb (count g m (part_stack cl)) 0) (eqb (count g m free_stack) 0) refl refl refl
    where
      go : (x y z : Bool) → eqb (holding m k cl) 0 ≡ x → eqb (count g m (part_stack cl)) 0 ≡ y → eqb (count g m free_stack) 0 ≡ z
          → Grows g m (from_source g m k d cl (of_counts p n) (pick x (pick y (pick z no_room (unused (top g m free_stack))) (part (top g m (part_stack cl)))) (held (holding m k cl - 1)))).1
      go false y z q i j = let w = some_of (holding m k cl) q in grows_handed m (holding m k cl - 1) (own_taken g m s c k d cl p n l a h e (omega arith)) (grows_self g m)
      go true false z q i j = grows_handed _ _ (taken_part g m s c k cl l a (class_found (p + n) cl e) (eqb-true _ _ q) (some_of _ i)) (grows_part (some_of _ i))
      go true true false q i j = grows_handed _ _ (taken_free g m s c k cl l a (class_found (p + n) cl e) (eqb-true _ _ q) (some_of _ j)) (grows_free (some_of _ j))
      go true true true q i j = grows_self g m

grows_make : (g : Geometry) (m : Mem) → Sizes g m → Ordered g m → (k d p n : ℕ) → refusal (observe m) (c_make k d p n) ≡ 0 → (o : SizeClass)
    → class_of_record (of_counts p n) ≡ o → Grows g m (of_class m o (λ cl. made g m k d cl (of_counts p n))).1
unfolding made
grows_make g m s c k d p n e (Some cl) q =
    let x = by_ok (observe m) k _ e in
    grows_source g m s c k d cl p n x.0 x.1 (root_ok d _ x.3).0 q
grows_make g m s c k d p n e None q = grows_self g m

-- ---- detach: what was held is part, with its class, place and bitmap

grows_detached : (g : Geometry) (m : Mem) → Sizes g m → Consistent g m → (k : ℕ) → k < mutator_count → Grows g m (detached g m k)
unfolding detached set_run
grows_detached g m s c k few = grows_then g m parted (detached g m k) grows_parted (grows_still g parted (detached g m k) refl refl)
  where
    parted : Mem
    parted = released g m k class_count

    parts : Releasing g m parted k class_count
    parts = releasing g m s (releasable g m c) k few class_count (omega arith)

    grows_parted : Grows g m parted
    grows_parted i u = go (gone? m k class_count i)
      where
        same : bitmap g parted i ≡ bitmap g m i
        same = bitmap_by g m parted (ap (λ (x : Mem). x.bitmaps) parts.frame) i

        go : Gone m k class_count i ⊎ (Gone m k class_count i → ⊥) → StaysInUse g m parted i
        go (inl z) = let x = parts.gone i z in stands_by g m parted i (λ q. let y = x.tag in omega arith) x.class x.place same
        go (inr f) = let x = parts.stay i f in stands_by g m parted i (λ q. u (sym x.tag ∙ q)) x.class x.place same

-- ---- every call

grows_unless : (g : Geometry) (b : Bool) (m m' : Mem) → Grows g m m' → Grows g m (unless b 11 m m').1
grows_unless g true m m' h = grows_self g m
grows_unless g false m m' h = h

grows_record : (g : Geometry) (o : Option ℕ) (m : Mem) (K : ℕ → Answer × Mem) → ((at : ℕ) → Grows g m (K at).1) → Grows g m (on_record o m K).1
grows_record g none m K h = grows_self g m
grows_record g (some at) m K h = h at

grows_mutator : (g : Geometry) (m : Mem) (i v : ℕ) → Grows g m (set_mutator m i v)
unfolding set_mutator
grows_mutator g m i v = grows_still g m (set_mutator m i v) refl refl

grows_heap : (g : Geometry) (m : Mem) (i v : ℕ) → Grows g m (set_heap m i v)
unfolding set_heap
grows_heap g m i v = grows_still g m (set_heap m i v) refl refl

grows_attached : (g : Geometry) (m : Mem) (k v : ℕ) → Grows g m (attached m k v)
unfolding attached set_run
grows_attached g m k v = grows_still g m (attached m k v) refl refl

grows_act : (g : Geometry) (m : Mem) → Sizes g m → Consistent g m → (c : Call) → refusal (observe m) c ≡ 0 → Grows g m (act g m c).1
unfolding act
grows_act g m s c (c_attach k) e = grows_unless g (in_handshake (phase m)) m _ (grows_attached g m k 0)
grows_act g m s c (c_spawn k p i) e = grows_unless g (in_handshake (phase m)) m _ (grows_attached g m k (root m p i))
grows_act g m s c (c_detach k) e = grows_unless g (in_handshake (phase m)) m _ (grows_detached g m s c k (by_ok (observe m) k _ e).0)
grows_act g m s c (c_check k) e = grows_same g m _ (leaves_acknowledged g m k)
grows_act g m s c (c_leave k) e = grows_then g m (acknowledged g m k) _ (grows_same g m _ (leaves_acknowledged g m k)) (grows_mutator g (acknowledged g m k) _ _)
grows_act g m s c (c_enter k) e = grows_mutator g m _ _
grows_act g m s c (c_make k d p n) e = grows_make g m s (consistent_ordered g m c) k d p n e (class_of_record (of_counts p n)) refl
grows_act g m s c (c_load k d i f) e = grows_record g (record? (root m k i)) m _ (λ at. grows_mutator g m _ _)
grows_act g m s c (c_store k i f j) e =
    grows_record g (record? (root m k i)) m _
    (λ at. grows_then g m (barrier g (duty (phase m) (acks m k)) m (record? (root m k j)) (record? (pointer m at f))) _
    (grows_same g m _ (leaves_barrier g (duty (phase m) (acks m k)) m (root m k j) (pointer m at f))) (grows_heap g _ _ _))
grows_act g m s c (c_copy k d i) e = grows_mutator g m _ _
grows_act g m s c (c_clear k d) e = grows_mutator g m _ _
grows_act g m s c (c_put k i f v) e = grows_record g (record? (root m k i)) m _ (λ at. grows_heap g m _ _)
grows_act g m s c (c_get k i f) e = grows_record g (record? (root m k i)) m _ (λ at. grows_self g m)
grows_act g m s c (c_same k i j) e = grows_self g m
grows_act g m s c (c_shape k i) e = grows_record g (record? (root m k i)) m _ (λ at. grows_self g m)

pub grows_exec : (g : Geometry) (m : Mem) → Sizes g m → Consistent g m → (c : Call) → Grows g m (exec g m c).1
unfolding exec
grows_exec g m s k c = go (refusal (observe m) c) refl
  where
    go : (n : ℕ) → refusal (observe m) c ≡ n → Grows g m (refuse n m (act g m c)).1
    go zero e = grows_act g m s k c e
    go (suc n) e = grows_self g m
