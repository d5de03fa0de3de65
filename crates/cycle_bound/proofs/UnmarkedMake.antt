-- A make in mark: the block that it hands out is born marked, and every other block in use was in use before, also the ones that the place passes
-- over.
use mathlib.Core.Path.{◌≡◌, refl, sym, ◌∙◌, ap, subst}
use mathlib.Core.Logic.{◌⊎◌, inl, inr, ⊎_elim}
use mathlib.Core.Bool.{Bool, true, false}
use mathlib.Core.List.{List}
use Prim.Native.Nat.{ℕ, zero, suc, ◌+◌, ◌-◌, ◌*◌, ◌≤◌, ◌<◌}
use native.Mathlib.Omega.{arith}
use lib.Dec.{eqb}
use borrow.Author.Tests.{eqb-true}
use Rattle.basics.specs.Pick.{pick}
use Rattle.basics.proofs.Order.{same_or_not, le_or_lt}
use Rattle.words.specs.Bits.{bit_at}
use Rattle.words.proofs.Word.{one_of-not_zero}
use Rattle.words.proofs.Lists.{at_lt}
use Rattle.classes.specs.declared.RecordShape.{RecordShape}
use Rattle.classes.specs.Record.{of_counts, class_of_record}
use Rattle.classes.specs.Class.{SizeClass}
use Rattle.std.specs.Prelude.{Some, None}
use Rattle.classes.proofs.Smallest.{class_found}
use Rattle.layout.specs.declared.Geometry.{Geometry}
use Rattle.layout.specs.Geometry.{mutator_count, root_count, blocks_in, bitmap_words, mark_bit}
use Rattle.layout.specs.Mem.{Mem, Sizes, set_mutator, set_segment, set_stack, set_run}
use Rattle.theory.specs.Phases.{Phase, mark, black}
use Rattle.theory.specs.Calls.{c_make, refusal}
use Rattle.theory.proofs.Invariant.{Tracing}
use Rattle.theory.proofs.Refusals.{by_ok, root_ok}
use Rattle.model.specs.Fields.{phase, acks, holding, class, place}
use Rattle.model.specs.Segments.{set_segment_state, free_stack, part_stack, count, top, pop, bitmap, used_bit}
use Rattle.model.specs.Records.{header_of, marked}
use Rattle.model.specs.Reaching.{is_marked}
use Rattle.model.specs.Making.{held, part, unused, no_room, source_of, set_held, freshened, handed_out, in_block, in_segment, from_source, made}
use Rattle.model.specs.Calls.{is_attached, observe, of_class}
use Rattle.model.specs.Consistent.{StackOk, is_part, AcksIn}
use Rattle.refine_view.specs.View.{is_head}
use Rattle.refine_view.specs.Refines.{Ordered}
use Rattle.refine_view.proofs.Seeing.{entry_was}
use Rattle.model_laws.proofs.Bools.{and_right}
use Rattle.model_laws.proofs.Words.{Recorded, Untouched, untouched_as}
use Rattle.model.proofs.InUse.{used_before, used_after, used_sum}
use Rattle.model_laws.proofs.Bitmaps.{bitmap_by}
use Rattle.model_laws.proofs.Segments.{used_small}
use Rattle.model_laws.proofs.Windows.{window_other}
use Rattle.model_laws.proofs.SetHeld.{set_held-there, set_held-other}
use Rattle.model_laws.proofs.Topmost.{top_part, part_tag, part_class, top_free, clean, long_clean, clean_bit}
use Rattle.refine_take_detach.proofs.SegmentTaken.{SegmentTaken}
use Rattle.refine_take_detach.proofs.TakePart.{taken_part}
use Rattle.refine_take_detach.proofs.TakeFree.{taken_free}
use Rattle.refine_making.proofs.Request.{Request, requested}
use Rattle.refine_making.proofs.Result.{StillHeld, NowFull, Result}
use Rattle.refine_making.proofs.Blackened.{result}
use Rattle.refine_making.proofs.Newborn.{mark_there}
use Rattle.guarantee.proofs.AllRefine.{some_of, in_order, own_taken}
use Rattle.cycle_bound.proofs.MarksKept.{MarksKept, kept_by}
use Rattle.cycle_bound.proofs.Unmarked.{Unmarked, WasUnmarked, was_self, was_then, was_at, was_standing, kept_framed}
use Rattle.refine_making.proofs.Standing as standing

-- "born marked": in mark every mutator that is attached has acknowledged twice
born_black : (p : Phase) (a : ℕ) → p ≡ mark → AcksIn p a → black p a ≡ true
born_black p zero e l = absurd (let z = subst (λ q. AcksIn q 0) e l in omega arith)
born_black p (suc zero) e l = absurd (let z = subst (λ q. AcksIn q 1) e l in omega arith)
born_black p (suc (suc a)) e l = ap (λ q. black q (suc (suc a))) e

-- a block whose bit is 1 is in use
by_bit : (g : Geometry) (m : Mem) (s b : ℕ) → bit_at (bitmap g m s) b ≡ 1 → used_bit g m s b ≡ 1
by_bit g m s b e = let x = used_sum g m s b in let y = used_small g m s b in omega arith

-- ---- a block handed out

module _ (g : Geometry) (m : Mem) (c : Ordered g m) (m' : Mem) (k d cl r b : ℕ) (shape : RecordShape) (q : Request g m k d cl r b shape)
    (a : Result g m m' k d cl r b shape) (marking : phase m ≡ mark) where
  is_black : black (phase m) (acks m k) ≡ true
  is_black = born_black (phase m) (acks m k) marking (c.acknowledgements k q.few q.attached)

  kept : MarksKept g m m'
  kept = kept_by g m m'
      (λ x n e. entry_was m m' (standing.count_same g m m' k d cl r b shape q a) (standing.trace_same g m m' k d cl r b shape q a) x n)
      (λ x e. ⊎_elim (λ i. ap (bit_at m'.marks) i ∙ a.born is_black) (λ f. a.marks (mark_bit x) f ∙ e) (same_or_not (mark_bit x) (mark_bit (header_of g r cl b))))

  born : marked g m' (header_of g r cl b) ≡ 1
  born =
      let h : ℕ = header_of g r cl b in
      eqb-true _ _ (and_right (is_head g m' h) (is_marked g m' h) (mark_there g m c m' k d cl r b shape q a (subst Tracing (sym marking) tt) ∙ is_black))

  -- another block of its segment
  other_used : (i : ℕ) → i < blocks_in g cl → (i ≡ b → ⊥) → used_bit g m' r i ≡ 1 → used_bit g m r i ≡ 1
  other_used i l f e = ⊎_elim on (used_before g m r i) (le_or_lt (place m r) i)
    where
      one : (bit_at (bitmap g m r) i ≡ 0 → ⊥) → used_bit g m r i ≡ 1
      one n = by_bit g m r i (one_of-not_zero _ (at_lt (bitmap g m r) i) n)

      later : b < i → StillHeld g m m' k cl r b ⊎ NowFull g m m' k cl r b → used_bit g m r i ≡ 1
      later h (inl x) =
          let p = x.recorded.place in
          by_bit g m r i (sym (ap (λ (ws : List ℕ). bit_at ws i) (standing.bitmap_same g m m' k d cl r b shape q a r)) ∙ sym (used_after g m' r i (omega arith)) ∙ e)
      later h (inr x) = one (x.last i (omega arith) l)

      on : place m r ≤ i → used_bit g m r i ≡ 1
      on h = ⊎_elim (λ u. later (omega arith) a.segment) (λ u. one (q.passed i h u)) (le_or_lt b i)

  was_handed_out : WasUnmarked g m m'
  was_handed_out s i u = go (same_or_not s r)
    where
      go : (s ≡ r) ⊎ (s ≡ r → ⊥) → Unmarked g m s i × (class m' s ≡ class m s)
      go (inr f) = let o = a.others s f in was_standing g m m' kept s i u (λ z. u.in_use.used (o.tag ∙ z)) o.class o.place (standing.bitmap_same g m m' k d cl r b shape q a s)
      go (inl e) = subst (λ z. Unmarked g m z i × (class m' z ≡ class m z)) (sym e) (there (subst (λ z. Unmarked g m' z i) e u))
        where
          there : Unmarked g m' r i → Unmarked g m r i × (class m' r ≡ class m r)
          there v = ⊎_elim new (λ n. was_at g m m' kept r i v (λ z. let y = q.is_held in omega arith) same (other_used i below n v.in_use.block)) (same_or_not i b)
            where
              same : class m' r ≡ class m r
              same = standing.class_same g m m' k d cl r b shape q a r

              below : i < blocks_in g cl
              below = subst (λ z. i < blocks_in g z) (same ∙ q.of_class) v.in_use.within

              new : i ≡ b → Unmarked g m r i × (class m' r ≡ class m r)
              new z =
                  let x : marked g m' (header_of g r (class m' r) i) ≡ marked g m' (header_of g r cl b) =
                  ap (λ y. marked g m' (header_of g r y i)) (same ∙ q.of_class) ∙ ap (λ y. marked g m' (header_of g r cl y)) z in
                  let y = v.unmarked in
                  let w = born in
                  absurd (omega arith)

-- ---- the segment that it is taken from

module _ (g : Geometry) (m : Mem) (s : Sizes g m) (c : Ordered g m) (k d cl p n : ℕ) (l : k < mutator_count)
    (a : is_attached m k ≡ true) (h : d < root_count) (e : class_of_record (of_counts p n) ≡ Some cl) (marking : phase m ≡ mark) where
  from_taken : (m₁ : Mem) (r : ℕ) → SegmentTaken g m m₁ k cl r → WasUnmarked g m m₁ → WasUnmarked g m (in_segment g m m₁ k d cl r (of_counts p n)).1
  from_taken m₁ r t w =
      let o = in_order g m s c k d cl p n l a h e m₁ r t in
      let q = requested g m₁ o k d cl r (of_counts p n) l t.known h e t.holds in
      let b : ℕ = q.0 in
      let m₂ : Mem = handed_out g m₁ k d cl r b (of_counts p n) in
      let x = result g m₁ t.sizes k d cl r b (of_counts p n) q.2 in
      subst (λ f. WasUnmarked g m (in_block g m m₁ f k d cl r (of_counts p n)).1) (sym q.1)
      (was_then g m m₁ m₂ w (was_handed_out g m₁ o m₂ k d cl r b (of_counts p n) q.2 x (t.prepared.phase ∙ marking)))

  -- a part one, with its class, place and bitmap
  module _ (some : 1 ≤ count g m (part_stack cl)) where
    abbrev x : ℕ
    x = top g m (part_stack cl)

    abbrev with_part : Mem
    with_part = set_held g (pop g m (part_stack cl)) k cl x (place m x)

    part_kept : (with_part.bitmaps ≡ m.bitmaps) × MarksKept g m with_part
    unfolding set_mutator set_segment_state set_segment set_stack
    part_kept = (refl, kept_framed g m with_part refl refl refl)

    was_part : WasUnmarked g m with_part
    was_part i b u = go (same_or_not i x)
      where
        stack : StackOk g m (part_stack cl) (is_part m cl)
        stack = c.summed.part_segments cl (class_found (p + n) cl e)

        there : Recorded with_part x 2 cl (place m x) k
        there = set_held-there g m s (part_stack cl * (1 + g.segments)) (count g m (part_stack cl) - 1) k cl x (place m x) (top_part g m cl stack some).0

        same : (j : ℕ) → bitmap g with_part j ≡ bitmap g m j
        same = bitmap_by g m with_part part_kept.0

        go : (i ≡ x) ⊎ (i ≡ x → ⊥) → Unmarked g m i b × (class with_part i ≡ class m i)
        go (inl q) =
            subst (λ z. Unmarked g m z b × (class with_part z ≡ class m z)) (sym q)
            (was_standing g m with_part part_kept.1 x b (subst (λ z. Unmarked g with_part z b) q u)
            (λ z. let y = part_tag g m cl stack some in omega arith) (there.class ∙ sym (part_class g m cl stack some)) there.place (same x))
        go (inr f) =
            let y = set_held-other g m s (part_stack cl * (1 + g.segments)) (count g m (part_stack cl) - 1) k cl x (place m x) i f in
            was_standing g m with_part part_kept.1 i b u (λ z. u.in_use.used (y.tag ∙ z)) y.class y.place (same i)

  -- a free one: its place is 0 and its blocks' bits are 0
  module _ (some : 1 ≤ count g m free_stack) where
    abbrev y : ℕ
    y = top g m free_stack

    abbrev with_free : Mem
    with_free = freshened g (set_held g (pop g m free_stack) k cl y 0) y cl

    inside : y < g.segments
    inside = (top_free g m c.summed.free_segments some).0

    free_kept : MarksKept g m with_free
    unfolding set_mutator set_segment_state set_segment set_stack set_run
    free_kept = kept_framed g m with_free refl refl refl

    free_bitmap : (i : ℕ) → (i ≡ y → ⊥) → bitmap g with_free i ≡ bitmap g m i
    unfolding set_mutator set_segment_state set_segment set_stack set_run
    free_bitmap i f =
        let ic = class_found (p + n) cl e in
        window_other (bitmap_words g) y i (clean g m s y inside cl ic) m.bitmaps (long_clean g m s y inside cl ic) f

    free_bit : (b : ℕ) → b < blocks_in g cl → bit_at (bitmap g with_free y) b ≡ 0
    unfolding set_mutator set_segment_state set_segment set_stack set_run
    free_bit = clean_bit g m s y inside cl (class_found (p + n) cl e) with_free refl

    free_there : Recorded with_free y 2 cl 0 k
    unfolding set_run
    free_there = let r = set_held-there g m s (free_stack * (1 + g.segments)) (count g m free_stack - 1) k cl y 0 inside in record { tag = r.tag; class = r.class; place = r.place; owner = r.owner }

    free_other : (i : ℕ) → (i ≡ y → ⊥) → Untouched m with_free i
    unfolding set_run
    free_other i f = untouched_as refl (set_held-other g m s (free_stack * (1 + g.segments)) (count g m free_stack - 1) k cl y 0 i f)

    was_free : WasUnmarked g m with_free
    was_free i b u = go (same_or_not i y)
      where
        none : Unmarked g with_free y b → ⊥
        none v =
            let z = free_bit b (subst (λ z. b < blocks_in g z) free_there.class v.in_use.within) in
            let w = used_after g with_free y b (let t = free_there.place in omega arith) in
            let u = v.in_use.block in
            omega arith

        go : (i ≡ y) ⊎ (i ≡ y → ⊥) → Unmarked g m i b × (class with_free i ≡ class m i)
        go (inl q) = absurd (none (subst (λ z. Unmarked g with_free z b) q u))
        go (inr f) = let o = free_other i f in was_standing g m with_free free_kept i b u (λ z. u.in_use.used (o.tag ∙ z)) o.class o.place (free_bitmap i f)

  from_source_lem : WasUnmarked g m (from_source g m k d cl (of_counts p n) (source_of g m k cl)).1
  from_source_lem = go (eqb (holding m k cl) 0) (eqb (count g m (part_stack cl)) 0) (eqb (count g m free_stack) 0) refl refl refl
    where
      go : (x y z : Bool) → eqb (holding m k cl) 0 ≡ x → eqb (count g m (part_stack cl)) 0 ≡ y → eqb (count g m free_stack) 0 ≡ z
          → WasUnmarked g m (from_source g m k d cl (of_counts p n) (pick x (pick y (pick z no_room (unused (top g m free_stack))) (part (top g m (part_stack cl)))) (held (holding m k cl - 1)))).1
      go false y z q i j = let w = some_of (holding m k cl) q in from_taken m (holding m k cl - 1) (own_taken g m s c k d cl p n l a h e (omega arith)) (was_self g m)
      go true false z q i j = from_taken _ _ (taken_part g m s c k cl l a (class_found (p + n) cl e) (eqb-true _ _ q) (some_of _ i)) (was_part (some_of _ i))
      go true true false q i j = from_taken _ _ (taken_free g m s c k cl l a (class_found (p + n) cl e) (eqb-true _ _ q) (some_of _ j)) (was_free (some_of _ j))
      go true true true q i j = was_self g m

pub was_make : (g : Geometry) (m : Mem) → Sizes g m → Ordered g m → phase m ≡ mark → (k d p n : ℕ) → refusal (observe m) (c_make k d p n) ≡ 0 → (o : SizeClass)
    → class_of_record (of_counts p n) ≡ o → WasUnmarked g m (of_class m o (λ cl. made g m k d cl (of_counts p n))).1
unfolding made
was_make g m s c marking k d p n e (Some cl) q =
    let x = by_ok (observe m) k _ e in
    from_source_lem g m s c k d cl p n x.0 x.1 (root_ok d _ x.3).0 q marking
was_make g m s c marking k d p n e None q = was_self g m
