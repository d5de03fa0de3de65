-- The second half: garbage in a segment that was full or part when a cycle began is free once that segment is swept.
use mathlib.Core.Path.{◌≡◌, sym, ◌∙◌, ap, subst}
use mathlib.Core.Logic.{◌⊎◌, inl, inr}
use mathlib.Core.Bool.{true}
use mathlib.Core.List.{List}
use Prim.Native.Nat.{ℕ, ◌%◌, ◌<◌}
use native.Mathlib.Omega.{arith}
use borrow.Author.Tests.{eq-eqb}
use Rattle.basics.proofs.Order.{same_or_not}
use Rattle.words.proofs.Word.{one_of-not_zero}
use Rattle.words.proofs.Lists.{at_lt}
use Rattle.layout.specs.declared.Geometry.{Geometry}
use Rattle.layout.specs.Geometry.{segment_words, blocks_in, segment_of, mark_bit}
use Rattle.layout.specs.Mem.{Mem, mem_of}
use Rattle.theory.proofs.CycleKeeps.{quiet_reached}
use Rattle.theory.proofs.Invariant.{Quiet}
use Rattle.theory.proofs.Simulation.{reach_up}
use Rattle.model.specs.Fields.{trace_count, tag, class}
use Rattle.model.specs.Segments.{used_bit}
use Rattle.model.specs.Records.{header_of, entered}
use Rattle.model.specs.Consistent.{InPhase}
use Rattle.model.specs.Reaching.{is_marked}
use Rattle.model.specs.Collector.{swept}
use Rattle.classes.specs.Class.{IsClass, block_words}
use Rattle.model.specs.Lists.{Element, Ghost, BlockReached}
use Rattle.refine_view.specs.View.{view, is_head}
use Rattle.refine_view.proofs.Invariants.{consistent_ordered}
use Rattle.model_laws.proofs.Bools.{and_both}
use Rattle.model_laws.proofs.Blocks.{header_segment, header_aligned}
use Rattle.model_laws.proofs.Marked.{all_marked}
use Rattle.model_laws.proofs.Lengths.{sizes_of}
use Rattle.refine_sweep.proofs.Sweeping.{swept_free, lowest_condemned}
use Rattle.guarantee.specs.Demand3.{SweptIn, BlockFree, Unreached, GarbageFreed}
use Rattle.guarantee.proofs.Cycle.{swept_by, Then, heap_then, Cycle, cycle_of}
use Rattle.model.specs.Tag as Tag

module _ (g : Geometry) (words : List ℕ) (w : Ghost) (es : List Element) (c : SweptIn g es) (y : Cycle g words w es c) where
  -- what was live when the cycle began was reached then
  was_reached : (t : ℕ) → Then g words w es c t → BlockReached (heap_then g words w es c) t
  was_reached t l =
      let m₀ = mem_of g c.start_before in
      let o = y.at_start.couples in
      let h = reach_up _ (view g m₀) _ o.sim (quiet_reached (segment_of g) (view g m₀) o.inv (subst Quiet (sym y.quiet) tt) l) in
      record { number = h.0; last = h.1; reached = h.2 }

  abbrev m : Mem
  m = mem_of g c.step_before

  module _ (s b : ℕ) where
    unmarked : trace_count m ≡ 0 → IsClass (class m s) → b < blocks_in g (class m s) → tag m s ≡ Tag.condemned
        → (BlockReached (heap_then g words w es c) (header_of g s (class m s) b) → ⊥) → entered g m (header_of g s (class m s) b) ≡ 0
    unmarked quiet k l e f = go (same_or_not (entered g m (header_of g s (class m s) b)) 0)
      where
        there : segment_of g (header_of g s (class m s) b) ≡ s
        there = header_segment g (class m s) k s b l

        head : is_head g m (header_of g s (class m s) b) ≡ true
        head = eq-eqb _ _ (ap (λ z. header_of g s (class m s) b % segment_words g % block_words (class m z)) there ∙ header_aligned g (class m s) k s b l)

        go : (entered g m (header_of g s (class m s) b) ≡ 0) ⊎ (entered g m (header_of g s (class m s) b) ≡ 0 → ⊥) → entered g m (header_of g s (class m s) b) ≡ 0
        go (inl z) = z
        go (inr n) =
            let one : entered g m (header_of g s (class m s) b) ≡ 1 = one_of-not_zero _ (at_lt m.marks (mark_bit (header_of g s (class m s) b))) n in
            let bit : is_marked g m (header_of g s (class m s) b) ≡ true = eq-eqb _ _ (all_marked g m (header_of g s (class m s) b) quiet ∙ one) in
            absurd (f (was_reached (header_of g s (class m s) b) (y.during.point.couples.comp.black (header_of g s (class m s) b) (and_both _ _ head bit) (eq-eqb _ _ (ap (tag m) there ∙ e)))))

    free_of : (m' : Mem) → (used_bit g m' s b ≡ 0) ⊎ (tag m' s ≡ Tag.free) → BlockFree g m' s b
    free_of m' (inl e) = inl e
    free_of m' (inr e) = inr (eq-eqb (tag m' s) Tag.free e)

  block_free : (b : ℕ) → Unreached g (mem_of g c.start_before) (heap_then g words w es c) c.segment b → BlockFree g (mem_of g c.step_after) c.segment b
  block_free b z =
      let s = c.segment in
      let a = swept_by g m s c.freed y.answer in
      let k = consistent_ordered g m y.during.point.consistent in
      let h = sizes_of g c.step_before y.during.point.long in
      let o = lowest_condemned g m h k s a.is_lowest in
      let n = (y.during.collected s o.0 o.1).1 in
      let i : IsClass (class m s) = (k.segments s o.0).classes (λ i. absurd (let j : Tag.free ≡ Tag.condemned = sym i ∙ o.1 in omega arith)) in
      let l : b < blocks_in g (class m s) = subst (λ x. b < blocks_in g x) (sym n) z.block in
      let u = unmarked s b (subst (λ p. InPhase p g m) a.in_sweep k.cycle).0 i l o.1 (λ r. z.unreached (subst (λ x. BlockReached (heap_then g words w es c) (header_of g s x b)) n r)) in
      subst (λ x. BlockFree g x s b) (sym (y.memory ∙ a.leaves)) (free_of s b (swept g m s) (swept_free g m h k a.in_sweep s b a.is_lowest l u))

pub garbage_freed : GarbageFreed
garbage_freed g words w es o ch c s b f z e =
    rw e (block_free g words w es c (cycle_of g words w es c o ch) b (rw e at z))
