-- A cycle with calls between its start and a sweep that leave the unbounded heap as it was: a block of the swept segment that is free after that sweep
-- was not reached when the cycle began. Where the sweep frees a block of a segment that was full, there is one that was in use.
use mathlib.Core.Path.{◌≡◌, sym, ◌∙◌, ap, subst}
use mathlib.Core.Bool.{true}
use mathlib.Core.List.{List}
use Prim.Native.Nat.{ℕ, suc, ◌-◌, ◌<◌}
use native.Mathlib.Omega.{arith}
use Rattle.layout.specs.declared.Geometry.{Geometry}
use Rattle.layout.specs.Geometry.{blocks_in}
use Rattle.layout.specs.Mem.{Mem, mem_of, Sizes}
use Rattle.theory.proofs.Invariant.{reached_live}
use Rattle.theory.proofs.Simulation.{reach_down}
use Rattle.theory.specs.Calls.{a_swept}
use Rattle.model.specs.Fields.{tag, class}
use Rattle.model.specs.Segments.{used_bit, in_use}
use Rattle.model.specs.Records.{header_of}
use Rattle.model.specs.Collector.{step_of, step_in, sweeps, swept}
use Rattle.model.proofs.InUse.{full_used}
use Rattle.classes.specs.Class.{IsClass}
use Rattle.model.specs.Lists.{Element, Ghost, BlockReached}
use Rattle.refine_view.specs.View.{view, is_used}
use Rattle.refine_view.specs.Refines.{Ordered}
use Rattle.refine_view.proofs.Invariants.{consistent_ordered}
use Rattle.model_laws.proofs.Lengths.{sizes_of}
use Rattle.refine_sweep.proofs.Sweeping.{lowest_condemned}
use Rattle.guarantee.specs.Demand3.{BlockFree, Unreached, SweptIn}
use Rattle.guarantee.proofs.Coupling.{Any}
use Rattle.guarantee.proofs.Elements.{Point}
use Rattle.guarantee.proofs.Cycle.{SweptBy, swept_by, heap_then, heap_now, Cycle}
use Rattle.guarantee_cases.proofs.Freed.{some_free, free_unused}
use Rattle.model.specs.Tag as Tag

-- what is reached is in use
reached_used : (g : Geometry) (u : List ℕ) (w : Ghost) (P : ℕ → Type 0) (at : ℕ) → Point g u w P → BlockReached w at → is_used g (mem_of g u) at ≡ true
reached_used g u w P at p r =
    let q = reach_down w.put (view g (mem_of g u)) w.heap p.couples.sim r.reached in
    subst (λ z. is_used g (mem_of g u) z ≡ true) (p.couples.sim.inj q.0 at r.number q.1 r.last) (p.couples.inv.valid q.0 (reached_live (view g (mem_of g u)) q.2))

-- the number of blocks that a step says it freed
freed_is : (g : Geometry) (m : Mem) (s f : ℕ) → a_swept s f ≡ (step_of g m).0 → SweptBy g m s → f ≡ in_use g m s - in_use g (swept g m s) s
unfolding step_of
freed_is g m s f e y =
    let h : a_swept s f ≡ a_swept s (in_use g m s - in_use g (swept g m s) s) = e ∙ ap (λ p. (step_in p g m).0) y.in_sweep ∙ ap (λ o. (sweeps g o m).0) y.is_lowest in
    cc

pub record Found (g : Geometry) (at_start : Mem) (w : Ghost) (s : ℕ) : Type 0 where
  pub block : ℕ
  pub unreached : Unreached g at_start w s block
  pub used : used_bit g at_start s block ≡ 1

-- ---- at the sweep of a cycle

module _ (g : Geometry) (words : List ℕ) (w : Ghost) (es : List Element) (c : SweptIn g es) (y : Cycle g words w es c) (still : heap_now g words w es c ≡ heap_then g words w es c) where
  abbrev m : Mem
  m = mem_of g c.step_before

  abbrev s : ℕ
  s = c.segment

  abbrev at_start : Mem
  at_start = mem_of g c.start_before

  z : Sizes g m
  z = sizes_of g c.step_before y.during.point.long

  k : Ordered g m
  k = consistent_ordered g m y.during.point.consistent

  by : SweptBy g m s
  by = swept_by g m s c.freed y.answer

  -- the segment is one of the heap's, and was condemned
  there : (s < g.segments) × (tag m s ≡ Tag.condemned)
  there = lowest_condemned g m z k s by.is_lowest

  same_class : class m s ≡ class at_start s
  same_class = (y.during.collected s there.0 there.1).1

  class_is : IsClass (class m s)
  class_is = (k.segments s there.0).classes (λ i. absurd (let j : Tag.free ≡ Tag.condemned = sym i ∙ there.1 in omega arith))

  leaves : mem_of g c.step_after ≡ swept g m s
  leaves = y.memory ∙ by.leaves

  pub unreached_at : (b : ℕ) → b < blocks_in g (class at_start s) → BlockFree g (mem_of g c.step_after) s b → Unreached g at_start (heap_then g words w es c) s b
  unreached_at b h f =
      let at : ℕ = header_of g s (class m s) b in
      let l : b < blocks_in g (class m s) = subst (λ x. b < blocks_in g x) (sym same_class) h in
      record {
        block = h;
        unreached = λ r. free_unused g m z k s there.0 there.1 class_is b l (subst (λ u. BlockFree g u s b) leaves f)
            (subst (λ u. is_used g u at ≡ true) leaves
            (reached_used g c.step_after (heap_now g words w es c) Any at y.at_end
            (subst (λ u. BlockReached u at) (sym still) (subst (λ u. BlockReached (heap_then g words w es c) (header_of g s u b)) (sym same_class) r))));
      }

  pub found : (n : ℕ) → c.freed ≡ suc n → tag at_start s ≡ Tag.full → Found g at_start (heap_then g words w es c) s
  found n f t =
      let b = some_free g m z k s there.0 there.1 n (sym (freed_is g m s c.freed y.answer by) ∙ f) in
      let h : b.0 < blocks_in g (class at_start s) = subst (λ x. b.0 < blocks_in g x) same_class b.1 in
      record {
        block = b.0;
        unreached = unreached_at b.0 h (subst (λ u. BlockFree g u s b.0) (sym leaves) b.2);
        used = full_used g at_start s (y.at_start.consistent.sound.segments s there.0) t b.0 h;
      }
