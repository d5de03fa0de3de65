-- Every call of the model keeps what it must: the calls, start and step of the crates below, together.
use mathlib.Core.Path.{◌≡◌, refl, sym, ◌∙◌, subst}
use mathlib.Core.Bool.{Bool, true, false}
use Prim.Native.Nat.{ℕ, ◌-◌, zero, suc, ◌+◌, ◌≤◌, ◌<◌}
use native.Mathlib.Omega.{arith}
use lib.Dec.{eqb, leb}
use borrow.Author.Tests.{eqb-true, eqb-false, leb-true}
use Rattle.basics.specs.Pick.{pick}
use Rattle.classes.specs.Class.{max_fields, IsClass, SizeClass}
use Rattle.std.specs.Prelude.{Some, None}
use Rattle.classes.proofs.Smallest.{class_limit, class_found}
use Rattle.classes.specs.Record.{of_counts, class_of_record}
use Rattle.layout.specs.declared.Geometry.{Geometry}
use Rattle.layout.specs.Geometry.{mutator_count, root_count, segment_of}
use Rattle.layout.specs.Mem.{Mem, Sizes}
use Rattle.theory.specs.Phases.{Phase, idle, sync1, sync2, mark, sweep}
use Rattle.theory.specs.Calls.{Call, c_attach, c_detach, c_check, c_leave, c_enter, c_spawn, c_make, c_load, c_store, c_copy, c_clear, c_put, c_get, c_same, c_shape, refusal}
use Rattle.theory.proofs.Refusals.{by_ok, root_ok, require_ok}
use Rattle.theory.proofs.Agree.{agree_inv}
use Rattle.model.specs.Fields.{phase, holding}
use Rattle.model.specs.Segments.{count, top, part_stack, free_stack}
use Rattle.model.specs.Records.{header_of}
use Rattle.model.specs.Making.{held, part, unused, no_room, source_of, in_block, in_segment, from_source, made}
use Rattle.model.specs.Calls.{is_attached, observe, act, of_class}
use Rattle.model.specs.Collector.{lowest, step_of, step_in}
use Rattle.refine_view.specs.View.{view}
use Rattle.refine_view.specs.Refines.{Ordered, Moves, Refines, refused_out, agrees, CallRefines, StepRefines, AllRefine}
use Rattle.refine_view.proofs.Invariants.{consistent_ordered, to_inv, ordered_of}
use Rattle.refine_view.proofs.SelfSimulation.{agree_self, moves_self}
use Rattle.model_laws.proofs.Words.{untouched_same}
use Rattle.refine_roots.proofs.Calls.{load_refines, copy_refines, clear_refines, get_refines, same_refines, shape_refines}
use Rattle.refine_roots.proofs.Sides.{enter_refines}
use Rattle.refine_roots.proofs.Coming.{attach_refines, spawn_refines}
use Rattle.refine_roots.proofs.Puts.{put_refines}
use Rattle.refine_trace.proofs.Calls.{check_refines, leave_refines, store_refines}
use Rattle.refine_trace.proofs.Steps.{handshake1_moves, handshake2_moves, trace_moves}
use Rattle.refine_take_detach.proofs.SegmentTaken.{SegmentTaken}
use Rattle.refine_take_detach.proofs.TakePart.{taken_part}
use Rattle.refine_take_detach.proofs.TakeFree.{taken_free}
use Rattle.refine_take_detach.proofs.DetachRefines.{detach_refines}
use Rattle.refine_making.proofs.Handed.{handed}
use Rattle.refine_sweep.proofs.Sweeping.{picked, sweep_moves}
use Rattle.refine_start.proofs.Started.{start_refines}
use Rattle.guarantee.specs.Demand3.{struck_out}
use Rattle.theory.specs.MachineCalls as calls

-- ---- make: from a held segment, or from one that is taken first

pub some_of : (x : ℕ) → eqb x 0 ≡ false → 1 ≤ x
some_of zero q = absurd (eqb-false 0 0 q refl)
some_of (suc x) q = omega arith

module _ (g : Geometry) (m : Mem) (s : Sizes g m) (c : Ordered g m) (k d cl p n : ℕ) (l : k < mutator_count)
    (a : is_attached m k ≡ true) (h : d < root_count) (e : class_of_record (of_counts p n) ≡ Some cl) where
  is_class_lem : IsClass cl
  is_class_lem = class_found (p + n) cl e

  -- out of a memory in which the mutator holds segment r
  module _ (m₁ : Mem) (r : ℕ) (t : SegmentTaken g m m₁ k cl r) where
    pub in_order : Ordered g m₁
    in_order = ordered_of g m₁ t.sizes t.structure (agree_inv (segment_of g) (view g m) (view g m₁) t.prepared (to_inv g m s c))

    from_held : Refines struck_out g m (c_make k d p n) (in_segment g m m₁ k d cl r (of_counts p n))
    from_held =
        let x = handed g m₁ t.sizes in_order k d cl r (of_counts p n) l t.known h e t.holds in
        subst (λ f. Refines struck_out g m (c_make k d p n) (in_block g m m₁ f k d cl r (of_counts p n))) (sym x.1) (agrees (record {
          ready = m₁;
          prepared = t.prepared;
          shows = t.shows;
          block = header_of g r cl x.0;
          permitted = x.2;
          answer = refl;
          moves = record {
            structure = x.3.structure;
            occupied = λ u. x.3.occupied (t.occupied u);
            behind = λ u. x.3.behind (t.behind u);
            agree = x.3.agree;
            steady = λ i q y. let z = x.3.steady i q y in let w = t.steady i q z.0 in (w.0, z.1 ∙ w.1);
          };
        }))

  -- the mutator's own segment
  pub own_taken : holding m k cl ≡ suc (holding m k cl - 1) → SegmentTaken g m m k cl (holding m k cl - 1)
  own_taken q = record {
    sizes = s;
    structure = (moves_self g m c).structure;
    occupied = λ u i q f. u i q;
    behind = λ u. u;
    prepared = agree_self g m;
    shows = refl;
    steady = λ i q y. (y, refl);
    counts = λ i. (untouched_same m m i refl).counts;
    holds = q;
    known = a;
  }

  by_source : Refines struck_out g m (c_make k d p n) (from_source g m k d cl (of_counts p n) (source_of g m k cl))
  by_source = go (eqb (holding m k cl) 0) (eqb (count g m (part_stack cl)) 0) (eqb (count g m free_stack) 0) refl refl refl
    where
      go : (x y z : Bool) → eqb (holding m k cl) 0 ≡ x → eqb (count g m (part_stack cl)) 0 ≡ y → eqb (count g m free_stack) 0 ≡ z
          → Refines struck_out g m (c_make k d p n)
          (from_source g m k d cl (of_counts p n) (pick x (pick y (pick z no_room (unused (top g m free_stack))) (part (top g m (part_stack cl)))) (held (holding m k cl - 1))))
      go false y z q i j = let w = some_of (holding m k cl) q in from_held m (holding m k cl - 1) (own_taken (omega arith))
      go true false z q i j = from_held _ _ (taken_part g m s c k cl l a is_class_lem (eqb-true _ _ q) (some_of _ i))
      go true true false q i j = from_held _ _ (taken_free g m s c k cl l a is_class_lem (eqb-true _ _ q) (some_of _ j))
      go true true true q i j = refused_out 10 refl refl

make_refines : (g : Geometry) (m : Mem) → Sizes g m → Ordered g m → (k d p n : ℕ) → refusal (observe m) (c_make k d p n) ≡ 0 → CallRefines struck_out g m (c_make k d p n)
unfolding act made
make_refines g m s c k d p n e =
    let x = by_ok (observe m) k _ e in
    let y = root_ok d _ x.3 in
    let z = require_ok (leb (p + n) max_fields) 9 0 (omega arith) y.1 in
    go (class_of_record (of_counts p n)) refl x.0 x.1 y.0 (leb-true _ _ z.0)
  where
    go : (o : SizeClass) → class_of_record (of_counts p n) ≡ o → k < mutator_count → is_attached m k ≡ true → d < root_count → p + n ≤ max_fields
        → Refines struck_out g m (c_make k d p n) (of_class m o (λ cl. made g m k d cl (of_counts p n)))
    go (Some cl) q l a h f = by_source g m s c k d cl p n l a h q
    go None q l a h f = absurd (let w = class_limit (p + n) q in omega arith)

-- ---- all calls

calls_refines : (g : Geometry) (m : Mem) → Sizes g m → Ordered g m → (c : Call) → refusal (observe m) c ≡ 0 → CallRefines struck_out g m c
calls_refines g m s c (c_attach k) e = attach_refines struck_out refl g m s c k e
calls_refines g m s c (c_spawn k p i) e = spawn_refines struck_out refl g m s c k p i e
calls_refines g m s c (c_detach k) e = detach_refines struck_out refl g m s c k e
calls_refines g m s c (c_check k) e = agrees (check_refines g m s c k e)
calls_refines g m s c (c_leave k) e = agrees (leave_refines g m s c k e)
calls_refines g m s c (c_enter k) e = agrees (enter_refines g m s c k e)
calls_refines g m s c (c_make k d p n) e = make_refines g m s c k d p n e
calls_refines g m s c (c_load k d i f) e = agrees (load_refines g m s c k d i f e)
calls_refines g m s c (c_store k i f j) e = agrees (store_refines g m s c k i f j e)
calls_refines g m s c (c_copy k d i) e = agrees (copy_refines g m s c k d i e)
calls_refines g m s c (c_clear k d) e = agrees (clear_refines g m s c k d e)
calls_refines g m s c (c_put k i f v) e = agrees (put_refines g m s c k i f v e)
calls_refines g m s c (c_get k i f) e = agrees (get_refines g m s c k i f e)
calls_refines g m s c (c_same k i j) e = agrees (same_refines g m s c k i j e)
calls_refines g m s c (c_shape k i) e = agrees (shape_refines g m s c k i e)

step_refines : (g : Geometry) (m : Mem) → Sizes g m → Ordered g m → StepRefines g m
unfolding step_of
step_refines g m s c = record { picked = picked g m s c; moves = go (phase m) refl }
  where
    go : (p : Phase) → phase m ≡ p → Moves g m (step_in p g m).1 (calls.step_by (segment_of g) (λ _. lowest m g.segments) p (view g m))
    go idle e = moves_self g m c
    go sync1 e = handshake1_moves g m s c (lowest m g.segments) e
    go sync2 e = handshake2_moves g m s c (lowest m g.segments) e
    go mark e = trace_moves g m s c (lowest m g.segments) e
    go sweep e = sweep_moves g m s c e

pub all_refine : AllRefine struck_out
all_refine = record {
  calls = λ g m s c. calls_refines g m s (consistent_ordered g m c);
  starts = λ g m s c. start_refines g m s (consistent_ordered g m c);
  steps = λ g m s c. step_refines g m s (consistent_ordered g m c);
}
