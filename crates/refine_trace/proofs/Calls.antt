-- The calls check, leave and store are kept.
use mathlib.Core.Path.{◌≡◌, refl, ◌∙◌}
use mathlib.Core.Bool.{true}
use Prim.Native.Nat.{ℕ}
use native.Mathlib.Omega.{arith}
use lib.Dec.{ltb}
use borrow.Author.Tests.{ltb-true}
use Rattle.layout.specs.declared.Geometry.{Geometry}
use Rattle.layout.specs.Mem.{Mem, Sizes}
use Rattle.theory.specs.Phases.{duty}
use Rattle.theory.specs.Calls.{Answer, a_ok, c_check, c_leave, c_store, refusal, pointer?}
use Rattle.theory.specs.Machine.{check, store}
use Rattle.theory.proofs.Refusals.{by_ok, root_ok, require_ok}
use Rattle.model.specs.Fields.{phase, acks}
use Rattle.model.specs.Records.{record?, pointer_count, pointer, set_pointer}
use Rattle.model.specs.Calls.{observe, act, is_attached}
use Rattle.model.specs.Mutators.{acknowledged}
use Rattle.refine_view.specs.View.{view}
use Rattle.refine_view.specs.Refines.{Ordered, ActRefines}
use Rattle.model_laws.proofs.Bools.{not_eq}
use Rattle.refine_view.proofs.SelfSimulation.{matches_by, wanted_in, on_record_lem}
use Rattle.model_laws.proofs.Operations.{sizes_acknowledged}
use Rattle.refine_trace.proofs.Acknowledging.{acknowledged_moves}
use Rattle.refine_trace.proofs.Leaving.{check_attached, left_moves}
use Rattle.refine_trace.proofs.Storing.{store_moves}
use Rattle.model.specs.Fields as fields
use Rattle.model.specs.Tracing as tracing

module _ (g : Geometry) (m : Mem) (s : Sizes g m) (c : Ordered g m) where
  pub check_refines : (k : ℕ) → refusal (observe m) (c_check k) ≡ 0 → ActRefines g m (c_check k)
  unfolding act
  check_refines k e =
      let a = by_ok (observe m) k 0 e in
      matches_by g m (c_check k) _ tt refl (acknowledged_moves g m s c k a.0 (not_eq _ _ a.1))

  pub leave_refines : (k : ℕ) → refusal (observe m) (c_leave k) ≡ 0 → ActRefines g m (c_leave k)
  unfolding act
  leave_refines k e =
      let a = by_ok (observe m) k 0 e in
      let v = acknowledged_moves g m s c k a.0 (not_eq _ _ a.1) in
      let h : is_attached (acknowledged g m k) k ≡ true = v.agree.attached k ∙ check_attached (phase m) (acks m k) (view g m) k k ∙ a.1 in
      matches_by g m (c_leave k) _ tt refl (left_moves g m (acknowledged g m k) (check (view g m) k) v (sizes_acknowledged g m s k) k a.0 (not_eq _ _ h))

  abbrev stored : ℕ → ℕ → ℕ → ℕ → Answer × Mem
  stored k f w at = (a_ok, set_pointer (tracing.barrier g (duty (phase m) (acks m k)) m (record? w) (record? (pointer m at f))) at f w)

  pub store_refines : (k i f j : ℕ) → refusal (observe m) (c_store k i f j) ≡ 0 → ActRefines g m (c_store k i f j)
  unfolding act
  store_refines k i f j e =
      let a = by_ok (observe m) k _ e in
      let b = root_ok i _ a.3 in
      let d = root_ok j _ b.1 in
      let w = wanted_in g m k i (pointer? f) a.1 b.0 d.1 in
      let l = ltb-true _ _ (require_ok (ltb f (pointer_count m w.at)) 8 0 (omega arith) w.asked).0 in
      let h = on_record_lem g m (record? (fields.root m k i)) w.at w.is (stored k f (fields.root m k j)) (λ at. (a_ok, store (view g m) k at f (record? (fields.root m k j)))) refl
      (store_moves g m s c k w.at f (fields.root m k j) (i, a.1, b.0, w.is) l (λ x z. (j, a.1, d.0, z))) in
      matches_by g m _ _ tt h.0 h.1
