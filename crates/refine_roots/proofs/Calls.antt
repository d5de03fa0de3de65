-- load, copy, clear, get, same and shape keep what a call must keep.
use mathlib.Core.Path.{◌≡◌, refl, sym, ap}
use Prim.Native.Nat.{ℕ, suc}
use native.Mathlib.Omega.{arith}
use lib.Dec.{ltb}
use lib.ListN.{get_or}
use borrow.Author.Tests.{ltb-true}
use Rattle.classes.specs.Record.{of_counts}
use Rattle.layout.specs.declared.Geometry.{Geometry}
use Rattle.layout.specs.Mem.{Mem, Sizes}
use Rattle.theory.specs.Reach.{root, next}
use Rattle.theory.specs.MachineCalls.{shape_at}
use Rattle.theory.specs.Calls.{c_load, c_copy, c_clear, c_get, c_same, c_shape, a_ok, a_num, a_shape, pointer?, value?, refusal}
use Rattle.theory.proofs.Refusals.{by_ok, root_ok, require_ok}
use Rattle.model.specs.Fields.{set_root}
use Rattle.model.specs.Records.{record?, pointer_count, value_count, pointer, value, shape_of}
use Rattle.model.specs.Calls.{observe, act}
use Rattle.refine_view.specs.View.{view, values_of}
use Rattle.refine_view.specs.Refines.{Ordered, ActRefines}
use Rattle.model_laws.proofs.Rooted.{named}
use Rattle.model_laws.proofs.Tables.{get_or-tab, length-tab}
use Rattle.refine_view.proofs.SelfSimulation.{matches_by, moves_self, wanted_in, on_record_lem}
use Rattle.model_laws.proofs.Rooted.{is_root}
use Rattle.refine_roots.proofs.Roots.{root_moves}
use Rattle.theory.specs.Machine as machine
use Rattle.model.specs.Fields as fields

module _ (g : Geometry) (m : Mem) (s : Sizes g m) (c : Ordered g m) where
  pub load_refines : (k d i f : ℕ) → refusal (observe m) (c_load k d i f) ≡ 0 → ActRefines g m (c_load k d i f)
  unfolding act
  load_refines k d i f e =
      let p = by_ok (observe m) k _ e in
      let q = root_ok d _ p.3 in
      let r = root_ok i _ q.1 in
      let w = wanted_in g m k i (pointer? f) p.1 r.0 r.1 in
      let n : fields.root m k i ≡ suc w.at = named _ _ w.is in
      let x = ltb-true _ _ (require_ok (ltb f (pointer_count m w.at)) 8 0 (omega arith) w.asked).0 in
      let h = on_record_lem g m (record? (fields.root m k i)) w.at w.is (λ at. (a_ok, set_root m k d (pointer m at f))) (λ at. (a_ok, machine.set_root (view g m) k d (record? (pointer m at f)))) refl
      (root_moves g m s c k d (pointer m w.at f) p.0 p.1 q.0 (λ b y. next (root (is_root m k i w.at p.0 r.0 p.1 n)) (record { field = f; within = x; names = y }))) in
      matches_by g m _ _ tt h.0 h.1

  pub copy_refines : (k d i : ℕ) → refusal (observe m) (c_copy k d i) ≡ 0 → ActRefines g m (c_copy k d i)
  unfolding act
  copy_refines k d i e =
      let p = by_ok (observe m) k _ e in
      let q = root_ok d _ p.3 in
      let r = root_ok i _ q.1 in
      matches_by g m _ _ tt refl (root_moves g m s c k d (fields.root m k i) p.0 p.1 q.0 (λ b y. root (is_root m k i b p.0 r.0 p.1 y)))

  pub clear_refines : (k d : ℕ) → refusal (observe m) (c_clear k d) ≡ 0 → ActRefines g m (c_clear k d)
  unfolding act
  clear_refines k d e =
      let p = by_ok (observe m) k _ e in
      let q = root_ok d _ p.3 in
      matches_by g m _ _ tt refl (root_moves g m s c k d 0 p.0 p.1 q.0 (λ b y. absurd (omega arith)))

  -- ---- calls that change nothing

  pub get_refines : (k i f : ℕ) → refusal (observe m) (c_get k i f) ≡ 0 → ActRefines g m (c_get k i f)
  unfolding act
  get_refines k i f e =
      let p = by_ok (observe m) k _ e in
      let r = root_ok i _ p.3 in
      let w = wanted_in g m k i (value? f) p.1 r.0 r.1 in
      let x = ltb-true _ _ (require_ok (ltb f (value_count m w.at)) 8 0 (omega arith) w.asked).0 in
      let h = on_record_lem g m (record? (fields.root m k i)) w.at w.is (λ at. (a_num (value m at f), m))
      (λ at. (a_num (get_or (values_of m at) f 0), view g m)) (ap a_num (sym (get_or-tab (value_count m w.at) (value m w.at) f x)))
      (moves_self g m c) in
      matches_by g m _ _ tt h.0 h.1

  pub same_refines : (k i j : ℕ) → refusal (observe m) (c_same k i j) ≡ 0 → ActRefines g m (c_same k i j)
  unfolding act
  same_refines k i j e = matches_by g m _ _ tt refl (moves_self g m c)

  pub shape_refines : (k i : ℕ) → refusal (observe m) (c_shape k i) ≡ 0 → ActRefines g m (c_shape k i)
  unfolding act
  shape_refines k i e =
      let p = by_ok (observe m) k _ e in
      let r = root_ok i _ p.3 in
      let w = wanted_in g m k i (λ _. 0) p.1 r.0 r.1 in
      let h = on_record_lem g m (record? (fields.root m k i)) w.at w.is (λ at. (a_shape (shape_of m at), m))
      (λ at. (a_shape (shape_at (view g m) at), view g m))
      (ap (λ n. a_shape (of_counts (pointer_count m w.at) n)) (sym (length-tab (value_count m w.at) (value m w.at))))
      (moves_self g m c) in
      matches_by g m _ _ tt h.0 h.1
