-- A data field of a record set: put.
use mathlib.Core.Path.{◌≡◌, refl, sym, ◌∙◌, ap}
use Prim.Native.Nat.{ℕ, suc, ◌+◌, ◌≤◌, ◌<◌}
use native.Mathlib.Omega.{arith}
use lib.Dec.{ltb}
use lib.ListN.{set}
use lib.Seq.{get_or-set_same, get_or-set_other}
use borrow.Author.Tests.{ltb-true}
use Rattle.layout.specs.Geometry.{segment_of}
use Rattle.layout.specs.declared.Geometry.{Geometry}
use Rattle.layout.specs.Mem.{Mem, heap_word, set_heap, Sizes}
use Rattle.theory.specs.Calls.{c_put, a_ok, value?, refusal}
use Rattle.theory.proofs.Refusals.{by_ok, root_ok, require_ok}
use Rattle.theory.specs.TraceStack.{tab}
use Rattle.theory.specs.Update.{upd}
use Rattle.theory.proofs.Agree.{Agree}
use Rattle.model.specs.Fields.{phase, trace_count}
use Rattle.model.specs.Records.{record?, pointer_count, value_count, pointer, value, set_value}
use Rattle.model.specs.Calls.{observe, act}
use Rattle.model.specs.Reaching.{Live}
use Rattle.model.specs.Consistent.{RecordOk}
use Rattle.refine_view.specs.View.{view, values_of}
use Rattle.refine_view.specs.Refines.{Ordered, Structure, Moves, ActRefines}
use Rattle.refine_view.proofs.Seeing.{entries_same, live_on}
use Rattle.model_laws.proofs.Rooted.{named}
use Rattle.refine_view.proofs.Carried.{entries_by}
use Rattle.refine_view.proofs.Frames.{held_self, mutator_beside, marks_beside, structure_beside}
use Rattle.model_laws.proofs.Tables.{tab_set}
use Rattle.theory.proofs.Updates.{upd_by}
use Rattle.refine_view.proofs.Contents.{pointers_by, values_by, pointer_by, value_by, fields_by}
use Rattle.refine_view.proofs.Invariants.{to_live, to_record, structure_of}
use Rattle.refine_view.proofs.SelfSimulation.{matches_by, wanted_in, on_record_lem}
use Rattle.model_laws.proofs.Rooted.{live_root}
use Rattle.model_laws.proofs.Apart.{fields_apart, field_inside}
use Rattle.theory.proofs.Agree as agreeing
use Rattle.theory.specs.Machine as machine
use Rattle.model.specs.Fields as fields

-- ---- a word of the heap that is no header: the words stay in order

module _ (g : Geometry) (m : Mem) (i v : ℕ) (o : Structure g m) (heads : (x : ℕ) → Live m x → heap_word (set_heap m i v) x ≡ heap_word m x) (live : (x : ℕ) → Live (set_heap m i v) x → Live m x) where
  abbrev now : Mem
  now = set_heap m i v

  pub heap_structure : Structure g now
  unfolding set_heap
  heap_structure = structure_beside g m m.control m.mutators m.marks m.trace now.heap o o.phases
      (held_self g m m.control m.marks m.trace now.heap)
      (λ k h. mutator_beside g m m.control m.marks m.trace now.heap k (o.mutators k h))
      (λ x h. (o.records x (live x h), heads x (live x h)))
      (entries_by g m now o.trace refl (λ i. refl) refl)
      (marks_beside g m m.control m.mutators now.heap refl (phase m) o.marks)

-- ---- a field of a live record

module _ (g : Geometry) (m : Mem) (s : Sizes g m) (c : Ordered g m) (at : ℕ) (r : RecordOk g m at) (f v : ℕ) (h : f < value_count m at) where
  abbrev place : ℕ
  place = at + 1 + pointer_count m at + f

  abbrev after : Mem
  after = set_heap m place v

  offset : place ≡ at + (1 + pointer_count m at + f)
  offset = omega arith

  -- a word of a record that is in order, but the one that is set
  other : (x : ℕ) → RecordOk g m x → (i : ℕ) → i ≤ pointer_count m x + value_count m x → (x ≡ at → i ≡ 1 + pointer_count m at + f → ⊥) → heap_word after (x + i) ≡ heap_word m (x + i)
  unfolding set_heap
  other x q i l d = get_or-set_other m.heap place (x + i) v 0 (λ e. clash (e ∙ offset))
    where
      clash : x + i ≡ at + (1 + pointer_count m at + f) → ⊥
      clash e = let z = fields_apart g m x at q r i (1 + pointer_count m at + f) l (omega arith) e in d z (omega arith)

  there : heap_word after place ≡ v
  unfolding set_heap
  there = let z = s.heap in let w = field_inside g m at r (1 + pointer_count m at + f) (omega arith) in get_or-set_same m.heap place v 0 (omega arith)

  header : (x : ℕ) → RecordOk g m x → heap_word after x ≡ heap_word m x
  header x q = let e : x ≡ x + 0 = omega arith in ap (heap_word after) e ∙ other x q 0 (omega arith) (λ y z. omega arith) ∙ ap (heap_word m) (sym e)

  pointer_at : (x i : ℕ) → RecordOk g m x → i < pointer_count m x → pointer after x i ≡ pointer m x i
  pointer_at x i q l = pointer_by m after x (header x q) i (other x q (1 + i) (omega arith) (λ y z. let p : pointer_count m x ≡ pointer_count m at = ap (pointer_count m) y in omega arith))

  value_word : (x i : ℕ) → RecordOk g m x → i < value_count m x → (x ≡ at → i ≡ f → ⊥) → heap_word after (x + (1 + pointer_count m x + i)) ≡ heap_word m (x + (1 + pointer_count m x + i))
  value_word x i q l d = other x q (1 + pointer_count m x + i) (omega arith) (λ y z. let p : pointer_count m x ≡ pointer_count m at = ap (pointer_count m) y in d y (omega arith))

  value_there : value after at f ≡ v
  value_there = ap (λ z. heap_word after (at + 1 + z + f)) (pointers_by m after at (header at r)) ∙ there

  values_at : (x : ℕ) → RecordOk g m x → values_of after x ≡ upd (values_of m) at (set (values_of m at) f v) x
  values_at x q =
      upd_by (values_of m) at (set (values_of m at) f v) x (values_of after x) (λ e. ap (values_of after) e ∙ here)
      (λ d. fields_by m after x (header x q) (λ i l. value_word x i q l (λ y z. d y)))
    where
      here : values_of after at ≡ set (values_of m at) f v
      here =
          ap (λ n. tab n (value after at)) (values_by m after at (header at r))
          ∙ sym (tab_set (value_count m at) (value m at) (value after at) f v h value_there (λ i l d. value_by m after at (header at r) i (value_word at i r l (λ y z. d z))))

  agree : Agree (segment_of g) (machine.set_values (view g m) at (set (values_of m at) f v)) (view g after)
  unfolding set_heap
  agree = record {
    phase = refl;
    stack = entries_same m after (trace_count m) (λ i q. refl);
    attached = λ j. refl;
    inside = λ j. refl;
    acks = λ j. refl;
    root = λ j i b q. refl;
    marked = λ t b q. refl;
    condemned_marks = λ b e. refl;
    condemned = λ x. refl;
    pointer_count = λ x p. pointers_by m after x (header x (to_record g m s c x p));
    values = λ x p. values_at x (to_record g m s c x p);
    pointer = λ x i p l. ap record? (pointer_at x i (to_record g m s c x p) l);
    used = λ b q. refl;
  }

  live : (x : ℕ) → Live after x → Live m x
  live x p = to_live g m s c (agreeing.live_back (segment_of g) (machine.set_values (view g m) at (set (values_of m at) f v)) (view g after) agree (live_on g after p))

  pub value_moves : Moves g m (set_value m at f v) (machine.set_values (view g m) at (set (values_of m at) f v))
  unfolding set_heap
  value_moves =
      record { structure = heap_structure g m place v (structure_of g m c) (λ x p. header x (c.records x p)) live; occupied = λ u. u; behind = λ u. u; agree = agree; steady = λ x q e. (e, refl) }

pub put_refines : (g : Geometry) (m : Mem) → Sizes g m → Ordered g m → (k i f v : ℕ) → refusal (observe m) (c_put k i f v) ≡ 0 → ActRefines g m (c_put k i f v)
unfolding act
put_refines g m s c k i f v e =
    let p = by_ok (observe m) k _ e in
    let r = root_ok i _ p.3 in
    let w = wanted_in g m k i (value? f) p.1 r.0 r.1 in
    let n : fields.root m k i ≡ suc w.at = named _ _ w.is in
    let x = ltb-true _ _ (require_ok (ltb f (value_count m w.at)) 8 0 (omega arith) w.asked).0 in
    let h = on_record_lem g m (record? (fields.root m k i)) w.at w.is (λ at. (a_ok, set_value m at f v)) (λ at. (a_ok, machine.set_values (view g m) at (set (values_of m at) f v))) refl
    (value_moves g m s c w.at (c.records w.at (live_root m k i w.at p.0 r.0 p.1 n)) f v x) in
    matches_by g m _ _ tt h.0 h.1
