-- What is live, reached and covered is the same for the memory and for the machine that it is seen as.
use mathlib.Core.Path.{◌≡◌, refl, sym, ◌∙◌, ap, subst}
use mathlib.Core.Logic.{◌⊎◌, inl, inr}
use mathlib.Core.Bool.{true, ◌&&◌}
use mathlib.Core.Option.{some}
use mathlib.Core.List.Memᴰ
use mathlib.Core.List.{◌∷◌, Memᴰ}
use Prim.Native.Nat.{ℕ, zero, suc, ◌+◌, ◌-◌, ◌≤◌, ◌<◌}
use native.Mathlib.Omega.{arith}
use lib.ListN.{get_or-eq_default}
use borrow.Author.Tests.{eq-eqb}
use Rattle.basics.proofs.Order.{le_or_lt, same_or_not}
use Rattle.classes.specs.Record.{pointer_count_of}
use Rattle.model_laws.proofs.Headers.{shape_by}
use Rattle.layout.specs.declared.Geometry.{Geometry}
use Rattle.layout.specs.Geometry.{mutator_count, root_count}
use Rattle.layout.specs.Mem.{Mem, trace_word, heap_word, Sizes}
use Rattle.theory.specs.Reach.{Protected, root}
use Rattle.theory.specs.Machine.{Points, Grey, LiveRoot}
use Rattle.theory.proofs.Graph.{reach_map, prot_map}
use Rattle.theory.proofs.Invariant.{prot_live}
use Rattle.model.specs.Fields.{absent, state, trace_count}
use Rattle.model.specs.Records.{record?}
use Rattle.model.specs.Calls.{is_attached}
use Rattle.model.specs.Reaching.{IsRoot, IsEntry, PointsTo, Live, Reached, Covered, is_marked}
use Rattle.model.specs.Consistent.{RecordOk}
use Rattle.refine_view.specs.View.{view, stack_of, is_head}
use Rattle.words.proofs.Counts.{lt_of}
use Rattle.model_laws.proofs.Rooted.{named}
use Rattle.model_laws.proofs.Bools.{not_eq, ne_not}
use Rattle.theory.specs.Machine as machine
use Rattle.model.specs.Fields as fields

pub naming : (w y : ℕ) → w ≡ suc y → record? w ≡ some y
naming w y e = ap record? e

-- ---- the trace stack

pub entry_in : (m : Mem) (n i at : ℕ) → i < n → trace_word m i ≡ suc at → Memᴰ at (stack_of m n)
entry_in m zero i at h e = absurd (omega arith)
entry_in m (suc n) i at h e = go (same_or_not i n) (λ l. entry_in m n i at l e)
  where
    go : (i ≡ n) ⊎ (i ≡ n → ⊥) → (i < n → Memᴰ at (stack_of m n)) → Memᴰ at (stack_of m (suc n))
    go (inl q) ih = let z : trace_word m n ≡ suc at = ap (trace_word m) (sym q) ∙ e in let y : at ≡ trace_word m n - 1 = omega arith in Memᴰ.head y
    go (inr q) ih = Memᴰ.tail (ih (lt_of h q))

pub entry_of : (m : Mem) (n at : ℕ) → Memᴰ at (stack_of m n) → (i : ℕ) × (i < n) × (trace_word m i - 1 ≡ at)
entry_of m zero at h = absurd (Memᴰ.not-nil h)
entry_of m (suc n) at h = go (λ q. entry_of m n at q) (Memᴰ.cases_cons h)
  where
    up : (i : ℕ) × (i < n) × (trace_word m i - 1 ≡ at) → (i : ℕ) × (i < suc n) × (trace_word m i - 1 ≡ at)
    up x = let q : x.0 < n = x.1 in (x.0, omega arith, x.2)

    go : (Memᴰ at (stack_of m n) → (i : ℕ) × (i < n) × (trace_word m i - 1 ≡ at)) → (at ≡ trace_word m n - 1) ⊎ Memᴰ at (stack_of m n) → (i : ℕ) × (i < suc n) × (trace_word m i - 1 ≡ at)
    go ih (inl e) = (n, omega arith, sym e)
    go ih (inr q) = up (ih q)

-- the stack reads its entries only
pub entries_same : (m m' : Mem) (n : ℕ) → ((i : ℕ) → i < n → trace_word m' i ≡ trace_word m i) → stack_of m' n ≡ stack_of m n
entries_same m m' zero h = refl
entries_same m m' (suc n) h = λ i. (h n (omega arith) i - 1) ∷ entries_same m m' n (λ i l. h i (omega arith)) i

-- ---- from the memory to the machine

module _ (g : Geometry) (m : Mem) where
  pub root_on : (at : ℕ) → IsRoot m at → machine.Root (view g m) at
  root_on at r = (r.mutator, (r.index, ne_not _ _ r.attached, r.within, naming _ _ r.names))

  pub entry_on : (at : ℕ) → IsEntry m at → Grey (view g m) at
  entry_on at e = entry_in m (trace_count m) e.index at e.within e.names

  pub edge_on : (x y : ℕ) → PointsTo m x y → Points (view g m) x y
  edge_on x y p = (p.field, p.within, naming _ _ p.names)

  pub live_on : {at : ℕ} → Live m at → machine.Live (view g m) at
  live_on p = reach_map {R = λ at. IsRoot m at ⊎ IsEntry m at} {R' = LiveRoot (view g m)} base (λ x y q e. inl (edge_on x y e)) p
    where
      base : (x : ℕ) → IsRoot m x ⊎ IsEntry m x → machine.Live (view g m) x
      base x (inl r) = root (inl (root_on x r))
      base x (inr e) = root (inr (entry_on x e))

  pub reached_on : {at : ℕ} → Reached m at → machine.Reached (view g m) at
  reached_on p = reach_map {R = IsRoot m} {R' = machine.Root (view g m)} (λ x r. root (root_on x r)) (λ x y q e. inl (edge_on x y e)) p

  -- ---- from the machine to the memory, where the regions have their lengths and no entry is nil

  pub few_mutators : Sizes g m → (k : ℕ) → is_attached m k ≡ true → k < mutator_count
  few_mutators s k a = go (le_or_lt mutator_count k)
    where
      go : (mutator_count ≤ k) ⊎ (k < mutator_count) → k < mutator_count
      go (inr l) = l
      go (inl l) = let z = s.mutators in absurd (not_eq (state m k) absent a (get_or-eq_default m.mutators 0 (omega arith)))

  pub edge_back : (x y : ℕ) → Points (view g m) x y → PointsTo m x y
  edge_back x y e = record { field = e.0; within = e.1; names = named _ _ e.2 }

  module _ (s : Sizes g m) where
    pub root_back : (at : ℕ) → machine.Root (view g m) at → IsRoot m at
    root_back at r = record {
      mutator = r.0;
      index = r.1.0;
      few = few_mutators s r.0 r.1.1;
      within = r.1.2;
      attached = not_eq _ _ r.1.1;
      names = named _ _ r.1.3;
    }

    pub reached_back : {at : ℕ} → machine.Reached (view g m) at → Reached m at
    reached_back p = reach_map {R = machine.Root (view g m)} {R' = IsRoot m} (λ x r. root (root_back x r)) (λ x y q e. inl (edge_back x y e)) p

    module _ (n : (i : ℕ) → i < trace_count m → 1 ≤ trace_word m i) where
      pub entry_back : (at : ℕ) → Grey (view g m) at → IsEntry m at
      entry_back at h = let q = entry_of m (trace_count m) at h in let z = n q.0 q.1 in let y = q.2 in record { index = q.0; within = q.1; names = omega arith }

      pub live_back : {at : ℕ} → machine.Live (view g m) at → Live m at
      live_back p = reach_map {R = LiveRoot (view g m)} {R' = λ at. IsRoot m at ⊎ IsEntry m at} base (λ x y q e. inl (edge_back x y e)) p
        where
          base : (x : ℕ) → LiveRoot (view g m) x → Live m x
          base x (inl r) = root (inl (root_back x r))
          base x (inr e) = root (inr (entry_back x e))

      -- ---- covered: a live record lies at the head of its block, so that both have its mark
      module _ (ok : (at : ℕ) → Live m at → RecordOk g m at) where
        pub head_of : (at : ℕ) → Live m at → is_head g m at ≡ true
        head_of at l = eq-eqb _ _ (ok at l).aligned

        pub mark_same : (at : ℕ) → Live m at → (is_head g m at && is_marked g m at) ≡ is_marked g m at
        mark_same at l = rw (head_of at l) refl

        prot_on : {at : ℕ} → Protected (IsEntry m) (is_marked g m) (PointsTo m) at → Live m at
        prot_on p = reach_map {R = IsEntry m} {R' = λ at. IsRoot m at ⊎ IsEntry m at} (λ x e. root (inr e)) (λ x y q e. inl e.1) p

        pub covered_on : (at : ℕ) → Live m at → Covered g m at → machine.Covered (view g m) at
        covered_on at l (inl e) = inl (mark_same at l ∙ e)
        covered_on at l (inr p) = prot_map (λ x e. inr (root (entry_on x e))) (λ x y q w e. inl (mark_same x (prot_on q) ∙ w, edge_on x y e)) p

        pub covered_back : (at : ℕ) → Live m at → machine.Covered (view g m) at → Covered g m at
        covered_back at l (inl e) = inl (sym (mark_same at l) ∙ e)
        covered_back at l (inr p) = prot_map (λ x e. inr (root (entry_back x e))) (λ x y q w e. inl (sym (mark_same x (live_back (prot_live (view g m) q))) ∙ w, edge_back x y e)) p

-- ---- what is live after a change of words was live before

pub root_was : (m m' : Mem) → ((k : ℕ) → state m k ≡ absent → state m' k ≡ absent) → ((k i : ℕ) → i < root_count → fields.root m' k i ≡ fields.root m k i) → (x : ℕ) → IsRoot m' x → IsRoot m x
root_was m m' h e x r =
    record
    { mutator = r.mutator; index = r.index; few = r.few; within = r.within; attached = λ z. r.attached (h r.mutator z); names = sym (e r.mutator r.index r.within) ∙ r.names }

pub entry_was : (m m' : Mem) → trace_count m' ≡ trace_count m → ((i : ℕ) → trace_word m' i ≡ trace_word m i) → (x : ℕ) → IsEntry m' x → IsEntry m x
entry_was m m' c e x r = record { index = r.index; within = subst (λ z. r.index < z) c r.within; names = sym (e r.index) ∙ r.names }

pub edge_was : (m m' : Mem) → ((i : ℕ) → heap_word m' i ≡ heap_word m i) → (x y : ℕ) → PointsTo m' x y → PointsTo m x y
edge_was m m' e x y r = record { field = r.field; within = subst (λ s. r.field < pointer_count_of s) (shape_by m m' x (e x)) r.within; names = sym (e (x + 1 + r.field)) ∙ r.names }

pub live_was : (m m' : Mem) → ((x : ℕ) → IsRoot m' x → IsRoot m x) → ((x : ℕ) → IsEntry m' x → IsEntry m x) → ((x y : ℕ) → PointsTo m' x y → PointsTo m x y) → {x : ℕ} → Live m' x → Live m x
live_was m m' r e d p = reach_map {R = λ x. IsRoot m' x ⊎ IsEntry m' x} {R' = λ x. IsRoot m x ⊎ IsEntry m x} base (λ x y q z. inl (d x y z)) p
  where
    base : (x : ℕ) → IsRoot m' x ⊎ IsEntry m' x → Live m x
    base x (inl q) = root (inl (r x q))
    base x (inr q) = root (inr (e x q))
