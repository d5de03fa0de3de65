-- The root sets of the searches: roots of attached mutators, one mutator more at a time, and entries of the trace stack; and the lengths of what is
-- read.
use mathlib.Core.Path.{◌≡◌, sym, ap, ◌∙◌, subst}
use mathlib.Core.Logic.{◌⊎◌, inl, inr, ⊎_elim}
use mathlib.Core.List.{List}
use Prim.Native.Nat.{ℕ, suc, ◌+◌, ◌-◌, ◌^◌, ◌≤◌, ◌<◌}
use native.Mathlib.Numerals.{add-one}
use native.Mathlib.Omega.{arith}
use lib.ListN.{length, get_or, get_or-eq_default}
use Rattle.std.specs.Prelude.{Option, Some, None}
use Rattle.basics.proofs.Order.{same_or_not}
use Rattle.words.proofs.Counts.{lt_of}
use Rattle.layout.specs.declared.Geometry.{Geometry}
use Rattle.layout.specs.Geometry.{Sized, len, max_segments, mutator_count}
use Rattle.layout.specs.Mem.{Mem, mem_of}
use Rattle.layout.proofs.Sizes.{trace_most, heap_most}
use Rattle.model.specs.Fields.{trace_count}
use Rattle.model.specs.Records.{pointer_count}
use Rattle.model.specs.Reaching.{IsRoot, IsEntry, PointsTo}
use Rattle.model.specs.Consistent.{RecordOk}
use Rattle.model_laws.proofs.Lengths.{sizes_of}
use Rattle.model_laws.proofs.Apart.{field_inside}
use Rattle.graph_search.specs.Walk.{State, Valid, Run}
use Rattle.graph_search.proofs.Walking.{run_still}
use Rattle.examine_search.specs.declared.Source.{Source}
use Rattle.examine_search.specs.declared.Source.TheVariants.{Roots, Pointers, Entries}
use Rattle.examine_search.specs.Graph.{records_of, length_of, InRun, RootOf, RootBelow, PointedBy, Seeds, SeedBelow, ByEntry, EntryCount}
use Rattle.examine_search.specs.Scratch.{state_of, Came}
use Rattle.examine_search.proofs.Steps.{came_then, came_same, came_fails}
use Rattle.layout.specs.Region as Region

-- what is read has few words
pub length_most : (s : Source) (g : Geometry) → g.segments ≤ max_segments → length_of s g ≤ 2 ^ 21
length_most Roots g l = omega arith
length_most Pointers g l = heap_most g l
length_most Entries g l = let h = trace_most g l in omega arith

-- ---- roots

module _ (m : Mem) (k x : ℕ) where
  up : RootBelow m k x → RootBelow m (k + 1) x
  up q = record { mutator = q.mutator; few = omega (arith, q.few); names = q.names }

  here : RootOf m k x → RootBelow m (k + 1) x
  here q = record { mutator = k; few = omega arith; names = q }

  split : RootBelow m (k + 1) x → RootBelow m k x ⊎ RootOf m k x
  split q =
      ⊎_elim (λ e. inr (subst (λ (r : ℕ). RootOf m r x) e q.names))
      (λ e. inl (record { mutator = q.mutator; few = lt_of (subst (λ (z : ℕ). q.mutator < z) (add-one k) q.few) e; names = q.names }))
      (same_or_not q.mutator k)

module _ (g : Geometry) (m : Mem) (s : State) where
  pub roots_none : Valid (records_of g m) s → Run (records_of g m) (RootBelow m 0) s s
  roots_none f = run_still f (λ x q. absurd (omega (arith, q.few)))

  -- the roots of one mutator more
  pub roots_more : (k t : ℕ) (r : Option ℕ) (before after : List ℕ) → Came g m (RootBelow m k) s (Some t) before → Came g m (RootOf m k) (state_of g before t) r after → Came g m (RootBelow m (k + 1)) s r after
  roots_more k t r before after c e = came_then g m s (up m k) (here m k) (split m k) t r before after c e

  -- the roots of all mutators
  pub roots_all : (met : Option ℕ) (after : List ℕ) → Came g m (RootBelow m mutator_count) s met after → Came g m (IsRoot m) s met after
  roots_all met after c =
      came_same g m s
      (λ x q. record { mutator = q.mutator; index = q.names.1.index; few = q.few; within = q.names.1.within; attached = q.names.0; names = q.names.1.names })
      (λ x q. record { mutator = q.mutator; few = q.few; names = (q.attached, record { index = q.index; within = q.within; names = q.names }) })
      met after c

  -- roots, and then the entries
  pub roots_entries : (t : ℕ) (r : Option ℕ) (before after : List ℕ) → Came g m (IsRoot m) s (Some t) before → Came g m (IsEntry m) (state_of g before t) r after → Came g m (λ at. IsRoot m at ⊎ IsEntry m at) s r after
  roots_entries t r before after c e = came_then g m s (λ x q. inl q) (λ x q. inr q) (λ x q. q) t r before after c e

-- ---- entries

-- the words of the trace stack past its end name nothing
module _ (g : Geometry) (l : List ℕ) (z : Sized g (length l)) (s : State) (n : ℕ) (e : EntryCount g (mem_of g l) n) where
  below : (x : ℕ) (q : IsEntry (mem_of g l) x) → q.index < n
  below x q = ⊎_elim (λ h. h) (λ h. absurd (off h)) (e.all q.index q.within)
    where
      off : len g Region.trace ≤ q.index → ⊥
      off h =
          let y : get_or (mem_of g l).trace q.index 0 ≡ 0 = get_or-eq_default (mem_of g l).trace 0 (subst (λ k. k ≤ q.index) (sym (sizes_of g l z).trace) h) in
          let w = q.names in
          omega arith

  pub entries_all : (met : Option ℕ) (after : List ℕ) → Came g (mem_of g l) (InRun (mem_of g l).trace 0 n) s met after → Came g (mem_of g l) (IsEntry (mem_of g l)) s met after
  entries_all met after c =
      came_same g (mem_of g l) s
      (λ x q. record { index = q.index; within = let a = q.within in let b = e.few in omega arith; names = ap (λ i. get_or (mem_of g l).trace i 0) (omega arith) ∙ q.names })
      (λ x q. record { index = q.index; within = below x q; names = ap (λ i. get_or (mem_of g l).trace i 0) (omega arith) ∙ q.names })
      met after c

  -- all entries, and what they name
  pub seeds_all : (met : Option ℕ) (after : List ℕ) → Came g (mem_of g l) (SeedBelow (mem_of g l) n) s met after → Came g (mem_of g l) (ByEntry (mem_of g l)) s met after
  seeds_all met after c = came_same g (mem_of g l) s to from met after c
    where
      to : (x : ℕ) → SeedBelow (mem_of g l) n x → ByEntry (mem_of g l) x
      to x q = go q.seed
        where
          few : q.index < trace_count (mem_of g l)
          few = let a = q.few in let b = e.few in omega arith

          go : Seeds (mem_of g l) (get_or (mem_of g l).trace q.index 0) x → ByEntry (mem_of g l) x
          go (inl w) = inl (record { index = q.index; within = few; names = w })
          go (inr w) = inr (w.0, record { index = q.index; within = few; names = w.1 }, w.2)

      from : (x : ℕ) → ByEntry (mem_of g l) x → SeedBelow (mem_of g l) n x
      from x (inl q) = record { index = q.index; few = below x q; seed = inl q.names }
      from x (inr q) = record { index = q.1.index; few = below q.0 q.1; seed = inr (q.0, q.1.names, q.2) }

-- ---- entries and what they name

-- the pointers of a record lie within the heap
pub pointers_room : (g : Geometry) (m : Mem) (at n : ℕ) → RecordOk g m at → n ≡ pointer_count m at → at + 1 + n ≤ len g Region.heap
pointers_room g m at n ok e = let l = field_inside g m at ok (pointer_count m at) (omega arith) in omega arith

-- the pointers of the record that a word names
module _ (g : Geometry) (m : Mem) (s : State) (w : ℕ) where
  pub pointed_none : w ≡ 0 → Valid (records_of g m) s → Run (records_of g m) (PointedBy m w) s s
  pointed_none z f = run_still f (λ x q. absurd (let y = q.1 in omega arith))

  pub pointed_run : (w ≡ 0 → ⊥) → (n : ℕ) → n ≡ pointer_count m (w - 1) → (met : Option ℕ) (after : List ℕ) → Came g m (InRun m.heap (w - 1 + 1) n) s met after → Came g m (PointedBy m w) s met after
  pointed_run d n en met after c =
      came_same g m s
      (λ x q. (w - 1, omega arith, record { field = q.index; within = subst (λ (k : ℕ). q.index < k) en q.within; names = q.names }))
      (λ x q. back x q.0 q.1 q.2)
      met after c
    where
      back : (x e : ℕ) → w ≡ suc e → PointsTo m e x → InRun m.heap (w - 1 + 1) n x
      back x e y p =
          let h : e ≡ w - 1 = omega arith in
          let r = subst (λ (k : ℕ). PointsTo m k x) h p in
          record { index = r.field; within = subst (λ (k : ℕ). r.field < k) (sym en) r.within; names = r.names }

-- a word, then the pointers of what it names
module _ (g : Geometry) (m : Mem) (w : ℕ) where
  pub seed_ok : (s : State) (t : ℕ) (mid : List ℕ) → Came g m (λ x. w ≡ suc x) s (Some t) mid → Valid (records_of g m) (state_of g mid t) × ((x : ℕ) → w ≡ suc x → RecordOk g m x)
  seed_ok s t mid c = (c.valid, λ x q. (c.all x q).0)

  pub seed_then : (s : State) (t : ℕ) (r : Option ℕ) (mid after : List ℕ) → Came g m (λ x. w ≡ suc x) s (Some t) mid → Came g m (PointedBy m w) (state_of g mid t) r after → Came g m (Seeds m w) s r after
  seed_then s t r mid after c e = came_then g m s (λ x q. inl q) (λ x q. inr q) (λ x q. q) t r mid after c e

module _ (m : Mem) (k x : ℕ) where
  seed_up : SeedBelow m k x → SeedBelow m (k + 1) x
  seed_up q = record { index = q.index; few = omega (arith, q.few); seed = q.seed }

  seed_here : Seeds m (get_or m.trace k 0) x → SeedBelow m (k + 1) x
  seed_here q = record { index = k; few = omega arith; seed = q }

  seed_split : SeedBelow m (k + 1) x → SeedBelow m k x ⊎ Seeds m (get_or m.trace k 0) x
  seed_split q =
      ⊎_elim (λ e. inr (subst (λ (r : ℕ). Seeds m (get_or m.trace r 0) x) e q.seed))
      (λ e. inl (record { index = q.index; few = lt_of (subst (λ (z : ℕ). q.index < z) (add-one k) q.few) e; seed = q.seed }))
      (same_or_not q.index k)

module _ (g : Geometry) (m : Mem) (s : State) where
  pub seeds_none : Valid (records_of g m) s → Run (records_of g m) (SeedBelow m 0) s s
  seeds_none f = run_still f (λ x q. absurd (omega (arith, q.few)))

  -- one entry more
  pub seeds_more : (k w : ℕ) → w ≡ get_or m.trace k 0 → (t : ℕ) (r : Option ℕ) (before after : List ℕ) → Came g m (SeedBelow m k) s (Some t) before
      → Came g m (Seeds m w) (state_of g before t) r after → Came g m (SeedBelow m (k + 1)) s r after
  seeds_more k w e t r before after c q =
      came_then g m s (seed_up m k) (seed_here m k) (seed_split m k) t r before after c (subst (λ (z : ℕ). Came g m (Seeds m z) (state_of g before t) r after) e q)

  pub seeds_fail : (k n : ℕ) → k < n → (after : List ℕ) → Came g m (SeedBelow m (k + 1)) s None after → Came g m (SeedBelow m n) s None after
  seeds_fail k n l after c = came_fails g m s (λ x q. record { index = q.index; few = omega (arith, q.few); seed = q.seed }) after c after
