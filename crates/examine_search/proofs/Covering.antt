-- What the search finds by the bits alone: covered is by an entry, by what an entry names, and on through records whose bit is 0; and the pointers of
-- a record with a bit are covered where those of a marked one are.
use mathlib.Core.Path.{◌≡◌, refl, ap}
use mathlib.Core.Logic.{◌⊎◌, inl, inr}
use mathlib.Core.Bool.{Bool, true, false}
use Prim.Native.Nat.{ℕ}
use lib.Dec.{eqb}
use borrow.Author.Tests.{eq-eqb, eqb-true, eqb-false}
use Rattle.layout.specs.Geometry.{mark_bit}
use Rattle.words.proofs.Word.{zero_of_not_one}
use Rattle.words.proofs.Lists.{at_lt}
use Rattle.layout.specs.declared.Geometry.{Geometry}
use Rattle.layout.specs.Mem.{Mem}
use Rattle.theory.specs.Reach.{Protected, root, next}
use Rattle.theory.proofs.Graph.{reach_ind}
use Rattle.model.specs.Records.{entered, marked}
use Rattle.model.specs.Reaching.{IsEntry, PointsTo, Live, Covered, is_marked}
use Rattle.model_laws.proofs.Marked.{entry_unmarked, entered_as, marked_entered, unentered}
use Rattle.examine_search.specs.Graph.{ByEntry}

abbrev pub is_entered : Geometry → Mem → ℕ → Bool
is_entered g m at = eqb (entered g m at) 1

module _ (g : Geometry) (m : Mem) where
  entry_white : (x : ℕ) → IsEntry m x → is_marked g m x ≡ false
  entry_white x e = ap (λ z. eqb z 1) (entry_unmarked g m x e)

  pub by_bits : {x : ℕ} → Protected (IsEntry m) (is_marked g m) (PointsTo m) x → Protected (ByEntry m) (is_entered g m) (PointsTo m) x
  by_bits p = reach_ind (Protected (ByEntry m) (is_entered g m) (PointsTo m)) (λ x e. root (inl e)) (λ x y q ih w. go x y ih w (is_entered g m x) refl) p
    where
      go : (x y : ℕ) → Protected (ByEntry m) (is_entered g m) (PointsTo m) x → (is_marked g m x ≡ false) × PointsTo m x y → (b : Bool)
          → is_entered g m x ≡ b → Protected (ByEntry m) (is_entered g m) (PointsTo m) y
      go x y ih w false e = next ih (e, w.1)
      go x y ih w true e = known (entered_as g m x (eqb-true _ _ e))
        where
          known : IsEntry m x ⊎ (marked g m x ≡ 1) → Protected (ByEntry m) (is_entered g m) (PointsTo m) y
          known (inl n) = root (inr (x, n, w.1))
          known (inr n) = absurd (eqb-false _ _ w.0 n)

  pub by_marks : {x : ℕ} → Protected (ByEntry m) (is_entered g m) (PointsTo m) x → Protected (IsEntry m) (is_marked g m) (PointsTo m) x
  by_marks p = reach_ind (Protected (IsEntry m) (is_marked g m) (PointsTo m)) first (λ x y q ih w. next ih (white x w.0, w.1)) p
    where
      first : (x : ℕ) → ByEntry m x → Protected (IsEntry m) (is_marked g m) (PointsTo m) x
      first x (inl e) = root e
      first x (inr n) = next (root n.1) (entry_white n.0 n.1, n.2)

      white : (x : ℕ) → is_entered g m x ≡ false → is_marked g m x ≡ false
      white x e = ap (λ z. eqb z 1) (unentered g m x (zero_of_not_one _ (at_lt m.marks (mark_bit x)) (eqb-false _ _ e)))

  -- covered, by the bits
  pub covered_bits : (x : ℕ) → Covered g m x → (entered g m x ≡ 1) ⊎ Protected (ByEntry m) (is_entered g m) (PointsTo m) x
  covered_bits x (inl e) = inl (marked_entered g m x (eqb-true _ _ e))
  covered_bits x (inr p) = inr (by_bits p)

  pub bits_covered : (x : ℕ) → (entered g m x ≡ 1) ⊎ Protected (ByEntry m) (is_entered g m) (PointsTo m) x → Covered g m x
  bits_covered x (inr p) = inr (by_marks p)
  bits_covered x (inl e) = go (entered_as g m x e)
    where
      go : IsEntry m x ⊎ (marked g m x ≡ 1) → Covered g m x
      go (inl n) = inr (root n)
      go (inr n) = inl (eq-eqb _ _ n)

  -- the tricolour invariant's second half, of every live record that has its bit
  pub edges_bits : ((x y : ℕ) → Live m x → marked g m x ≡ 1 → PointsTo m x y → Covered g m y) → (x y : ℕ) → Live m x → entered g m x ≡ 1 → PointsTo m x y → Covered g m y
  edges_bits h x y l e p = go (entered_as g m x e)
    where
      go : IsEntry m x ⊎ (marked g m x ≡ 1) → Covered g m y
      go (inl n) = inr (next (root n) (entry_white x n, p))
      go (inr n) = h x y l n p

  pub bits_edges : ((x y : ℕ) → Live m x → entered g m x ≡ 1 → PointsTo m x y → Covered g m y) → (x y : ℕ) → Live m x → marked g m x ≡ 1 → PointsTo m x y → Covered g m y
  bits_edges h x y l e p = h x y l (marked_entered g m x e) p
