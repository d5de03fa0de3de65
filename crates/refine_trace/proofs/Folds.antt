-- Pushes of a mutator's roots and of a record's pointers.
use mathlib.Core.Path.{◌≡◌, sym, subst}
use mathlib.Core.Option.{Option, some}
use mathlib.Core.List.{List, [], ◌∷◌, ◌++◌}
use Prim.Native.Nat.{ℕ, zero, suc, ◌<◌}
use native.Mathlib.Omega.{arith}
use Rattle.layout.specs.declared.Geometry.{Geometry}
use Rattle.layout.specs.Mem.{Mem}
use Rattle.theory.specs.TraceStack.{tab, pushes}
use Rattle.theory.proofs.Updates.{pushes_append}
use Rattle.model.specs.Fields.{root}
use Rattle.model.specs.Records.{record?, pointer}
use Rattle.model.specs.Tracing.{push_roots, push_pointers}
use Rattle.model.specs.Consistent.{RecordOk}
use Rattle.model_laws.proofs.Pushes.{roots_none, roots_next, pointers_none, pointers_next}
use Rattle.refine_view.specs.View.{view}
use Rattle.refine_trace.proofs.Over.{Segments}
use Rattle.refine_trace.proofs.Push.{Pushed, push_pushed}
use Rattle.model.specs.Tracing as tracing

-- pushes of a table of references by any such fold
fold_pushed : (g : Geometry) (m : Mem) → Segments g m → (h : ℕ → Mem) (r : ℕ → Option ℕ) (l : List ℕ)
    → ((n : ℕ) → h (suc n) ≡ tracing.push g (h n) (r n)) → Pushed g m (h 0) l → (n : ℕ)
    → ((i at : ℕ) → i < n → r i ≡ some at → RecordOk g m at) → Pushed g m (h n) (pushes (view g m).marked (tab n r) l)
fold_pushed g m f h r l e p zero k = p
fold_pushed g m f h r l e p (suc n) k =
    subst (λ z. Pushed g m z (pushes (view g m).marked (tab n r ++ (r n ∷ [])) l)) (sym (e n))
    (subst (λ z. Pushed g m (tracing.push g (h n) (r n)) z) (sym (pushes_append (view g m).marked (tab n r) (r n) l))
    (push_pushed g m f (h n) (pushes (view g m).marked (tab n r) l) (fold_pushed g m f h r l e p n (λ i at q. k i at (omega arith))) (r n) (λ at. k n at (omega arith))))

module _ (g : Geometry) (m : Mem) (f : Segments g m) (m' : Mem) (l : List ℕ) (p : Pushed g m m' l) where
  pub roots_pushed : (k n : ℕ) → ((i at : ℕ) → i < n → record? (root m' k i) ≡ some at → RecordOk g m at)
      → Pushed g m (push_roots g m' k n) (pushes (view g m).marked (tab n (λ i. record? (root m' k i))) l)
  roots_pushed k n r = fold_pushed g m f (push_roots g m' k) (λ i. record? (root m' k i)) l (roots_next g m' k) (subst (λ z. Pushed g m z l) (sym (roots_none g m' k)) p) n r

  pub pointers_pushed : (x n : ℕ) → ((i at : ℕ) → i < n → record? (pointer m' x i) ≡ some at → RecordOk g m at)
      → Pushed g m (push_pointers g m' x n) (pushes (view g m).marked (tab n (λ i. record? (pointer m' x i))) l)
  pointers_pushed x n r = fold_pushed g m f (push_pointers g m' x) (λ i. record? (pointer m' x i)) l (pointers_next g m' x) (subst (λ z. Pushed g m z l) (sym (pointers_none g m' x)) p) n r
