-- A record's shape and fields by the words that they are.
use mathlib.Core.Path.{◌≡◌, sym, ◌∙◌, ap}
use Prim.Native.Nat.{ℕ, ◌+◌, ◌<◌}
use native.Mathlib.Omega.{arith}
use Rattle.classes.specs.Record.{pointer_count_of, value_count_of}
use Rattle.model_laws.proofs.Headers.{shape_by}
use Rattle.layout.specs.Mem.{Mem, heap_word}
use Rattle.theory.specs.TraceStack.{tab}
use Rattle.model.specs.Records.{pointer_count, value_count, pointer, value}
use Rattle.refine_view.specs.View.{values_of}
use Rattle.theory.proofs.Updates.{tab_same}

-- where the header at x stays, and that word stays
module _ (m m' : Mem) (x : ℕ) (e : heap_word m' x ≡ heap_word m x) where
  abbrev Stays : ℕ → Type 0
  Stays i = heap_word m' (x + i) ≡ heap_word m (x + i)

  pub pointers_by : pointer_count m' x ≡ pointer_count m x
  pointers_by = ap pointer_count_of (shape_by m m' x e)

  pub values_by : value_count m' x ≡ value_count m x
  values_by = ap value_count_of (shape_by m m' x e)

  pub pointer_by : (f : ℕ) → Stays (1 + f) → pointer m' x f ≡ pointer m x f
  pointer_by f h = let z : x + 1 + f ≡ x + (1 + f) = omega arith in ap (heap_word m') z ∙ h ∙ ap (heap_word m) (sym z)

  pub value_by : (f : ℕ) → Stays (1 + pointer_count m x + f) → value m' x f ≡ value m x f
  value_by f h =
      let z : x + 1 + pointer_count m x + f ≡ x + (1 + pointer_count m x + f) = omega arith in
      ap (λ n. heap_word m' (x + 1 + n + f)) pointers_by ∙ ap (heap_word m') z ∙ h ∙ ap (heap_word m) (sym z)

  pub fields_by : ((f : ℕ) → f < value_count m x → Stays (1 + pointer_count m x + f)) → values_of m' x ≡ values_of m x
  fields_by h = ap (λ n. tab n (value m' x)) values_by ∙ tab_same (value_count m x) (value m' x) (value m x) (λ f l. value_by f (h f l))
