-- A record's bit says that it is marked or on the trace stack, and the stack which of the two.
use mathlib.Core.Path.{◌≡◌, refl, sym, ◌∙◌, ap, ap₂}
use mathlib.Core.Logic.{◌⊎◌, inl, inr}
use mathlib.Core.Bool.{Bool, true, false, ◌||◌, true≢false}
use mathlib.Core.List.{List}
use Prim.Native.Nat.{ℕ, zero, suc, ◌<◌}
use native.Mathlib.Omega.{arith}
use lib.Dec.{eqb}
use lib.ListN.{get_or}
use borrow.Author.Tests.{eq-eqb, ne_eqb, eqb-true}
use Rattle.layout.specs.Geometry.{mark_bit}
use Rattle.basics.specs.Pick.{pick}
use Rattle.basics.proofs.Order.{same_or_not}
use Rattle.words.proofs.Counts.{lt_of}
use Rattle.words.proofs.Lists.{at_lt}
use Rattle.layout.specs.declared.Geometry.{Geometry}
use Rattle.layout.specs.Mem.{Mem}
use Rattle.model.specs.Fields.{trace_count}
use Rattle.model.specs.Records.{entered, on_stack, marked}
use Rattle.model.specs.Reaching.{IsEntry}

-- ---- on the stack

pub on_stack_lem : (ts : List ℕ) (n i at : ℕ) → i < n → get_or ts i 0 ≡ suc at → on_stack ts n at ≡ true
unfolding on_stack
on_stack_lem ts zero i at l e = absurd (omega arith)
on_stack_lem ts (suc n) i at l e = go (same_or_not i n) (λ h. on_stack_lem ts n i at h e)
  where
    or_right : (a : Bool) {b : Bool} → b ≡ true → (a || b) ≡ true
    or_right true h = refl
    or_right false h = h

    go : (i ≡ n) ⊎ (i ≡ n → ⊥) → (i < n → on_stack ts n at ≡ true) → (eqb (get_or ts n 0) (suc at) || on_stack ts n at) ≡ true
    go (inl q) ih = rw (eq-eqb (get_or ts n 0) (suc at) (ap (λ z. get_or ts z 0) (sym q) ∙ e)) refl
    go (inr q) ih = or_right (eqb (get_or ts n 0) (suc at)) (ih (lt_of l q))

pub stack_at : (ts : List ℕ) (n at : ℕ) → on_stack ts n at ≡ true → (i : ℕ) × (i < n) × (get_or ts i 0 ≡ suc at)
unfolding on_stack
stack_at ts zero at e = absurd (true≢false (sym e))
stack_at ts (suc n) at e = go (eqb (get_or ts n 0) (suc at)) refl e (λ h. stack_at ts n at h)
  where
    up : (i : ℕ) × (i < n) × (get_or ts i 0 ≡ suc at) → (i : ℕ) × (i < suc n) × (get_or ts i 0 ≡ suc at)
    up x = let l : x.0 < n = x.1 in (x.0, omega arith, x.2)

    go : (b : Bool) → eqb (get_or ts n 0) (suc at) ≡ b → (b || on_stack ts n at) ≡ true
        → (on_stack ts n at ≡ true → (i : ℕ) × (i < n) × (get_or ts i 0 ≡ suc at)) → (i : ℕ) × (i < suc n) × (get_or ts i 0 ≡ suc at)
    go true q h ih = (n, omega arith, eqb-true _ _ q)
    go false q h ih = up (ih h)

-- the stack reads its entries only
pub stack_same : (ts us : List ℕ) (n at : ℕ) → ((i : ℕ) → i < n → get_or us i 0 ≡ get_or ts i 0) → on_stack us n at ≡ on_stack ts n at
unfolding on_stack
stack_same ts us zero at h = refl
stack_same ts us (suc n) at h = ap₂ (λ w b. eqb w (suc at) || b) (h n (omega arith)) (stack_same ts us n at (λ i l. h i (omega arith)))

-- one entry more, of another record
pub stack_other : (ts : List ℕ) (n at : ℕ) → (get_or ts n 0 ≡ suc at → ⊥) → on_stack ts (suc n) at ≡ on_stack ts n at
unfolding on_stack
stack_other ts n at f = rw (ne_eqb (get_or ts n 0) (suc at) f) refl

-- ---- marked

module _ (g : Geometry) (m : Mem) (at : ℕ) where
  abbrev stacked : Bool
  stacked = on_stack m.trace (trace_count m) at

  pub entry_stacked : IsEntry m at → stacked ≡ true
  entry_stacked e = on_stack_lem m.trace (trace_count m) e.index at e.within e.names

  pub stacked_entry : stacked ≡ true → IsEntry m at
  stacked_entry h = let x = stack_at m.trace (trace_count m) at h in record { index = x.0; within = x.1; names = x.2 }

  -- "Entering .. a marked record, or one already on the stack": an entry is not marked
  pub entry_unmarked : IsEntry m at → marked g m at ≡ 0
  entry_unmarked e = rw (entry_stacked e) refl

  pub stacked? : IsEntry m at ⊎ (stacked ≡ false)
  stacked? = go stacked refl
    where
      go : (b : Bool) → stacked ≡ b → IsEntry m at ⊎ (stacked ≡ false)
      go true e = inl (stacked_entry e)
      go false e = inr e

  pub off_stack : stacked ≡ false → marked g m at ≡ entered g m at
  off_stack e = rw e refl

  -- with nothing on the stack, what has a bit is marked
  pub all_marked : trace_count m ≡ 0 → marked g m at ≡ entered g m at
  unfolding on_stack
  all_marked e = rw e refl

  pub marked_lt : marked g m at < 2
  marked_lt = go stacked
    where
      go : (b : Bool) → pick b 0 (entered g m at) < 2
      go true = omega arith
      go false = at_lt m.marks (mark_bit at)

  -- a bit that is 1 is of an entry or of a marked record, and no other
  pub entered_as : entered g m at ≡ 1 → IsEntry m at ⊎ (marked g m at ≡ 1)
  entered_as e = go stacked?
    where
      go : IsEntry m at ⊎ (stacked ≡ false) → IsEntry m at ⊎ (marked g m at ≡ 1)
      go (inl x) = inl x
      go (inr f) = inr (off_stack f ∙ e)

  pub marked_entered : marked g m at ≡ 1 → entered g m at ≡ 1
  marked_entered e = go stacked?
    where
      go : IsEntry m at ⊎ (stacked ≡ false) → entered g m at ≡ 1
      go (inl x) = absurd (let z = entry_unmarked x in omega arith)
      go (inr f) = sym (off_stack f) ∙ e

  pub unentered : entered g m at ≡ 0 → marked g m at ≡ 0
  unentered e = go stacked
    where
      go : (b : Bool) → pick b 0 (entered g m at) ≡ 0
      go true = refl
      go false = e

-- by the words that it is read from
pub marked_by : (g : Geometry) (m m' : Mem) (at : ℕ) → m'.marks ≡ m.marks → m'.trace ≡ m.trace → trace_count m' ≡ trace_count m → marked g m' at ≡ marked g m at
marked_by g m m' at a t n = rw (a, t, n) refl
