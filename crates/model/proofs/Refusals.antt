-- A refusal's number: it is one of the table, and leads back to its refusal.
use mathlib.Core.Path.{◌≡◌, refl, sym, ◌∙◌, ap}
use Prim.Native.Nat.{◌≤◌}
use native.Mathlib.Omega.{arith}
use Rattle.model.specs.declared.Refusal.{Refusal}
use Rattle.model.specs.Refusals.{number_of, refusal_numbered}
use Rattle.model.specs.declared.Refusal.TheVariants as refusal

pub in_table : (e : Refusal) → (1 ≤ number_of e) × (number_of e ≤ 13)
in_table refusal.Size = (omega arith, omega arith)
in_table refusal.Mutator = (omega arith, omega arith)
in_table refusal.Taken = (omega arith, omega arith)
in_table refusal.Absent = (omega arith, omega arith)
in_table refusal.Side = (omega arith, omega arith)
in_table refusal.Root = (omega arith, omega arith)
in_table refusal.Nil = (omega arith, omega arith)
in_table refusal.Field = (omega arith, omega arith)
in_table refusal.TooBig = (omega arith, omega arith)
in_table refusal.NoRoom = (omega arith, omega arith)
in_table refusal.NotNow = (omega arith, omega arith)
in_table refusal.NoneFull = (omega arith, omega arith)
in_table refusal.Torn = (omega arith, omega arith)

pub no_0 : (e : Refusal) → number_of e ≡ 0 → ⊥
no_0 e z = let l = (in_table e).0 in omega arith

pub numbered_back : (e : Refusal) → refusal_numbered (number_of e) ≡ e
numbered_back refusal.Size = refl
numbered_back refusal.Mutator = refl
numbered_back refusal.Taken = refl
numbered_back refusal.Absent = refl
numbered_back refusal.Side = refl
numbered_back refusal.Root = refl
numbered_back refusal.Nil = refl
numbered_back refusal.Field = refl
numbered_back refusal.TooBig = refl
numbered_back refusal.NoRoom = refl
numbered_back refusal.NotNow = refl
numbered_back refusal.NoneFull = refl
numbered_back refusal.Torn = refl

-- no two have one number
pub one_number : (e f : Refusal) → number_of e ≡ number_of f → e ≡ f
one_number e f q = sym (numbered_back e) ∙ ap refusal_numbered q ∙ numbered_back f
