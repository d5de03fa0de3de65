-- A rule of the classes from a test that each of them passes, computed once over all; and what the test of a class says.
use mathlib.Core.Path.{◌≡◌, refl, sym, subst}
use mathlib.Core.Bool.{Bool, true, false, true≢false}
use mathlib.Core.List.{List}
use Prim.Native.Nat.{ℕ, ◌+◌, ◌-◌}
use native.Mathlib.Omega.{arith}
use lib.Dec.{T, ltb}
use lib.ListN.{replicate}
use borrow.Author.Tests.{lt-ltb, le-ltb, ltb-true, ltb-false}
use Rattle.basics.specs.Pick.{pick}
use Rattle.basics.proofs.Table.{every, every_at}
use Rattle.classes.specs.Class.{first_class, class_count, IsClass, class_test}

-- an entry for each class
abbrev entries : List ℕ
entries = replicate class_count 0

-- the test of each class
abbrev pub every_class : (ℕ → Bool) → Bool
every_class test = every (λ k x. test (first_class + k)) 0 entries

pub at_class : (test : ℕ → Bool) → T (every_class test) → (c : ℕ) → IsClass c → T (test c)
at_class test t c k =
    let e : first_class + (c - first_class) ≡ c = omega arith in
    subst (λ n. T (test n)) e (every_at (λ k x. test (first_class + k)) 0 entries t (c - first_class) (omega arith))

pub class_passes : (c : ℕ) → IsClass c → class_test c ≡ true
unfolding class_test
class_passes c k = rw (le-ltb _ _ k.0, lt-ltb _ _ k.1) refl

pub class_passed : (c : ℕ) → class_test c ≡ true → IsClass c
unfolding class_test
class_passed c e = go (ltb c first_class) refl e
  where
    go : (t : Bool) → ltb c first_class ≡ t → pick t false (ltb c (first_class + class_count)) ≡ true → IsClass c
    go true q e = absurd (true≢false (sym e))
    go false q e = (ltb-false _ _ q, ltb-true _ _ e)
