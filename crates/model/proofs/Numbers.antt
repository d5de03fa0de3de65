-- Which numbers a call may give: the lowest of 2 to 9 that applies, 1 and 13, and none that is not of the table, nor 12.
use mathlib.Core.Path.{◌≡◌, refl, sym, subst}
use mathlib.Core.Bool.{Bool, true, false, not, ◌&&◌, true≢false}
use mathlib.Core.Option.{Option, none, some}
use mathlib.Core.Logic.{◌⊎◌, inl, inr}
use mathlib.Core.List.{List, [], ◌∷◌}
use Prim.Native.Nat.{ℕ, ◌≤◌}
use native.Mathlib.Omega.{arith}
use lib.Dec.{T, eqb, eqb→eq}
use borrow.Author.Tests.{eqb-true}
use Rattle.classes.specs.declared.RecordShape.{RecordShape}
use Rattle.basics.specs.Pick.{pick}
use Rattle.basics.proofs.Table.{and_left, and_right}
use Rattle.theory.specs.Calls.{Call, c_attach, c_detach, c_check, c_leave, c_enter, c_spawn, c_make, c_load, c_store, c_copy, c_clear, c_put, c_get}
use Rattle.theory.specs.Calls.{c_same, c_shape, Observation, require, if_record, if_inside, if_root, refusal}
use Rattle.model.specs.Answers.{among, last_number, own_numbers, may_give}
use Rattle.model.specs.Refusals.{number_of, refusal_numbered}
use Rattle.model.proofs.Refusals.{in_table}

-- no refusal, or a number of the list that is not 1
pub record Among (ns : List ℕ) (n : ℕ) : Type 0 where
  pub either : (n ≡ 0) ⊎ ((among n ns ≡ true) × (2 ≤ n))

require_among : (ns : List ℕ) (b : Bool) (n rest : ℕ) → (among n ns ≡ true) × (2 ≤ n) → Among ns rest → Among ns (require b n rest)
unfolding require
require_among ns true n rest a r = r
require_among ns false n rest a r = record { either = inr a }

record_among : (ns : List ℕ) (o : Option RecordShape) (rest : RecordShape → ℕ) → among 7 ns ≡ true → ((s : RecordShape) → Among ns (rest s)) → Among ns (if_record o rest)
unfolding if_record
record_among ns none rest a r = record { either = inr (a, omega arith) }
record_among ns (some s) rest a r = r s

no_refusal : (ns : List ℕ) → Among ns 0
no_refusal ns = record { either = inl refl }

inside_among : (ns : List ℕ) (F : Observation) (k rest : ℕ) → (among 2 ns ≡ true) × (among 4 ns ≡ true) × (among 5 ns ≡ true) → Among ns rest → Among ns (if_inside F k rest)
inside_among ns F k rest a r =
    require_among ns _ 2 _ (a.0, omega arith) (require_among ns _ 4 _ (a.1, omega arith) (require_among ns _ 5 _ (a.2, omega arith) r))

root_among : (ns : List ℕ) (i rest : ℕ) → among 6 ns ≡ true → Among ns rest → Among ns (if_root i rest)
root_among ns i rest a r = require_among ns _ 6 rest (a, omega arith) r

field_among : (ns : List ℕ) (b : Bool) → among 8 ns ≡ true → Among ns (require b 8 0)
field_among ns b a = require_among ns b 8 0 (a, omega arith) (no_refusal ns)

pub refusal_among : (F : Observation) (c : Call) → Among (may_give c) (refusal F c)
refusal_among F (c_attach i) = require_among _ _ 2 _ (refl, omega arith) (require_among _ _ 3 _ (refl, omega arith) (no_refusal _))
refusal_among F (c_spawn i p k) =
    require_among _ _ 2 _ (refl, omega arith)
    (require_among _ _ 2 _ (refl, omega arith)
    (require_among _ _ 3 _ (refl, omega arith) (require_among _ _ 4 _ (refl, omega arith) (require_among _ _ 5 _ (refl, omega arith) (root_among _ k _ refl (no_refusal _))))))
refusal_among F (c_detach i) = inside_among _ F i _ (refl, refl, refl) (no_refusal _)
refusal_among F (c_check i) = inside_among _ F i _ (refl, refl, refl) (no_refusal _)
refusal_among F (c_leave i) = inside_among _ F i _ (refl, refl, refl) (no_refusal _)
refusal_among F (c_enter i) = require_among _ _ 2 _ (refl, omega arith) (require_among _ _ 4 _ (refl, omega arith) (require_among _ _ 5 _ (refl, omega arith) (no_refusal _)))
refusal_among F (c_make i d p n) = inside_among _ F i _ (refl, refl, refl) (root_among _ d _ refl (require_among _ _ 9 _ (refl, omega arith) (no_refusal _)))
refusal_among F (c_load i d s f) = inside_among _ F i _ (refl, refl, refl) (root_among _ d _ refl (root_among _ s _ refl (record_among _ _ _ refl (λ s. field_among _ _ refl))))
refusal_among F (c_store i s f t) = inside_among _ F i _ (refl, refl, refl) (root_among _ s _ refl (root_among _ t _ refl (record_among _ _ _ refl (λ s. field_among _ _ refl))))
refusal_among F (c_copy i d s) = inside_among _ F i _ (refl, refl, refl) (root_among _ d _ refl (root_among _ s _ refl (no_refusal _)))
refusal_among F (c_clear i d) = inside_among _ F i _ (refl, refl, refl) (root_among _ d _ refl (no_refusal _))
refusal_among F (c_put i s k v) = inside_among _ F i _ (refl, refl, refl) (root_among _ s _ refl (record_among _ _ _ refl (λ s. field_among _ _ refl)))
refusal_among F (c_get i s k) = inside_among _ F i _ (refl, refl, refl) (root_among _ s _ refl (record_among _ _ _ refl (λ s. field_among _ _ refl)))
refusal_among F (c_same i s t) = inside_among _ F i _ (refl, refl, refl) (root_among _ s _ refl (root_among _ t _ refl (no_refusal _)))
refusal_among F (c_shape i s) = inside_among _ F i _ (refl, refl, refl) (root_among _ s _ refl (record_among _ _ _ refl (λ s. no_refusal _)))

pub gives_1 : (c : Call) → among 1 (may_give c) ≡ true
gives_1 c = refl

pub gives_13 : (c : Call) → among 13 (may_give c) ≡ true
gives_13 c = refl

pub one_of : (ns : List ℕ) (n : ℕ) → (n ≡ 0 → ⊥) → Among ns n → (among n ns ≡ true) × (2 ≤ n)
one_of ns n f a = go a.either
  where
    go : (n ≡ 0) ⊎ ((among n ns ≡ true) × (2 ≤ n)) → (among n ns ≡ true) × (2 ≤ n)
    go (inl z) = absurd (f z)
    go (inr b) = b

-- ---- a number that a call may give is a refusal's: one of the table, and not 12

abbrev pub OfTable : ℕ → Type 0
OfTable n = (1 ≤ n) × (n ≤ last_number)

abbrev pub Given : ℕ → Type 0
Given n = OfTable n × (n ≡ 12 → ⊥)

abbrev is_given : ℕ → Bool
is_given x = eqb (number_of (refusal_numbered x)) x && not (eqb x 12)

abbrev pub all_given : List ℕ → Bool
all_given [] = true
all_given (x ∷ xs) = is_given x && all_given xs

among_is : (n : ℕ) (xs : List ℕ) → T (all_given xs) → among n xs ≡ true → T (is_given n)
among_is n [] t e = absurd (true≢false (sym e))
among_is n (x ∷ xs) t e = go (eqb n x) refl e (among_is n xs (and_right (is_given x) (all_given xs) t))
  where
    go : (b : Bool) → eqb n x ≡ b → pick b true (among n xs) ≡ true → (among n xs ≡ true → T (is_given n)) → T (is_given n)
    go true q f rest = subst (λ y. T (is_given y)) (sym (eqb-true n x q)) (and_left (is_given x) (all_given xs) t)
    go false q f rest = rest f

pub among_numbered : (n : ℕ) (xs : List ℕ) → T (all_given xs) → among n xs ≡ true → number_of (refusal_numbered n) ≡ n
among_numbered n xs t e = eqb→eq _ n (and_left (eqb (number_of (refusal_numbered n)) n) (not (eqb n 12)) (among_is n xs t e))

pub among_given : (n : ℕ) (xs : List ℕ) → T (all_given xs) → among n xs ≡ true → Given n
among_given n xs t e = (
  subst OfTable (among_numbered n xs t e) (in_table (refusal_numbered n)),
  λ q. subst (λ y. T (not (eqb y 12))) q (and_right (eqb (number_of (refusal_numbered n)) n) (not (eqb n 12)) (among_is n xs t e)),
)

pub among_table : (n : ℕ) (xs : List ℕ) → T (all_given xs) → among n xs ≡ true → OfTable n
among_table n xs t e = (among_given n xs t e).0

all_given_lem : (c : Call) → T (all_given (own_numbers c))
all_given_lem (c_attach k) = tt
all_given_lem (c_spawn k p i) = tt
all_given_lem (c_detach k) = tt
all_given_lem (c_check k) = tt
all_given_lem (c_leave k) = tt
all_given_lem (c_enter k) = tt
all_given_lem (c_make k d p n) = tt
all_given_lem (c_load k d i f) = tt
all_given_lem (c_store k i f j) = tt
all_given_lem (c_copy k d i) = tt
all_given_lem (c_clear k d) = tt
all_given_lem (c_put k i f v) = tt
all_given_lem (c_get k i f) = tt
all_given_lem (c_same k i j) = tt
all_given_lem (c_shape k i) = tt

pub may_numbered : (n : ℕ) (c : Call) → among n (may_give c) ≡ true → number_of (refusal_numbered n) ≡ n
may_numbered n c e = among_numbered n (may_give c) (all_given_lem c) e

pub may_given : (n : ℕ) (c : Call) → among n (may_give c) ≡ true → Given n
may_given n c e = among_given n (may_give c) (all_given_lem c) e

pub may_table : (n : ℕ) (c : Call) → among n (may_give c) ≡ true → OfTable n
may_table n c e = (may_given n c e).0
