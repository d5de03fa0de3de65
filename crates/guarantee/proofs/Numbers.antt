-- The numbers of refusals: the unbounded heap's are 2 to 9, and none of them is struck out.
use mathlib.Core.Path.{◌≡◌, refl, sym, ◌∙◌, ap}
use mathlib.Core.Logic.{◌⊎◌, inl, inr}
use mathlib.Core.Bool.{Bool, true, false}
use mathlib.Core.Option.{Option, none, some, some-injective}
use Prim.Native.Nat.{ℕ, zero, suc, ◌≤◌}
use native.Mathlib.Omega.{arith}
use lib.Dec.{ltb}
use Rattle.std.specs.Prelude.{Result, Ok, Err}
use Rattle.classes.specs.declared.RecordShape.{RecordShape}
use Rattle.layout.specs.Geometry.{root_count}
use Rattle.theory.specs.Calls.{Call, c_attach, c_detach, c_check, c_leave, c_enter, c_spawn, c_make, c_load, c_store, c_copy, c_clear, c_put, c_get}
use Rattle.theory.specs.Calls.{c_same, c_shape, Observation, require, if_record, a_ok, a_no, refusal, refuse, on_record}
use Rattle.theory.specs.Unbounded.{Unbounded, uobserve, uact, uexec}
use Rattle.theory.proofs.Invariant.{none_some}
use Rattle.model.specs.declared.Answer.{Answer}
use Rattle.model.specs.declared.Answer.TheVariants.{Done, Number, Same, Shape}
use Rattle.model.specs.declared.Refusal.{Refusal}
use Rattle.model.specs.Refusals.{number_of}
use Rattle.model.specs.Answers.{answer_of, refusal_in, refusal_of}
use Rattle.model.proofs.Refusals.{one_number}
use Rattle.model.specs.Lists.{struck}
use Rattle.guarantee.specs.Demand3.{struck_out}
use Rattle.theory.specs.Calls as theory

-- ---- by the value of an answer

pub to_number : (r : Result Answer Refusal) (n : ℕ) → answer_of r ≡ a_no n → refusal_of r ≡ some n
to_number r n e = ap refusal_in e

pub of_number : (r : Result Answer Refusal) (n : ℕ) → refusal_of r ≡ some n → answer_of r ≡ a_no n
of_number (Ok Done) n e = none_some e
of_number (Ok (Number v)) n e = none_some e
of_number (Ok (Same b)) n e = none_some e
of_number (Ok (Shape s)) n e = none_some e
of_number (Err x) n e = ap a_no (some-injective (number_of x) n e)

pub refused_as : (r : Result Answer Refusal) (w : Refusal) → answer_of r ≡ a_no (number_of w) → r ≡ Err w
refused_as (Ok Done) w e = cc
refused_as (Ok (Number v)) w e = cc
refused_as (Ok (Same b)) w e = cc
refused_as (Ok (Shape s)) w e = cc
refused_as (Err x) w e = ap Err (one_number x w (some-injective (number_of x) (number_of w) (ap refusal_in e)))

pub is_ok : (r : Result Answer Refusal) → answer_of r ≡ a_ok → r ≡ Ok Done
is_ok (Ok Done) e = refl
is_ok (Ok (Number v)) e = cc
is_ok (Ok (Same b)) e = cc
is_ok (Ok (Shape s)) e = cc
is_ok (Err w) e = cc

-- ---- refusals 2 to 9

pub record Stays (n : ℕ) : Type 0 where
  pub either : (n ≡ 0) ⊎ ((2 ≤ n) × (n ≤ 9))

none_stays : Stays 0
none_stays = record { either = inl refl }

require_stays : (b : Bool) (n rest : ℕ) → (2 ≤ n) × (n ≤ 9) → Stays rest → Stays (require b n rest)
unfolding require
require_stays true n rest h r = r
require_stays false n rest h r = record { either = inr h }

record_stays : (o : Option RecordShape) (rest : RecordShape → ℕ) → ((s : RecordShape) → Stays (rest s)) → Stays (if_record o rest)
unfolding if_record
record_stays none rest r = record { either = inr (omega arith, omega arith) }
record_stays (some s) rest r = r s

inside_stays : (F : Observation) (k rest : ℕ) → Stays rest → Stays (theory.if_inside F k rest)
inside_stays F k rest r = require_stays _ 2 _ (omega arith, omega arith) (require_stays _ 4 _ (omega arith, omega arith) (require_stays _ 5 _ (omega arith, omega arith) r))

root_stays : (i rest : ℕ) → Stays rest → Stays (require (ltb i root_count) 6 rest)
root_stays i rest r = require_stays _ 6 _ (omega arith, omega arith) r

field_stays : (b : Bool) → Stays (require b 8 0)
field_stays b = require_stays b 8 0 (omega arith, omega arith) none_stays

pub refusal_stays : (F : Observation) (c : Call) → Stays (refusal F c)
refusal_stays F (c_attach k) = require_stays _ 2 _ (omega arith, omega arith) (require_stays _ 3 _ (omega arith, omega arith) none_stays)
refusal_stays F (c_spawn k p i) =
    require_stays _ 2 _ (omega arith, omega arith)
    (require_stays _ 2 _ (omega arith, omega arith)
    (require_stays _ 3 _ (omega arith, omega arith) (require_stays _ 4 _ (omega arith, omega arith) (require_stays _ 5 _ (omega arith, omega arith) (root_stays i 0 none_stays)))))
refusal_stays F (c_detach k) = inside_stays F k 0 none_stays
refusal_stays F (c_check k) = inside_stays F k 0 none_stays
refusal_stays F (c_leave k) = inside_stays F k 0 none_stays
refusal_stays F (c_enter k) = require_stays _ 2 _ (omega arith, omega arith) (require_stays _ 4 _ (omega arith, omega arith) (require_stays _ 5 _ (omega arith, omega arith) none_stays))
refusal_stays F (c_make k d p n) = inside_stays F k _ (root_stays d _ (require_stays _ 9 _ (omega arith, omega arith) none_stays))
refusal_stays F (c_load k d i f) = inside_stays F k _ (root_stays d _ (root_stays i _ (record_stays _ _ (λ s. field_stays _))))
refusal_stays F (c_store k i f j) = inside_stays F k _ (root_stays i _ (root_stays j _ (record_stays _ _ (λ s. field_stays _))))
refusal_stays F (c_copy k d i) = inside_stays F k _ (root_stays d _ (root_stays i _ none_stays))
refusal_stays F (c_clear k d) = inside_stays F k _ (root_stays d _ none_stays)
refusal_stays F (c_put k i f v) = inside_stays F k _ (root_stays i _ (record_stays _ _ (λ s. field_stays _)))
refusal_stays F (c_get k i f) = inside_stays F k _ (root_stays i _ (record_stays _ _ (λ s. field_stays _)))
refusal_stays F (c_same k i j) = inside_stays F k _ (root_stays i _ (root_stays j _ none_stays))
refusal_stays F (c_shape k i) = inside_stays F k _ (root_stays i _ (record_stays _ _ (λ s. none_stays)))

not_struck : (n : ℕ) → 2 ≤ n → n ≤ 9 → struck_out n ≡ false
not_struck zero l h = absurd (omega arith)
not_struck (suc zero) l h = absurd (omega arith)
not_struck (suc (suc zero)) l h = refl
not_struck (suc (suc (suc zero))) l h = refl
not_struck (suc (suc (suc (suc zero)))) l h = refl
not_struck (suc (suc (suc (suc (suc zero))))) l h = refl
not_struck (suc (suc (suc (suc (suc (suc zero)))))) l h = refl
not_struck (suc (suc (suc (suc (suc (suc (suc zero))))))) l h = refl
not_struck (suc (suc (suc (suc (suc (suc (suc (suc zero)))))))) l h = refl
not_struck (suc (suc (suc (suc (suc (suc (suc (suc (suc zero))))))))) l h = refl
not_struck (suc (suc (suc (suc (suc (suc (suc (suc (suc (suc n)))))))))) l h = absurd (omega arith)

-- ---- the unbounded heap

on_record_lem : (o : Option ℕ) (un : Unbounded) (K : ℕ → theory.Answer × Unbounded) (n : ℕ) → ((a : ℕ) → refusal_in (K a).0 ≡ none) → refusal_in (on_record o un K).0 ≡ some n → n ≡ 7
on_record_lem none un K n h e = sym (some-injective 7 n e)
on_record_lem (some a) un K n h e = none_some (sym (h a) ∙ e)

act_number : (un : Unbounded) (c : Call) (n : ℕ) → refusal_in (uact un c).0 ≡ some n → n ≡ 7
act_number un (c_attach k) n e = none_some e
act_number un (c_spawn k p i) n e = none_some e
act_number un (c_detach k) n e = none_some e
act_number un (c_check k) n e = none_some e
act_number un (c_leave k) n e = none_some e
act_number un (c_enter k) n e = none_some e
act_number un (c_make k d p q) n e = none_some e
act_number un (c_load k d i f) n e = on_record_lem (un.root k i) un _ n (λ a. refl) e
act_number un (c_store k i f j) n e = on_record_lem (un.root k i) un _ n (λ a. refl) e
act_number un (c_copy k d i) n e = none_some e
act_number un (c_clear k d) n e = none_some e
act_number un (c_put k i f v) n e = on_record_lem (un.root k i) un _ n (λ a. refl) e
act_number un (c_get k i f) n e = on_record_lem (un.root k i) un _ n (λ a. refl) e
act_number un (c_same k i j) n e = none_some e
act_number un (c_shape k i) n e = on_record_lem (un.root k i) un _ n (λ a. refl) e

pub unbounded_number : (un : Unbounded) (c : Call) (n : ℕ) → refusal_in (uexec un c).0 ≡ some n → (2 ≤ n) × (n ≤ 9)
unbounded_number un c n e = go (refusal (uobserve un) c) (refusal_stays (uobserve un) c).either e
  where
    go : (x : ℕ) → (x ≡ 0) ⊎ ((2 ≤ x) × (x ≤ 9)) → refusal_in (refuse x un (uact un c)).0 ≡ some n → (2 ≤ n) × (n ≤ 9)
    go zero h e = let z = act_number un c n e in (omega arith, omega arith)
    go (suc x) (inl h) e = absurd (omega arith)
    go (suc x) (inr h) e = let z : suc x ≡ n = some-injective (suc x) n e in (omega (arith, h.0), omega (arith, h.1))

-- what the unbounded heap answers is not struck out
pub not_struck_out : (r : Result Answer Refusal) (un : Unbounded) (c : Call) → answer_of r ≡ (uexec un c).0 → struck struck_out (refusal_of r) ≡ false
not_struck_out r un c e = go (refusal_of r) (λ n h. unbounded_number un c n (sym (ap refusal_in e) ∙ h))
  where
    go : (o : Option ℕ) → ((n : ℕ) → o ≡ some n → (2 ≤ n) × (n ≤ 9)) → struck struck_out o ≡ false
    go none h = refl
    go (some n) h = not_struck n (h n refl).0 (h n refl).1
