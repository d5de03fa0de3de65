-- The refusal of a mutator that must be inside, from its state word, and a call that it and the call's roots pass or refuse.
use mathlib.Core.Path.{◌≡◌, sym, ◌∙◌, ap, subst}
use mathlib.Core.Bool.{false}
use mathlib.Core.Logic.{◌⊎◌, ⊎_elim}
use mathlib.Core.List.{List}
use Prim.Native.Nat.{ℕ, ◌≤◌, ◌<◌}
use native.Mathlib.Omega.{arith}
use lib.Dec.{eqb}
use lib.ListN.{length}
use borrow.Author.Tests.{lt-ltb, le-ltb, eq-eqb, ne_eqb, eqb-true}
use Rattle.basics.specs.Decides.{Decides}
use Rattle.basics.proofs.Deciding.{fails}
use Rattle.classes.specs.declared.RecordShape.{RecordShape}
use Rattle.layout.specs.declared.Geometry.{Geometry}
use Rattle.layout.specs.Geometry.{mutator_count, root_count, wrong_size}
use Rattle.layout.specs.Mem.{Mem, mem_of}
use Rattle.theory.specs.Calls.{Call, require, if_root, if_record, refusal}
use Rattle.theory.proofs.Refusals.{by_ok, root_ok, root_rest, inside_on, root_on}
use Rattle.std.specs.Prelude.{Err}
use Rattle.model.specs.declared.Refusal.{Refusal}
use Rattle.model.specs.Refusals.{number_of}
use Rattle.model.proofs.Refusals.{no_0}
use Rattle.model.specs.Fields.{absent, inside, state}
use Rattle.model.specs.Calls.{observe}
use Rattle.model.specs.Promise.{Promise}
use Rattle.model_laws.proofs.Promised.{refused}
use Rattle.model_laws.proofs.Reaching.{Reaches}
use Rattle.mutators.specs.Inside.{inside_then}
use Rattle.theory.proofs.Refusals as refusals

module _ (m : Mem) (k rest : ℕ) where
  pub unknown_2 : mutator_count ≤ k → 2 ≡ inside_then m k rest
  unfolding require inside_then
  unknown_2 l = rw (le-ltb _ _ l)

  pub absent_4 : k < mutator_count → state m k ≡ absent → 4 ≡ inside_then m k rest
  unfolding require inside_then
  absent_4 l e = rw (lt-ltb _ _ l, eq-eqb _ _ e)

  pub outside_5 : k < mutator_count → (state m k ≡ absent → ⊥) → (state m k ≡ inside → ⊥) → 5 ≡ inside_then m k rest
  unfolding require inside_then
  outside_5 l a n = rw (lt-ltb _ _ l, ne_eqb _ _ a, ne_eqb _ _ n)

  pub inside_rest : k < mutator_count → state m k ≡ inside → rest ≡ inside_then m k rest
  unfolding require inside_then
  inside_rest l e = rw (lt-ltb _ _ l, e)

-- ---- whether it is inside, x being its state

module _ (k x : ℕ) where
  pub unknown_no : mutator_count ≤ k → Decides false ((k < mutator_count) × (x ≡ inside))
  unknown_no l = fails (λ q. let h = q.0 in omega arith)

  pub state_says : k < mutator_count → (s : ℕ) → s ≡ x → Decides (eqb s inside) ((k < mutator_count) × (x ≡ inside))
  state_says l s e = record { sound = λ t. (l, sym e ∙ eqb-true s inside t); complete = λ q. eq-eqb s inside (e ∙ q.1) }

-- ---- roots' indices

pub root_6 : (i rest : ℕ) → root_count ≤ i → 6 ≡ if_root i rest
unfolding require
root_6 i rest l = rw (le-ltb _ _ l)

-- a second root 0 is no further test
pub one_root : (m : Mem) (k i : ℕ) → inside_then m k (if_root i (if_root 0 0)) ≡ inside_then m k (if_root i 0)
one_root m k i = ap (λ x. inside_then m k (if_root i x)) (sym (root_rest 0 0 (omega arith)))

pub no_root : (m : Mem) (k : ℕ) → inside_then m k (if_root 0 (if_root 0 0)) ≡ inside_then m k 0
no_root m k = one_root m k 0 ∙ ap (inside_then m k) (sym (root_rest 0 0 (omega arith)))

-- ---- n is the refusal of the mutator

pub then_known : (m : Mem) (k n rest : ℕ) → n ≡ inside_then m k rest → n ≡ 0 → k < mutator_count
unfolding inside_then
then_known m k n rest e z = (by_ok (observe m) k rest (sym e ∙ z)).0

-- ---- a call of a mutator inside with one root, n being the refusal of both

module _ (g : Geometry) (xs : List ℕ) (k i n : ℕ) (s : n ≡ inside_then (mem_of g xs) k (if_root i 0)) where
  pub in_range_at : n ≡ 0 → (k < mutator_count) × (i < root_count)
  unfolding inside_then
  in_range_at z = let p = by_ok (observe (mem_of g xs)) k _ (sym s ∙ z) in (p.0, (root_ok i _ p.3).0)

  module _ (c : Call) (e : wrong_size g (length xs) ≡ false) (test : RecordShape → ℕ)
      (is : inside_then (mem_of g xs) k (if_root i (if_record ((observe (mem_of g xs)).shape k i) test)) ≡ refusal (observe (mem_of g xs)) c) where
    pub refused_at : (w : Refusal) → number_of w ≡ n → Promise c g xs (Err w) xs
    unfolding inside_then
    refused_at w q = refused c g xs w e (q ∙ inside_on n _ _ (root_on n 0 _ (λ z. absurd (no_0 w (q ∙ z))) i) (observe (mem_of g xs)) k s ∙ is)

    pub reaches_at : n ≡ 0 → Reaches c g xs k i test
    unfolding inside_then
    reaches_at z =
        let p = by_ok (observe (mem_of g xs)) k _ (sym s ∙ z) in
        let l = (root_ok i _ p.3).0 in
        record {
          size = e;
          known = p.0;
          within = l;
          attached = p.1;
          rest = root_rest i _ l ∙ refusals.inside_rest (observe (mem_of g xs)) k _ p.0 p.1 p.2 ∙ is;
        }

-- ---- a call of a mutator inside with two roots, n being the refusal of all three

module _ (g : Geometry) (xs : List ℕ) (k i j n : ℕ) (s : n ≡ inside_then (mem_of g xs) k (if_root i (if_root j 0))) where
  pub in_range : n ≡ 0 → (k < mutator_count) × (i < root_count) × (j < root_count)
  unfolding inside_then
  in_range z =
      let p = by_ok (observe (mem_of g xs)) k _ (sym s ∙ z) in
      let q = root_ok i _ p.3 in
      (p.0, q.0, (root_ok j _ q.1).0)

  module _ (c : Call) (e : wrong_size g (length xs) ≡ false) (r : ℕ) (test : RecordShape → ℕ)
      (is : inside_then (mem_of g xs) k (if_root i (if_root j (if_record ((observe (mem_of g xs)).shape k r) test))) ≡ refusal (observe (mem_of g xs)) c) where
    pub refused_with : (w : Refusal) → number_of w ≡ n → Promise c g xs (Err w) xs
    unfolding inside_then
    refused_with w q =
        refused c g xs w e (q ∙ inside_on n _ _ (root_on n _ _ (root_on n 0 _ (λ z. absurd (no_0 w (q ∙ z))) j) i) (observe (mem_of g xs)) k s ∙ is)

    -- the record is in one of the two
    pub reaches_with : n ≡ 0 → (r ≡ i) ⊎ (r ≡ j) → Reaches c g xs k r test
    unfolding inside_then
    reaches_with z o =
        let p = by_ok (observe (mem_of g xs)) k _ (sym s ∙ z) in
        let l = in_range z in
        record {
          size = e;
          known = p.0;
          within = ⊎_elim (λ y. subst (λ x. x < root_count) (sym y) l.1) (λ y. subst (λ x. x < root_count) (sym y) l.2) o;
          attached = p.1;
          rest = root_rest j _ l.2 ∙ root_rest i _ l.1 ∙ refusals.inside_rest (observe (mem_of g xs)) k _ p.0 p.1 p.2 ∙ is;
        }
