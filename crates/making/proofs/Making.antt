-- How make keeps its promise: refused as its mutator and root stand, too big, or a make of the record's class.
use mathlib.Core.Path.{◌≡◌, refl, sym, ◌∙◌, ap, subst}
use mathlib.Core.Bool.{true, false}
use mathlib.Core.Logic.{◌⊎◌, inl, inr}
use mathlib.Core.Option.{none, some, none-ne-some, some-injective}
use mathlib.Core.List.{List}
use Prim.Native.Nat.{ℕ, ◌+◌, ◌≤◌}
use native.Mathlib.Omega.{arith}
use lib.Dec.{leb}
use lib.ListN.{length}
use borrow.Author.Tests.{le-leb, lt-leb}
use Rattle.classes.specs.Class.{max_fields}
use Rattle.classes.specs.Record.{of_counts, class_of_record}
use Rattle.std.specs.Prelude.{Some, None, Result, Ok, Err}
use Rattle.classes.proofs.Smallest.{class_limit, class_most}
use Rattle.layout.specs.declared.Geometry.{Geometry}
use Rattle.layout.specs.Geometry.{wrong_size}
use Rattle.layout.specs.Mem.{mem_of}
use Rattle.theory.specs.Calls.{c_make, require, if_root, refusal}
use Rattle.theory.proofs.Refusals.{by_ok, root_ok, inside_rest, root_rest, inside_on, root_on}
use Rattle.model.specs.declared.Answer.{Answer}
use Rattle.model.specs.declared.Answer.TheVariants.{Done}
use Rattle.model.specs.declared.Refusal.{Refusal}
use Rattle.model.specs.declared.Refusal.TheVariants.{TooBig, NoRoom, Torn}
use Rattle.model.proofs.Refusals.{no_0}
use Rattle.model.specs.Refusals as refusals
use Rattle.model.specs.Answers.{answer_of, refusal_of, ResultOf, among, may_give}
use Rattle.model.specs.Calls.{observe, act}
use Rattle.model.specs.Promise.{Promise}
use Rattle.model_laws.proofs.Promised.{refused, acted}
use Rattle.mutators.specs.Inside.{inside_then}
use Rattle.making.specs.HandingOut.{Makes}

-- r is the refusal of the mutator and the root
module _ (g : Geometry) (xs : List ℕ) (k d p n r : ℕ) (e : wrong_size g (length xs) ≡ false) (s : r ≡ inside_then (mem_of g xs) k (if_root d 0)) where
  pub make_refused : (w : Refusal) → refusals.number_of w ≡ r → Promise (c_make k d p n) g xs (Err w) xs
  unfolding inside_then
  make_refused w q = refused (c_make k d p n) g xs w e (q ∙ inside_on r _ _ (root_on r 0 _ (λ z. absurd (no_0 w (q ∙ z))) d) (observe (mem_of g xs)) k s)

  module _ (z : r ≡ 0) where
    -- what the fields decide
    rest_is : (x : ℕ) → x ≡ require (leb (p + n) max_fields) 9 0 → x ≡ refusal (observe (mem_of g xs)) (c_make k d p n)
    unfolding inside_then
    rest_is x f =
        let o = by_ok (observe (mem_of g xs)) k _ (sym s ∙ z) in
        f ∙ root_rest d _ (root_ok d 0 o.3).0 ∙ inside_rest (observe (mem_of g xs)) k _ o.0 o.1 o.2

    pub make_9 : None ≡ class_of_record (of_counts p n) → Promise (c_make k d p n) g xs (Err TooBig) xs
    unfolding require
    make_9 t = refused (c_make k d p n) g xs TooBig e (rest_is 9 (rw (lt-leb _ _ (class_limit (p + n) (sym t))) refl))

    module _ (c : ℕ) (t : Some c ≡ class_of_record (of_counts p n)) where
      none_refused : 0 ≡ refusal (observe (mem_of g xs)) (c_make k d p n)
      unfolding require
      none_refused = rest_is 0 (rw (le-leb _ _ (class_most (p + n) c (sym t))) refl)

      kind_of : (a : Result Answer Refusal) → (a ≡ Ok Done) ⊎ ((a ≡ Err NoRoom) ⊎ (a ≡ Err Torn)) → refusal_of a ≡ none → ResultOf (c_make k d p n) (answer_of a)
      kind_of a (inl q) u = ap answer_of q
      kind_of a (inr (inl q)) u = absurd (none-ne-some 10 (sym u ∙ ap refusal_of q))
      kind_of a (inr (inr q)) u = absurd (none-ne-some 13 (sym u ∙ ap refusal_of q))

      number_of : (a : Result Answer Refusal) → (a ≡ Ok Done) ⊎ ((a ≡ Err NoRoom) ⊎ (a ≡ Err Torn)) → (i : ℕ) → refusal_of a ≡ some i → (among i (may_give (c_make k d p n)) ≡ true) × (2 ≤ i)
      number_of a (inl q) i u = absurd (none-ne-some i (sym (ap refusal_of q) ∙ u))
      number_of a (inr (inl q)) i u = subst (λ v. (among v (may_give (c_make k d p n)) ≡ true) × (2 ≤ v)) (some-injective 10 i (sym (ap refusal_of q) ∙ u)) (refl, omega arith)
      number_of a (inr (inr q)) i u = subst (λ v. (among v (may_give (c_make k d p n)) ≡ true) × (2 ≤ v)) (some-injective 13 i (sym (ap refusal_of q) ∙ u)) (refl, omega arith)

      pub make_by : (a : Result Answer Refusal) (ys : List ℕ) → Makes g (mem_of g xs) k d c (of_counts p n) a (mem_of g ys) → Promise (c_make k d p n) g xs a ys
      unfolding act
      make_by a ys m = acted (c_make k d p n) g xs e none_refused (λ x. rw (sym t) (m.exact x)) (kind_of a m.either) (number_of a m.either)
