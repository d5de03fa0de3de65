-- Along a list: the theorems beside the guarantee, applied at each of its points.
use mathlib.Core.Path.{◌≡◌, sym, ◌∙◌, subst}
use mathlib.Core.Logic.{◌⊎◌, inl, inr}
use mathlib.Core.Bool.{true}
use mathlib.Core.Option.{some, some-injective}
use mathlib.Core.List.{List, ◌∷◌, ◌++◌}
use Prim.Native.Nat.{ℕ}
use native.Mathlib.Omega.{arith}
use lib.ListN.{length}
use Rattle.layout.specs.declared.Geometry.{Geometry}
use Rattle.layout.proofs.Regions.{right_size}
use Rattle.model.specs.Lists.{Element, Gets, wrong_sized, number_of, Chain, words_after, Ghost, Begins}
use Rattle.refine_run.proofs.Elements.{size_number}
use Rattle.guarantee.specs.Keeping.{Applied}
use Rattle.guarantee.proofs.Walks.{walk}
use Rattle.guarantee.proofs.Beginning.{first_point}
use Rattle.guarantee.proofs.OneNumber.{one_number_lem, never_twelve_lem}
use Rattle.guarantee.proofs.OnlyNumbers.{only_numbers_lem, size_exactly_lem}
use Rattle.guarantee.proofs.Keeping.{always_consistent, every_call-keeps, never_torn_lem, refused_unchanged}
use Rattle.guarantee_cases.specs.Consequences.{Along}

module _ (g : Geometry) (words : List ℕ) (w : Ghost) (es : List Element) (b : Begins g words w) (ch : Chain g words es) where
  module _ (xs ys : List Element) (e : Element) (i : es ≡ xs ++ (e ∷ ys)) where
    rest : Chain g (words_after words xs) (e ∷ ys)
    rest = (walk g xs (e ∷ ys) words w (first_point g words w b) (subst (Chain g words) i ch)).1

    applied : Gets g (words_after words xs) e → Applied g (words_after words xs) e
    applied h = record {
      sized = right_size g (length (words_after words xs)) (walk g xs (e ∷ ys) words w (first_point g words w b) (subst (Chain g words) i ch)).0.long;
      consistent = always_consistent g words w xs (e ∷ ys) b (subst (Chain g words) i ch);
      meets = rest.0;
      long = rest.1;
      gets = h;
    }

    -- one that is not refused 1, over the memory that it was lent
    pub applied_to : (number_of e ≡ some 1 → ⊥) → Applied g e.before e
    applied_to f = go rest.2
      where
        go : (wrong_sized e ≡ true) ⊎ Gets g (words_after words xs) e → Applied g e.before e
        go (inl h) = absurd (f (size_number e rest.0 h))
        go (inr h) = subst (λ u. Applied g u e) (sym h.memory) (applied h)

    pub chain_to : (number_of e ≡ some 1 → ⊥) → Chain g e.before (e ∷ ys)
    chain_to f = go rest.2
      where
        go : (wrong_sized e ≡ true) ⊎ Gets g (words_after words xs) e → Chain g e.before (e ∷ ys)
        go (inl h) = absurd (f (size_number e rest.0 h))
        go (inr h) = subst (λ u. Chain g u (e ∷ ys)) (sym h.memory) rest

    not_torn : (wrong_sized e ≡ true) ⊎ Gets g (words_after words xs) e → number_of e ≡ some 13 → ⊥
    not_torn (inl h) t = let y : ◌≡◌ {A = ℕ} 1 13 = some-injective 1 13 (sym (size_number e rest.0 h) ∙ t) in omega arith
    not_torn (inr h) t = never_torn_lem g (words_after words xs) e (applied h) t

    same : (n : ℕ) → (wrong_sized e ≡ true) ⊎ Gets g (words_after words xs) e → number_of e ≡ some n → e.after ≡ e.before
    same n (inl h) t = refused_unchanged g (words_after words xs) e rest.0 (inl h) n t
    same n (inr h) t = refused_unchanged g (words_after words xs) e rest.0 (inr (applied h)) n t

  pub along : Along g words es
  along = record {
    consistent = λ xs ys i. always_consistent g words w xs ys b (subst (Chain g words) i ch);
    kept = λ xs ys e i h. every_call-keeps g (words_after words xs) e (applied xs ys e i h);
    one_number = λ xs ys e n i t. one_number_lem e (rest xs ys e i).0 n t;
    only_numbers = λ xs ys e n i t. only_numbers_lem e (rest xs ys e i).0 n t;
    size_exactly = λ xs ys e i. size_exactly_lem e (rest xs ys e i).0;
    never_twelve = λ xs ys e i t. never_twelve_lem e (rest xs ys e i).0 t;
    never_torn = λ xs ys e i t. not_torn xs ys e i (rest xs ys e i).2 t;
    unchanged = λ xs ys e n i t. same xs ys e i n (rest xs ys e i).2 t;
  }
