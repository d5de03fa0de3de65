-- How a look with a lent output keeps its promise: refused for a size or for the output's length, refused where a record is none of consistent
-- memory's, and done.
use mathlib.Core.Path.{◌≡◌, refl, sym, ◌∙◌}
use mathlib.Core.Bool.{Bool, true, false, true≢false}
use mathlib.Core.Option.{none-ne-some, some-injective}
use mathlib.Core.List.{List}
use Prim.Native.Nat.{ℕ}
use lib.ListN.{length}
use Rattle.basics.specs.Decides.{Decides}
use Rattle.basics.proofs.Deciding.{refuted}
use Rattle.layout.specs.declared.Geometry.{Geometry}
use Rattle.layout.specs.Geometry.{wrong_size, len}
use Rattle.layout.specs.Mem.{Mem, mem_of}
use Rattle.layout.specs.Region as Region
use Rattle.model.specs.declared.Answer.{Answer}
use Rattle.std.specs.Prelude.{Result, Ok, Err}
use Rattle.model.specs.declared.Answer.TheVariants.{Done}
use Rattle.model.specs.declared.Refusal.{Refusal}
use Rattle.model.specs.declared.Refusal.TheVariants.{Size, Torn}
use Rattle.model.specs.Consistent.{Consistent}
use Rattle.model.specs.Promise.{OutputPromise, StatesPromise}

module _ (long : Geometry → ℕ) (shown : Geometry → Mem → List ℕ) (g : Geometry) (xs ys : List ℕ) where
  pub shown_1 : wrong_size g (length xs) ≡ true → OutputPromise long shown g xs ys (Err Size) ys
  shown_1 e = record {
    sizes = (λ _. refl, λ _. refl);
    exact = λ f. absurd (true≢false (sym e ∙ f));
    torn = λ f. absurd (true≢false (sym e ∙ f));
    kind = λ q. absurd (none-ne-some 1 (sym q));
    unchanged = λ n q. refl;
  }

  -- the output is not of its length
  pub shown_short : (length ys ≡ long g → ⊥) → OutputPromise long shown g xs ys (Err Size) ys
  shown_short d = record {
    sizes = (λ _. refl, λ _. refl);
    exact = λ _ h. absurd (d h);
    torn = λ _ h. absurd (d h);
    kind = λ q. absurd (none-ne-some 1 (sym q));
    unchanged = λ n q. refl;
  }

  module _ (e : wrong_size g (length xs) ≡ false) (l : length ys ≡ long g) where
    -- what a test refutes holds of consistent memory
    pub shown_13 : {P : Type 0} → (Consistent g (mem_of g xs) → P) → (r : Bool) → Decides r P → r ≡ false → OutputPromise long shown g xs ys (Err Torn) ys
    shown_13 k r d q = record {
      sizes = (λ h. absurd (true≢false (sym h ∙ e)), λ h. absurd (h l));
      exact = λ _ _ c. absurd (refuted d q (k c));
      torn = λ _ _ n h. sym (some-injective 13 n h);
      kind = λ h. absurd (none-ne-some 13 (sym h));
      unchanged = λ n h. refl;
    }

    pub shown_ok : (zs : List ℕ) → (Consistent g (mem_of g xs) → zs ≡ shown g (mem_of g xs)) → OutputPromise long shown g xs ys (Ok Done) zs
    shown_ok zs q = record {
      sizes = (λ h. absurd (true≢false (sym h ∙ e)), λ h. absurd (h l));
      exact = λ _ _ c. (refl, q c);
      torn = λ _ _ n h. absurd (none-ne-some n h);
      kind = λ _. refl;
      unchanged = λ n h. absurd (none-ne-some n h);
    }

-- the look at the segments' states is one of them: its output has the words of the segment records
abbrev pub record_words : Geometry → ℕ
record_words g = len g Region.segments

abbrev pub records : Geometry → Mem → List ℕ
records g m = m.segments

module _ (g : Geometry) (xs ys : List ℕ) (r : Result Answer Refusal) (zs : List ℕ) where
  pub as_states : OutputPromise record_words records g xs ys r zs → StatesPromise g xs ys r zs
  as_states p = record { sizes = p.sizes; exact = p.exact; torn = p.torn; kind = p.kind; unchanged = p.unchanged }

  pub as_output : StatesPromise g xs ys r zs → OutputPromise record_words records g xs ys r zs
  as_output p = record { sizes = p.sizes; exact = p.exact; torn = p.torn; kind = p.kind; unchanged = p.unchanged }
