-- The promise of the examination, by its answers.
use mathlib.Core.Path.{◌≡◌, refl, sym, ◌∙◌, ap}
use mathlib.Core.Bool.{Bool, true, false, true≢false}
use mathlib.Core.List.{List}
use Prim.Native.Nat.{ℕ, ◌+◌, ◌/◌}
use native.Mathlib.Omega.{arith}
use lib.ListN.{length, replicate}
use Rattle.basics.specs.Decides.{Decides}
use Rattle.layout.specs.declared.Geometry.{Geometry}
use Rattle.layout.specs.Geometry.{len, wrong_size, scratch_words}
use Rattle.layout.specs.Mem.{mem_of}
use Rattle.layout.proofs.Sizes.{marks_are}
use Rattle.std.specs.Prelude.{Ok, Err}
use Rattle.model.specs.declared.Refusal.TheVariants.{Size}
use Rattle.model.specs.Answers.{examined_answer_of}
use Rattle.model.specs.Consistent.{Consistent}
use Rattle.model.specs.Promise.{ExaminePromise}
use Rattle.layout.specs.Region as Region

pub words_are : (g : Geometry) (t : ℕ) → t ≡ len g Region.trace → t / 32 + t / 32 + t ≡ scratch_words g
words_are g t e = let w = marks_are g g.segments in omega arith

-- an answer of yes is one of true
says_yes : (b : Bool) → examined_answer_of (Ok b) ≡ examined_answer_of (Ok true) → b ≡ true
says_yes b q = cc

module _ (g : Geometry) (mem scratch : List ℕ) where
  pub memory_size : wrong_size g (length mem) ≡ true → ExaminePromise g mem scratch (Err Size) scratch
  memory_size w = record {
    sizes = (λ _. (refl, refl), λ _. (refl, refl));
    sound = λ q. absurd (let z : ◌≡◌ {A = ℕ} 0 1 = cc in omega arith);
    complete = λ f _ _. absurd (true≢false (sym w ∙ f));
    answers = λ f _. absurd (true≢false (sym w ∙ f));
    cleared = λ f _. absurd (true≢false (sym w ∙ f));
  }

  pub scratch_size : (length scratch ≡ scratch_words g → ⊥) → ExaminePromise g mem scratch (Err Size) scratch
  scratch_size w = record {
    sizes = (λ _. (refl, refl), λ _. (refl, refl));
    sound = λ q. absurd (let z : ◌≡◌ {A = ℕ} 0 1 = cc in omega arith);
    complete = λ _ f _. absurd (w f);
    answers = λ _ f. absurd (w f);
    cleared = λ _ f. absurd (w f);
  }

  pub promise_is : wrong_size g (length mem) ≡ false → length scratch ≡ scratch_words g → (after : List ℕ) → after ≡ replicate (scratch_words g) 0
      → (b : Bool) → Decides b (Consistent g (mem_of g mem)) → ExaminePromise g mem scratch (Ok b) after
  promise_is right room after zeros b d = record {
    sizes = (λ w. absurd (true≢false (sym w ∙ right)), λ w. absurd (w room));
    sound = λ q. d.sound (says_yes b q);
    complete = λ _ _ c. ap (λ b. examined_answer_of (Ok b)) (d.complete c);
    answers = λ _ _. refl;
    cleared = λ _ _. zeros;
  }
