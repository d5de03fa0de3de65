-- The templates of the forms: how long each gets, and how they are told apart, each by one test of every form, which the
-- checker computes.
use Prim.Native.Nat.{ℕ, ◌≤◌, ◌<◌}
use mathlib.Core.Path.{◌≡◌}
use mathlib.Core.Bool.{Bool, ◌||◌}
use mathlib.Core.List.{List}
use lib.Dec.{T, leb, eqb, leb→le}
use borrow.Author.Tests.{ne_eqb}
use Rattle.basics.proofs.Table.{every, every_at}
use Rattle.bracket_text.proofs.Templates.{holes, apart, most, differ}
use Rattle.bracket_forms.specs.declared.Form.{Form}
use Rattle.bracket_forms.specs.declared.Form.TheVariants.{Step}
use Rattle.bracket_forms.specs.Forms.{spelt}
use Rattle.bracket_forms.specs.Kinds.{forms, form_at, template_at}

-- the forms, all numbers zero
abbrev pub blanks : List Form
blanks = forms 0 0 0 0 0

-- a test that every template passes
abbrev pub every_text : (ℕ → List ℕ → Bool) → Bool
every_text f = every (λ j g. f j (spelt g).template) 0 blanks

pub text_passes : (f : ℕ → List ℕ → Bool) → T (every_text f) → (k : ℕ) → k < 18 → T (f k (template_at k))
unfolding template_at form_at forms
text_passes f t k h = every_at (λ j g. f j (spelt g).template) Step blanks t k h

module _ (k : ℕ) (h : k < 18) where
  -- it can be read in one way only, has five numbers at most, and gets no longer than a line may be
  pub template_apart : T (apart (template_at k))
  unfolding apart forms
  template_apart = text_passes (λ j t. apart t) tt k h

  pub template_holes : holes (template_at k) ≤ 5
  unfolding holes forms
  template_holes = leb→le (holes (template_at k)) 5 (text_passes (λ j t. leb (holes t) 5) tt k h)

  pub template_most : most (template_at k) ≤ 80
  unfolding most forms
  template_most = leb→le (most (template_at k)) 80 (text_passes (λ j t. leb (most t) 80) tt k h)

  -- the words of a form are no other form's
  pub template_told : (j : ℕ) → j < 18 → (k ≡ j → ⊥) → T (differ (template_at k) (template_at j))
  unfolding differ forms
  template_told j l n =
      rw (ne_eqb k j n) at
      (text_passes (λ m u. eqb k m || differ (template_at k) u)
      (text_passes (λ m t. every_text (λ o u. eqb m o || differ t u)) tt k h) j l)
