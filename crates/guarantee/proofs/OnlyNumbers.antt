-- Whatever a call was lent, by its promise alone: which numbers the collector's calls, the openings and the looks refuse with, that 1 is exactly for a
-- size, and that a refusal leaves output and scratch as they were.
use mathlib.Core.Path.{◌≡◌, refl, sym, ◌∙◌, ap}
use mathlib.Core.Logic.{◌⊎◌, inl, inr}
use mathlib.Core.Bool.{Bool, true, false, not, true≢false}
use mathlib.Core.Option.{Option, some, some-injective}
use mathlib.Core.List.{List, [], ◌∷◌}
use Prim.Native.Nat.{ℕ}
use native.Mathlib.Omega.{arith}
use lib.Dec.{eqb}
use lib.ListN.{length}
use borrow.Author.Tests.{eqb-true, eqb-false}
use Rattle.std.specs.Prelude.{Result}
use Rattle.basics.specs.Pick.{pick}
use Rattle.layout.specs.declared.Geometry.{Geometry}
use Rattle.layout.specs.Geometry.{scratch_words, sheet_bytes, wrong_size}
use Rattle.layout.specs.Mem.{Mem}
use Rattle.theory.proofs.Invariant.{none_some}
use Rattle.model.specs.declared.Answer.{Answer}
use Rattle.model.specs.declared.Refusal.{Refusal}
use Rattle.model.specs.Answers.{refusal_in, refusal_of, among}
use Rattle.model.specs.Promise.{OpenPromise, OutputPromise}
use Rattle.model_laws.proofs.Shown.{record_words, records, as_output}
use Rattle.model.specs.Sheet.{sheet_of}
use Rattle.model.specs.Looks.{Look, saw_phase, saw_states, saw_sheet, examined_by, LookPromise, look_number}
use Rattle.model.specs.Lists.{Event, mutator_call, start_call, step_call, opening_call, look_call, Element, Promised, Meets, wrong_sizes, wrong_sized, event_number, number_of}
use Rattle.model.proofs.Numbers.{may_table}
use Rattle.refine_run.proofs.Elements.{look_size, size_number, size_unchanged}
use Rattle.guarantee.specs.Keeping.{SizeOrTorn, LookRefuses, Refuses, OnlyNumbers, LentStays, SizeExactly}

-- ---- a number among one, two or three

among_more : (n x : ℕ) (xs : List ℕ) → among n (x ∷ xs) ≡ true → (n ≡ x) ⊎ (among n xs ≡ true)
among_more n x xs e = go (eqb n x) refl e
  where
    go : (b : Bool) → eqb n x ≡ b → pick b true (among n xs) ≡ true → (n ≡ x) ⊎ (among n xs ≡ true)
    go true q f = inl (eqb-true n x q)
    go false q f = inr f

among_one : (n x : ℕ) → among n (x ∷ []) ≡ true → n ≡ x
among_one n x e = go (among_more n x [] e)
  where
    go : (n ≡ x) ⊎ (false ≡ true) → n ≡ x
    go (inl q) = q
    go (inr f) = absurd (true≢false (sym f))

size_or_torn : (n : ℕ) → among n (1 ∷ 13 ∷ []) ≡ true → SizeOrTorn n
size_or_torn n e = go (among_more n 1 (13 ∷ []) e)
  where
    go : (n ≡ 1) ⊎ (among n (13 ∷ []) ≡ true) → SizeOrTorn n
    go (inl q) = inl q
    go (inr f) = inr (among_one n 13 f)

not_now_too : (n : ℕ) → among n (1 ∷ 11 ∷ 13 ∷ []) ≡ true → (n ≡ 11) ⊎ SizeOrTorn n
not_now_too n e = go (among_more n 1 (11 ∷ 13 ∷ []) e)
  where
    last : (n ≡ 11) ⊎ (among n (13 ∷ []) ≡ true) → (n ≡ 11) ⊎ SizeOrTorn n
    last (inl q) = inl q
    last (inr f) = inr (inr (among_one n 13 f))

    go : (n ≡ 1) ⊎ (among n (11 ∷ 13 ∷ []) ≡ true) → (n ≡ 11) ⊎ SizeOrTorn n
    go (inl q) = inr (inl q)
    go (inr f) = last (among_more n 11 (13 ∷ []) f)

-- ---- looks

first : {o : Option ℕ} (n : ℕ) → o ≡ some 1 → o ≡ some n → n ≡ 1
first n e q = sym (some-injective 1 n (sym e ∙ q))

-- the examination is never led astray
abbrev Astray : Look → Type 0
Astray (saw_phase r) = Unit
Astray (saw_states output r after) = Unit
Astray (saw_sheet output r after) = Unit
Astray (examined_by scratch r after) = ⊥

abbrev OneOr13 : (wrong astray : Type 0) → ℕ → Type 0
OneOr13 wrong astray n = (wrong × (n ≡ 1)) ⊎ (astray × (n ≡ 13))

module _ (g : Geometry) (mem : List ℕ) where
  abbrev Wrong : Look → Type 0
  Wrong l = wrong_sizes (look_call l) g (length mem) ≡ true

  output_refused : (long : Geometry → ℕ) (shown : Geometry → Mem → List ℕ) (output after : List ℕ) (r : Result Answer Refusal) → OutputPromise long shown g mem output r after
      → (n : ℕ) → refusal_of r ≡ some n → OneOr13 (pick (wrong_size g (length mem)) true (not (eqb (length output) (long g))) ≡ true) Unit n
  output_refused long shown output after r q n e = go (wrong_size g (length mem)) refl (eqb (length output) (long g)) refl
    where
      go : (b : Bool) → wrong_size g (length mem) ≡ b → (s : Bool) → eqb (length output) (long g) ≡ s → OneOr13 (pick b true (not s) ≡ true) Unit n
      go true h s l = inl (refl, first n (ap refusal_in (q.sizes.0 h)) e)
      go false h false l = inl (refl, first n (ap refusal_in (q.sizes.1 (eqb-false _ _ l))) e)
      go false h true l = inr (tt, q.torn h (eqb-true _ _ l) n e)

  -- refused 1 where the memory, the output or the scratch is of a wrong size, and else 13
  look_refused : (l : Look) → LookPromise g mem l → (n : ℕ) → look_number l ≡ some n → OneOr13 (Wrong l) (Astray l) n
  look_refused (saw_phase r) q n e = go (size_or_torn n (q.allowed n e))
    where
      go : SizeOrTorn n → OneOr13 (Wrong (saw_phase r)) Unit n
      go (inl z) = inl (ap (λ b. pick b true (not true)) (q.only_size (e ∙ ap (λ x. some x) z)), z)
      go (inr z) = inr (tt, z)
  look_refused (saw_states output r after) q n e = output_refused record_words records output after r (as_output g mem output r after q) n e
  look_refused (saw_sheet output r after) q n e = output_refused sheet_bytes sheet_of output after r q n e
  look_refused (examined_by scratch r after) q n e = go (wrong_size g (length mem)) refl (eqb (length scratch) (scratch_words g)) refl
    where
      go : (b : Bool) → wrong_size g (length mem) ≡ b → (s : Bool) → eqb (length scratch) (scratch_words g) ≡ s → OneOr13 (pick b true (not s) ≡ true) ⊥ n
      go true h s l = inl (refl, first n (look_size g mem (examined_by scratch r after) q (inl h)) e)
      go false h false l = inl (refl, first n (look_size g mem (examined_by scratch r after) q (inr l)) e)
      go false h true l = none_some (sym (q.answers h (eqb-true _ _ l)) ∙ e)

  look_refuses : (l : Look) (n : ℕ) → OneOr13 (Wrong l) (Astray l) n → LookRefuses l n
  look_refuses (saw_phase r) n (inl z) = inl z.1
  look_refuses (saw_phase r) n (inr z) = inr z.1
  look_refuses (saw_states output r after) n (inl z) = inl z.1
  look_refuses (saw_states output r after) n (inr z) = inr z.1
  look_refuses (saw_sheet output r after) n (inl z) = inl z.1
  look_refuses (saw_sheet output r after) n (inr z) = inr z.1
  look_refuses (examined_by scratch r after) n (inl z) = z.1
  look_refuses (examined_by scratch r after) n (inr z) = absurd z.0

  look_only : (l : Look) → OneOr13 (Wrong l) (Astray l) 1 → Wrong l
  look_only l (inl z) = z.0
  look_only l (inr z) = let y : ◌≡◌ {A = ℕ} 1 13 = z.1 in absurd (omega arith)

  -- output and scratch
  look_lent : (l : Look) → LookPromise g mem l → (n : ℕ) → look_number l ≡ some n → LentStays (look_call l)
  look_lent (saw_phase r) q n e = tt
  look_lent (saw_states output r after) q n e = q.unchanged n e
  look_lent (saw_sheet output r after) q n e = q.unchanged n e
  look_lent (examined_by scratch r after) q n e = go (wrong_size g (length mem)) refl (eqb (length scratch) (scratch_words g)) refl
    where
      go : (b : Bool) → wrong_size g (length mem) ≡ b → (s : Bool) → eqb (length scratch) (scratch_words g) ≡ s → after ≡ scratch
      go true h s l = (q.sizes.0 h).1
      go false h false l = (q.sizes.1 (eqb-false _ _ l)).1
      go false h true l = none_some (sym (q.answers h (eqb-true _ _ l)) ∙ e)

-- ---- every call

opening_only : (g : Geometry) (before after : List ℕ) (r : Result Answer Refusal) (n : ℕ) → OpenPromise g before r after → refusal_of r ≡ some n → (wrong_size g (length before) ≡ true) × (n ≡ 1)
opening_only g before after r n q e = go (wrong_size g (length before)) refl
  where
    go : (b : Bool) → wrong_size g (length before) ≡ b → (wrong_size g (length before) ≡ true) × (n ≡ 1)
    go true h = (h, first n (ap refusal_in (q.sizes h).0) e)
    go false h = none_some (sym (ap refusal_in (q.exact h).0) ∙ e)

pub only_numbers_lem : OnlyNumbers
only_numbers_lem x p n = go x.event p
  where
    go : (v : Event) → Promised v x.geometry x.before x.after → event_number v ≡ some n → Refuses v n
    go (mutator_call c r) q e = may_table n c (q.allowed n e)
    go (start_call r) q e = not_now_too n (q.allowed n e)
    go (step_call r) q e = size_or_torn n (q.allowed n e)
    go (opening_call r) q e = (opening_only x.geometry x.before x.after r n q e).1
    go (look_call l) q e = look_refuses x.geometry x.before l n (look_refused x.geometry x.before l q.0 n e)

size_only : (x : Element) → Meets x → number_of x ≡ some 1 → wrong_sized x ≡ true
size_only x = go x.event
  where
    go : (v : Event) → Promised v x.geometry x.before x.after → event_number v ≡ some 1 → wrong_sizes v x.geometry (length x.before) ≡ true
    go (mutator_call c r) q e = q.only_size e
    go (start_call r) q e = q.only_size e
    go (step_call r) q e = q.only_size e
    go (opening_call r) q e = (opening_only x.geometry x.before x.after r 1 q e).0
    go (look_call l) q e = look_only x.geometry x.before l (look_refused x.geometry x.before l q.0 1 e)

lent_stays : (x : Element) → Meets x → (n : ℕ) → number_of x ≡ some n → LentStays x.event
lent_stays x p n = go x.event p
  where
    go : (v : Event) → Promised v x.geometry x.before x.after → event_number v ≡ some n → LentStays v
    go (mutator_call c r) q e = tt
    go (start_call r) q e = tt
    go (step_call r) q e = tt
    go (opening_call r) q e = tt
    go (look_call l) q e = look_lent x.geometry x.before l q.0 n e

pub size_exactly_lem : SizeExactly
size_exactly_lem x q = record {
  whenever = size_number x q;
  only = size_only x q;
  memory = λ e. size_unchanged x q (size_only x q e);
  lent = lent_stays x q;
}
