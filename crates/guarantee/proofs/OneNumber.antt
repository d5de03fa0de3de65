-- Whatever a call was lent, a refusal is one of the numbers 1 to 13 and not 12, by its promise alone.
use mathlib.Core.Path.{◌≡◌, refl, sym, ◌∙◌, ap}
use mathlib.Core.Logic.{◌⊎◌, inl, inr}
use mathlib.Core.Bool.{Bool, true, false}
use mathlib.Core.Option.{some, some-injective}
use mathlib.Core.List.{List}
use Prim.Native.Nat.{ℕ}
use native.Mathlib.Omega.{arith}
use lib.ListN.{length}
use Rattle.std.specs.Prelude.{Result}
use Rattle.basics.proofs.Order.{same_or_not}
use Rattle.layout.specs.declared.Geometry.{Geometry}
use Rattle.layout.specs.Geometry.{scratch_words, sheet_bytes, wrong_size}
use Rattle.layout.specs.Mem.{Mem}
use Rattle.theory.specs.Calls.{a_no}
use Rattle.theory.proofs.Invariant.{none_some}
use Rattle.model.specs.declared.Answer.{Answer}
use Rattle.model.specs.declared.Refusal.{Refusal}
use Rattle.model.specs.Promise.{OpenPromise, OutputPromise}
use Rattle.model.specs.Sheet.{sheet_of}
use Rattle.model.specs.Answers.{refusal_in, refusal_of, start_may_give, step_may_give, look_may_give}
use Rattle.model.specs.Looks.{Look, saw_phase, saw_states, saw_sheet, examined_by, LookPromise, look_number}
use Rattle.model.specs.Lists.{Event, mutator_call, start_call, step_call, opening_call, look_call, Element, Promised, Meets, event_number, number_of}
use Rattle.model_laws.proofs.Shown.{record_words, records, as_output}
use Rattle.model.proofs.Numbers.{Given, among_given, may_given}
use Rattle.guarantee.specs.Keeping.{OneNumber}
use Rattle.guarantee.specs.EmptyCycle.{NeverTwelve}
use Rattle.theory.specs.Calls as theory

-- ---- openings, and looks with an output or a scratch

is_number : (a : theory.Answer) (x n : ℕ) → a ≡ a_no x → refusal_in a ≡ some n → n ≡ x
is_number a x n e q = sym (some-injective x n (sym (ap refusal_in e) ∙ q))

size_table : (a : theory.Answer) (n : ℕ) → a ≡ a_no 1 → refusal_in a ≡ some n → Given n
size_table a n e q = let z = is_number a 1 n e q in ((omega arith, omega arith), λ y. omega arith)

opening_table : (g : Geometry) (before after : List ℕ) (r : Result Answer Refusal) (n : ℕ) → OpenPromise g before r after → refusal_of r ≡ some n → Given n
opening_table g before after r n q e = go (wrong_size g (length before)) refl
  where
    go : (b : Bool) → wrong_size g (length before) ≡ b → Given n
    go true h = size_table _ n (q.sizes h).0 e
    go false h = none_some (sym (ap refusal_in (q.exact h).0) ∙ e)

output_table : (long : Geometry → ℕ) (shown : Geometry → Mem → List ℕ) (g : Geometry) (mem output after : List ℕ) (r : Result Answer Refusal) (n : ℕ)
    → OutputPromise long shown g mem output r after → refusal_of r ≡ some n → Given n
output_table long shown g mem output after r n q e = go (wrong_size g (length mem)) refl (same_or_not (length output) (long g))
  where
    go : (b : Bool) → wrong_size g (length mem) ≡ b → (length output ≡ long g) ⊎ (length output ≡ long g → ⊥) → Given n
    go true h l = size_table _ n (q.sizes.0 h) e
    go false h (inr l) = size_table _ n (q.sizes.1 l) e
    go false h (inl l) = let z = q.torn h l n e in ((omega arith, omega arith), λ y. omega arith)

look_table : (g : Geometry) (mem : List ℕ) (l : Look) (n : ℕ) → LookPromise g mem l → look_number l ≡ some n → Given n
look_table g mem (saw_phase r) n q e = among_given n look_may_give tt (q.allowed n e)
look_table g mem (saw_states output r after) n q e = output_table record_words records g mem output after r n (as_output g mem output r after q) e
look_table g mem (saw_sheet output r after) n q e = output_table sheet_bytes sheet_of g mem output after r n q e
look_table g mem (examined_by scratch r after) n q e = go (wrong_size g (length mem)) refl (same_or_not (length scratch) (scratch_words g))
  where
    go : (b : Bool) → wrong_size g (length mem) ≡ b → (length scratch ≡ scratch_words g) ⊎ (length scratch ≡ scratch_words g → ⊥) → Given n
    go true h l = size_table _ n (q.sizes.0 h).0 e
    go false h (inr l) = size_table _ n (q.sizes.1 l).0 e
    go false h (inl l) = none_some (sym (q.answers h l) ∙ e)

every_number : (x : Element) → Meets x → (n : ℕ) → number_of x ≡ some n → Given n
every_number x = go x.event
  where
    go : (v : Event) → Promised v x.geometry x.before x.after → (n : ℕ) → event_number v ≡ some n → Given n
    go (mutator_call c r) q n e = may_given n c (q.allowed n e)
    go (start_call r) q n e = among_given n start_may_give tt (q.allowed n e)
    go (step_call r) q n e = among_given n step_may_give tt (q.allowed n e)
    go (opening_call r) q n e = opening_table x.geometry x.before x.after r n q e
    go (look_call l) q n e = look_table x.geometry x.before l n q.0 e

pub one_number_lem : OneNumber
one_number_lem x q n e = (every_number x q n e).0

pub never_twelve_lem : NeverTwelve
never_twelve_lem x q e = (every_number x q 12 e).1 refl
