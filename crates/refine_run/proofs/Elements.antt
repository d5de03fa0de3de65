-- One element of a list of calls, by its promise alone: of wrong sizes it is refused 1 and leaves its memory as it was; lent the list's memory,
-- it is an event over that memory.
use mathlib.Core.Path.{◌≡◌, refl, sym, ◌∙◌, ap}
use mathlib.Core.Logic.{◌⊎◌, inl, inr}
use mathlib.Core.Bool.{Bool, true, false, not, true≢false}
use mathlib.Core.Option.{none, some}
use mathlib.Core.List.{List}
use Prim.Native.Nat.{ℕ}
use lib.ListN.{length}
use borrow.Author.Tests.{eqb-true, eqb-false}
use Rattle.basics.specs.Pick.{pick}
use Rattle.layout.specs.declared.Geometry.{Geometry}
use Rattle.layout.specs.Geometry.{wrong_size}
use Rattle.layout.specs.Mem.{mem_of}
use Rattle.model.specs.Answers.{refusal_in}
use Rattle.model.specs.Consistent.{Consistent}
use Rattle.model.specs.Looks.{Look, saw_phase, saw_states, saw_sheet, examined_by, LookPromise, look_sized, look_number}
use Rattle.model.specs.Lists.{Event, mutator_call, start_call, step_call, opening_call, look_call, Element, Promised, Meets, Gets, wrong_sizes, wrong_sized, event_number, number_of, next_words}

-- ---- looks

either : (a b : Bool) → pick a true (not b) ≡ true → (a ≡ true) ⊎ (b ≡ false)
either true b h = inl refl
either false true h = absurd (true≢false (sym h))
either false false h = inr refl

module _ (g : Geometry) (mem : List ℕ) where
  -- refused 1 where a size is wrong
  pub look_size : (l : Look) → LookPromise g mem l → (wrong_size g (length mem) ≡ true) ⊎ (look_sized g l ≡ false) → look_number l ≡ some 1
  look_size (saw_phase r) q (inl h) = ap refusal_in (q.sizes h).0
  look_size (saw_phase r) q (inr h) = absurd (true≢false h)
  look_size (saw_states output r after) q (inl h) = ap refusal_in (q.sizes.0 h)
  look_size (saw_states output r after) q (inr h) = ap refusal_in (q.sizes.1 (eqb-false _ _ h))
  look_size (saw_sheet output r after) q (inl h) = ap refusal_in (q.sizes.0 h)
  look_size (saw_sheet output r after) q (inr h) = ap refusal_in (q.sizes.1 (eqb-false _ _ h))
  look_size (examined_by scratch r after) q (inl h) = ap refusal_in (q.sizes.0 h).0
  look_size (examined_by scratch r after) q (inr h) = ap refusal_in (q.sizes.1 (eqb-false _ _ h)).0

  -- and else, of memory that passes the examination, not at all
  pub look_answers : (l : Look) → LookPromise g mem l → wrong_size g (length mem) ≡ false → Consistent g (mem_of g mem) → look_sized g l ≡ true → look_number l ≡ none
  look_answers (saw_phase r) q w c h = ap refusal_in (q.exact w c).0
  look_answers (saw_states output r after) q w c h = ap refusal_in (q.exact w (eqb-true _ _ h) c).0
  look_answers (saw_sheet output r after) q w c h = ap refusal_in (q.exact w (eqb-true _ _ h) c).0
  look_answers (examined_by scratch r after) q w c h = q.answers w (eqb-true _ _ h)

-- ---- of wrong sizes

pub size_number : (e : Element) → Meets e → wrong_sized e ≡ true → number_of e ≡ some 1
size_number e = go e.event
  where
    go : (v : Event) → Promised v e.geometry e.before e.after → wrong_sizes v e.geometry (length e.before) ≡ true → event_number v ≡ some 1
    go (mutator_call c r) q h = ap refusal_in (q.sizes h).0
    go (start_call r) q h = ap refusal_in (q.sizes h).0
    go (step_call r) q h = ap refusal_in (q.sizes h).0
    go (opening_call r) q h = ap refusal_in (q.sizes h).0
    go (look_call l) q h = look_size e.geometry e.before l q.0 (either _ _ h)

pub size_unchanged : (e : Element) → Meets e → wrong_sized e ≡ true → e.after ≡ e.before
size_unchanged e = go e.event
  where
    go : (v : Event) → Promised v e.geometry e.before e.after → wrong_sizes v e.geometry (length e.before) ≡ true → e.after ≡ e.before
    go (mutator_call c r) q h = (q.sizes h).1
    go (start_call r) q h = (q.sizes h).1
    go (step_call r) q h = (q.sizes h).1
    go (opening_call r) q h = (q.sizes h).1
    go (look_call l) q h = q.1

-- ---- lent the list's memory

module _ (g : Geometry) (words : List ℕ) where
  -- an event over it
  abbrev pub over : Event → List ℕ → Element
  over v after = record { geometry = g; before = words; event = v; after = after }

  pub is_over : (e : Element) → Gets g words e → e ≡ over e.event e.after
  is_over e h = λ i. record { geometry = h.geometry i; before = h.memory i; event = e.event; after = e.after }

  -- what it leaves is the memory after it
  pub ahead : (e : Element) → Meets e → Gets g words e → next_words words e ≡ e.after
  ahead e q h = go (wrong_sized e) refl
    where
      go : (b : Bool) → wrong_sized e ≡ b → pick b words e.after ≡ e.after
      go true w = sym (size_unchanged e q w ∙ h.memory)
      go false w = refl
