-- What a call promises is what its task owes, and it keeps the memory consistent.
use mathlib.Core.Path.{◌≡◌, refl, sym, ◌∙◌, ap, subst}
use mathlib.Core.Bool.{false, true≢false}
use mathlib.Core.List.{List}
use Prim.Native.Nat.{ℕ}
use lib.ListN.{length}
use Rattle.std.specs.Prelude.{Result}
use Rattle.layout.specs.declared.Geometry.{Geometry}
use Rattle.layout.specs.Geometry.{wrong_size}
use Rattle.layout.specs.Mem.{mem_of}
use Rattle.model.specs.declared.Answer.{Answer}
use Rattle.model.specs.declared.Refusal.{Refusal}
use Rattle.model.specs.declared.Step.{Step}
use Rattle.model.specs.Answers.{answer_of, step_answer_of}
use Rattle.model.specs.Promise.{Promise, StartPromise, StepPromise, OpenPromise}
use Rattle.model.specs.Consistent.{Consistent}
use Rattle.model.specs.Lists.{Event, mutator_call, start_call, step_call, Promised, IsOpening}
use Rattle.guarantee.proofs.Keeping.{opening_establishes, every_call-keeps}
use Rattle.perform.specs.declared.Request.{Request}
use Rattle.perform.specs.Requests.{call_of}
use Rattle.bracket_forms.specs.declared.Reply.{Reply}
use Rattle.bracket_steps.specs.declared.Task.{Task}
use Rattle.bracket_steps.specs.declared.Task.TheVariants.{Open, Call}
use Rattle.bracket_steps.specs.Said.{reply_of}
use Rattle.bracket_steps.specs.Ran.{Ran}
use Rattle.bracket_steps.specs.declared.Task.TheVariants as task

module _ (g : Geometry) (xs ys : List ℕ) (r : Reply) where
  -- a call over memory that passes the examination
  kept : (v : Event) → (IsOpening v → ⊥) → Promised v g xs ys → wrong_size g (length xs) ≡ false → Consistent g (mem_of g xs) → length ys ≡ length xs → Consistent g (mem_of g ys)
  kept v o p e k l =
      every_call-keeps g xs (record { geometry = g; before = xs; event = v; after = ys })
      (record { sized = e; consistent = k; meets = p; long = l; gets = record { geometry = refl; memory = refl; opening = o } })

  pub ran_open : {t : Task} {n : ℕ} (a : Result Answer Refusal) → t ≡ Open n → OpenPromise g xs a ys → r ≡ reply_of (answer_of a) → Ran t g xs r ys
  ran_open {n = n} a i p h =
      subst (λ z. Ran z g xs r ys) (sym i) (record {
        exact = λ e k. (h ∙ ap reply_of (p.exact e).0, (p.exact e).1);
        keeps = λ e k l. opening_establishes g xs ys (record {
          sized = e;
          opening = record { sizes = λ f. absurd (true≢false (sym f ∙ e)); exact = λ f. (refl, (p.exact f).1) };
          long = l;
        });
      })

  pub ran_call : {t : Task} {q : Request} (a : Result Answer Refusal) → t ≡ Call q → Promise (call_of q) g xs a ys → r ≡ reply_of (answer_of a) → Ran t g xs r ys
  ran_call {q = q} a i p h =
      subst (λ z. Ran z g xs r ys) (sym i) (record {
        exact = λ e k. (h ∙ ap reply_of (p.exact e k).0, (p.exact e k).1);
        keeps = kept (mutator_call (call_of q) a) (λ z. z) p;
      })

  pub ran_start : {t : Task} (a : Result Answer Refusal) → t ≡ task.Start → StartPromise g xs a ys → r ≡ reply_of (answer_of a) → Ran t g xs r ys
  ran_start a i p h =
      subst (λ z. Ran z g xs r ys) (sym i) (record {
        exact = λ e k. (h ∙ ap reply_of (p.exact e k).0, (p.exact e k).1);
        keeps = kept (start_call a) (λ z. z) p;
      })

  pub ran_step : {t : Task} (a : Step) → t ≡ task.Step → StepPromise g xs a ys → r ≡ reply_of (step_answer_of a) → Ran t g xs r ys
  ran_step a i p h =
      subst (λ z. Ran z g xs r ys) (sym i) (record {
        exact = λ e k. (h ∙ ap reply_of (p.exact e k).0, (p.exact e k).1);
        keeps = kept (step_call a) (λ z. z) p;
      })
