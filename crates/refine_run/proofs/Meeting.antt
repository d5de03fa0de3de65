-- The definitions' own answers and memories keep the promises of the calls, over words of the right length, of step and the mutators' calls where
-- they are consistent.
use mathlib.Core.Path.{◌≡◌, refl, sym, ◌∙◌, ap, subst}
use mathlib.Core.Bool.{true, false, true≢false}
use mathlib.Core.Option.{none-ne-some}
use mathlib.Core.List.{List}
use Prim.Native.Nat.{ℕ, zero, suc}
use native.Mathlib.Omega.{arith}
use lib.ListN.{length}
use Rattle.layout.specs.declared.Geometry.{Geometry}
use Rattle.layout.specs.Geometry.{wrong_size, Sized}
use Rattle.layout.specs.Mem.{Mem, mem_of, flat, Sizes}
use Rattle.layout.proofs.Regions.{right_size, mem_of-flat}
use Rattle.theory.specs.Calls.{Call, refusal, refuse, a_no}
use Rattle.model.specs.Refusals.{refusal_numbered}
use Rattle.model.specs.Answers.{answer_of, refusal_in, IsOk, ResultOf, StepResult, among, may_give, start_may_give}
use Rattle.model.specs.Promise.{PromiseOf, Promise, StartPromise, StepPromise}
use Rattle.model.specs.Calls.{observe, act, exec}
use Rattle.model.specs.Collector.{start_of, step_of}
use Rattle.model.specs.Consistent.{Consistent}
use Rattle.model.specs.Run.{declared, declared_step}
use Rattle.model.proofs.Numbers.{Among, refusal_among, one_of, may_numbered}
use Rattle.model_laws.proofs.Lengths.{sizes_of}
use Rattle.refine_run.proofs.Sizing.{sizes_exec}
use Rattle.refine_run.proofs.Collecting.{sizes_start, sizes_step}
use Rattle.refine_run.proofs.Answering.{Answers, refuses, act_answers, start_answers, step_answers, step_result, result_declared}
use Rattle.theory.specs.Calls as theory

module _ (g : Geometry) (words : List ℕ) (z : Sized g (length words)) where
  right : wrong_size g (length words) ≡ false
  right = right_size g (length words) z

  not_wrong : wrong_size g (length words) ≡ true → ⊥
  not_wrong e = true≢false (sym e ∙ right)

  -- a call whose answers are fine and whose memory has its lengths keeps its promise
  keeps : (Result : Geometry → theory.Answer → Type 0) (ns : List ℕ) (does : Geometry → Mem → theory.Answer × Mem)
      → Answers (Result g) ns (does g (mem_of g words)).0 → Sizes g (does g (mem_of g words)).1
      → PromiseOf answer_of Result ns does g words (declared (does g (mem_of g words)).0) (flat (does g (mem_of g words)).1)
  keeps Result ns does a y = record {
    sizes = λ e. absurd (not_wrong e);
    exact = λ _ _. (a.same, mem_of-flat g (does g (mem_of g words)).1 y);
    kind = λ e. subst (Result g) (sym a.same) (a.kind (ap refusal_in (sym a.same) ∙ e));
    allowed = λ n e. a.allowed n (ap refusal_in (sym a.same) ∙ e);
    only_size = λ e. absurd (a.not_size (ap refusal_in (sym a.same) ∙ e));
  }

  -- a refusal from 2 to 9, or what the call answers that none of them refuses
  exec_answers : Consistent g (mem_of g words) → (c : Call) → Answers (ResultOf c) (may_give c) (exec g (mem_of g words) c).0
  unfolding exec
  exec_answers k c = go (refusal (observe (mem_of g words)) c) refl
    where
      go : (n : ℕ) → n ≡ refusal (observe (mem_of g words)) c → Answers (ResultOf c) (may_give c) (refuse n (mem_of g words) (act g (mem_of g words) c)).0
      go zero e = act_answers g (mem_of g words) k c (sym e)
      go (suc n) e =
          let r = one_of (may_give c) (suc n) (λ q. omega arith) (subst (Among (may_give c)) (sym e) (refusal_among (observe (mem_of g words)) c)) in
          let k = may_numbered (suc n) c r.0 in
          let l = r.1 in
          subst (λ x. Answers (ResultOf c) (may_give c) (a_no x)) k
          (refuses (ResultOf c) (may_give c) (refusal_numbered (suc n)) (subst (λ x. among x (may_give c) ≡ true) (sym k) r.0) (λ q. omega arith))

  pub meets_call : Consistent g (mem_of g words) → (c : Call) → Promise c g words (declared (exec g (mem_of g words) c).0) (flat (exec g (mem_of g words) c).1)
  meets_call k c = keeps (λ g. ResultOf c) (may_give c) (λ g m. exec g m c) (exec_answers k c) (sizes_exec g (mem_of g words) (sizes_of g words z) c)

  pub meets_start : StartPromise g words (declared (start_of g (mem_of g words)).0) (flat (start_of g (mem_of g words)).1)
  meets_start = keeps (λ g. IsOk) start_may_give start_of (start_answers g (mem_of g words)) (sizes_start g (mem_of g words) (sizes_of g words z))

  pub meets_step : Consistent g (mem_of g words) → StepPromise g words (declared_step (step_of g (mem_of g words)).0) (flat (step_of g (mem_of g words)).1)
  meets_step c =
      let a = step_result g (mem_of g words) c in
      let d = result_declared g (step_of g (mem_of g words)).0 a in
      let s = ap refusal_in d ∙ step_answers g (mem_of g words) in
      record {
        sizes = λ e. absurd (not_wrong e);
        exact = λ _ _. (d, mem_of-flat g (step_of g (mem_of g words)).1 (sizes_step g (mem_of g words) (sizes_of g words z)));
        kind = λ _. subst (StepResult g) (sym d) a;
        allowed = λ n q. absurd (none-ne-some n (sym s ∙ q));
        only_size = λ q. absurd (none-ne-some 1 (sym s ∙ q));
      }
