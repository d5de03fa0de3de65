-- The answer of a step that keeps step's promise, packed and unpacked, is that answer.
use mathlib.Core.Path.{◌≡◌, refl, sym, ◌∙◌, ap, subst}
use mathlib.Core.Bool.{Bool, true, false}
use mathlib.Core.Option.{none, some}
use mathlib.Core.List.{List}
use Prim.Native.Nat.{ℕ, ◌+◌, ◌*◌, ◌/◌, ◌%◌, ◌≤◌, ◌<◌}
use native.Mathlib.Omega.{arith}
use lib.ListN.{length}
use borrow.Author.Tests.{eq-eqb}
use Rattle.layout.specs.declared.Geometry.{Geometry}
use Rattle.layout.specs.Geometry.{wrong_size, max_segments, mutator_count, most_blocks}
use Rattle.layout.proofs.Regions.{sized}
use Rattle.layout.proofs.Sizes.{most_small}
use Rattle.theory.specs.Calls.{a_no}
use Rattle.model.specs.declared.Step.{Step}
use Rattle.model.specs.Answers.{step_answer_of, step_refusal_of, StepResult, is_waiting, is_moved, is_traced, is_swept, is_done, is_idle, step_may_give}
use Rattle.model.specs.Promise.{StepPromise}
use Rattle.model.proofs.Numbers.{OfTable, among_table}
use Rattle.theory.specs.Calls as theory
use Rattle.packing.specs.Packed.{if_packed, upper, pack_step, step_by, unpack_step}
use Rattle.packing.proofs.Halves.{refused_back}
use Rattle.model.specs.declared.Step.TheVariants as step

-- the three numbers of an answer are small, or it is refused with a number of the table
abbrev Small : Step → Type 0
Small step.Idle = Unit
Small (step.Waiting n) = n < 256
Small step.Moved = Unit
Small step.Traced = Unit
Small (step.Swept s f) = (s < 256) × (f < 65536)
Small step.Done = Unit
Small (step.Refused n) = (1 ≤ n) × (n < upper)

-- v is what stands in the upper bits of the packed answer
by_parts : (a : Step) (v : ℕ) → pack_step a ≡ v * upper → step_by (v % 256) (v / 256 % 256) (v / 65536) ≡ a → unpack_step (pack_step a) ≡ a
by_parts a v e q =
    let x : pack_step a / upper ≡ v = omega arith in
    let y : pack_step a % upper ≡ 0 = omega arith in
    rw (x, y, q, eq-eqb (pack_step a) (pack_step a) refl) refl

unpacked_step : (a : Step) → Small a → unpack_step (pack_step a) ≡ a
unpacked_step step.Idle k = refl
unpacked_step (step.Waiting n) k =
    let z : n % 256 ≡ n = omega arith in
    let x : (1 + n * 256) % 256 ≡ 1 = omega arith in
    let d : (1 + n * 256) / 256 ≡ n = omega arith in
    by_parts (step.Waiting n) (1 + n * 256) (ap (λ v. (1 + v * 256) * upper) z) (rw (x, d, z) refl)
unpacked_step step.Moved k = refl
unpacked_step step.Traced k = refl
unpacked_step (step.Swept s f) k =
    let l = k.0 in
    let h = k.1 in
    let u : s % 256 ≡ s = omega arith in
    let v : f % 65536 ≡ f = omega arith in
    let e : 4 + s % 256 * 256 + f % 65536 * 65536 ≡ 4 + s * 256 + f * 65536 = rw (u, v) refl in
    let x : (4 + s * 256 + f * 65536) % 256 ≡ 4 = omega arith in
    let d : (4 + s * 256 + f * 65536) / 256 ≡ s + f * 256 = omega arith in
    let y : (4 + s * 256 + f * 65536) / 256 % 256 ≡ s = rw d (omega arith) in
    let w : (4 + s * 256 + f * 65536) / 65536 ≡ f = omega arith in
    by_parts (step.Swept s f) (4 + s * 256 + f * 65536) (ap (λ z. z * upper) e) (rw (x, y, w) refl)
unpacked_step step.Done k = refl
unpacked_step (step.Refused n) k = refused_back step.Refused (λ v. if_packed (pack_step (step.Refused n)) (step_by (v % 256) (v / 256 % 256) (v / 65536))) n k.0 k.1

-- ---- what step promises of its numbers over memory of any content

abbrev Bounds : Geometry → theory.Answer → Type 0
Bounds g theory.a_ok = Unit
Bounds g theory.a_moved = Unit
Bounds g theory.a_traced = Unit
Bounds g theory.a_done = Unit
Bounds g theory.a_idle = Unit
Bounds g (theory.a_num v) = Unit
Bounds g (theory.a_flag b) = Unit
Bounds g (theory.a_shape s) = Unit
Bounds g (theory.a_no n) = Unit
Bounds g (theory.a_waiting n) = n ≤ mutator_count
Bounds g (theory.a_swept s f) = (s < g.segments) × (f ≤ most_blocks g)

bounded : {g : Geometry} {r : theory.Answer} → StepResult g r → Bounds g r
bounded (is_waiting n l h) = h
bounded is_moved = tt
bounded is_traced = tt
bounded (is_swept s f l h) = (l, h)
bounded is_done = tt
bounded is_idle = tt

module _ (g : Geometry) (few : g.segments ≤ max_segments) where
  small_by : (b : Step) → (step_refusal_of b ≡ none → StepResult g (step_answer_of b)) → ((n : ℕ) → step_refusal_of b ≡ some n → OfTable n) → Small b
  small_by step.Idle k t = tt
  small_by (step.Waiting n) k t = let l = bounded (k refl) in omega arith
  small_by step.Moved k t = tt
  small_by step.Traced k t = tt
  small_by (step.Swept s f) k t = let l = (bounded (k refl)).0 in let h = (bounded (k refl)).1 in let m = most_small g in (omega arith, omega arith)
  small_by step.Done k t = tt
  small_by (step.Refused n) k t = let z = t n refl in let l = z.0 in let h = z.1 in (omega arith, omega arith)

small_1 : (b : Step) → step_answer_of b ≡ a_no 1 → Small b
small_1 step.Idle e = tt
small_1 (step.Waiting n) e = absurd (let z : ◌≡◌ {A = ℕ} 0 1 = cc in omega arith)
small_1 step.Moved e = tt
small_1 step.Traced e = tt
small_1 (step.Swept s f) e = absurd (let z : ◌≡◌ {A = ℕ} 0 1 = cc in omega arith)
small_1 step.Done e = tt
small_1 (step.Refused n) e = let z : n ≡ 1 = cc in (omega arith, omega arith)

pub exports_step : (g' g : Geometry) (xs ys : List ℕ) (a : Step) → g' ≡ g → StepPromise g' xs a ys → (n : ℕ) → n ≡ pack_step a → StepPromise g xs (unpack_step n) ys
exports_step g' g xs ys a same p n e =
    subst (λ z. StepPromise z xs (unpack_step n) ys) same (subst (λ z. StepPromise g' xs z ys) (sym (ap unpack_step e ∙ unpacked_step a (go (wrong_size g' (length xs)) refl))) p)
  where
    go : (b : Bool) → wrong_size g' (length xs) ≡ b → Small a
    go true q = small_1 a (p.sizes q).0
    go false q = small_by g' (sized g' (length xs) q).few a p.kind (λ n i. among_table n step_may_give tt (p.allowed n i))
