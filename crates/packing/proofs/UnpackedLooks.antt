-- The answer of a look that keeps its promise, packed and unpacked, is that answer.
use mathlib.Core.Path.{◌≡◌, refl, sym, ◌∙◌, ap, subst}
use mathlib.Core.Bool.{Bool, true, false}
use mathlib.Core.List.{List}
use Prim.Native.Nat.{ℕ, suc}
use Rattle.std.specs.Prelude.{Result, Ok, Err}
use Rattle.layout.specs.declared.Geometry.{Geometry}
use Rattle.layout.specs.Mem.{Mem}
use Rattle.theory.specs.Phases.{sweep}
use Rattle.model.specs.declared.Answer.{Answer}
use Rattle.model.specs.declared.Refusal.{Refusal}
use Rattle.model.specs.declared.Refusal.TheVariants.{Torn}
use Rattle.model.specs.PhaseNumbers.{phase_number}
use Rattle.model.specs.Promise.{PhasePromise, StatesPromise, OutputPromise, ExaminePromise}
use Rattle.model_laws.proofs.Shown.{record_words, records, as_states, as_output}
use Rattle.packing.specs.Packed.{numbered_or, pack, unpack, pack_phase, unpack_phase, judged, pack_examined, unpack_examined}
use Rattle.packing.proofs.Halves.{value_back, error_back}
use Rattle.packing.proofs.Unpacked.{unpacked}

-- ---- the phase

unpacked_phase : (a : Result ℕ Refusal) → unpack_phase (pack_phase a) ≡ a
unpacked_phase (Ok p) = value_back (numbered_or (Ok (suc (phase_number sweep)))) Ok p
unpacked_phase (Err e) = error_back (Ok (suc (phase_number sweep))) Ok e

pub exports_phase : (g' g : Geometry) (xs : List ℕ) (a : Result ℕ Refusal) → g' ≡ g → PhasePromise g' xs a → (n : ℕ) → n ≡ pack_phase a → PhasePromise g xs (unpack_phase n)
exports_phase g' g xs a same p n e =
    subst (λ z. PhasePromise z xs (unpack_phase n)) same (subst (λ z. PhasePromise g' xs z) (sym (ap unpack_phase e ∙ unpacked_phase a)) p)

-- ---- a look with a lent output: the segments' states, and the sheet

pub exports_output : (long : Geometry → ℕ) (shown : Geometry → Mem → List ℕ) (g' g : Geometry) (xs out after : List ℕ) (a : Result Answer Refusal) → g' ≡ g
    → OutputPromise long shown g' xs out a after → (n : ℕ) → n ≡ pack a → OutputPromise long shown g xs out (unpack n) after
exports_output long shown g' g xs out after a same p n e =
    subst (λ z. OutputPromise long shown z xs out (unpack n) after) same (subst (λ z. OutputPromise long shown g' xs out z after) (sym (ap unpack e ∙ unpacked a p.kind)) p)

-- the look at the segments' states
pub exports_states : (g' g : Geometry) (xs out after : List ℕ) (a : Result Answer Refusal) → g' ≡ g → StatesPromise g' xs out a after → (n : ℕ) → n ≡ pack a
    → StatesPromise g xs out (unpack n) after
exports_states g' g xs out after a same p n e =
    as_states g xs out (unpack n) after (exports_output record_words records g' g xs out after a same (as_output g' xs out a after p) n e)

-- ---- the examination

unpacked_examined : (a : Result Bool Refusal) → unpack_examined (pack_examined a) ≡ a
unpacked_examined (Ok true) = refl
unpacked_examined (Ok false) = refl
unpacked_examined (Err e) = error_back (Err Torn) judged e

pub exports_examine : (g' g : Geometry) (xs scratch after : List ℕ) (a : Result Bool Refusal) → g' ≡ g → ExaminePromise g' xs scratch a after → (n : ℕ)
    → n ≡ pack_examined a → ExaminePromise g xs scratch (unpack_examined n) after
exports_examine g' g xs scratch after a same p n e =
    subst (λ z. ExaminePromise z xs scratch (unpack_examined n) after) same (subst (λ z. ExaminePromise g' xs scratch z after) (sym (ap unpack_examined e ∙ unpacked_examined a)) p)
