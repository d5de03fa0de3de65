-- An answer in a number, as C takes it: the lower 32 bits are 0 or the number of a refusal, the upper 32 bits the value that a call answers.
use Rattle.std.specs.Prelude.{Bool, true, false, ℕ, zero, suc, ◌+◌, ◌*◌, ◌/◌, ◌%◌, ◌^◌, eqb, ltb, Result, Ok, Err}
use Rattle.basics.specs.Pick.{pick}
use Rattle.classes.specs.Record.{pointer_count_of, value_count_of}
use Rattle.layout.specs.declared.Geometry.{Geometry}
use Rattle.layout.specs.Geometry.{max_segments, no_kib, len}
use Rattle.model.specs.declared.Answer.{Answer}
use Rattle.model.specs.declared.Answer.TheVariants.{Done, Number, Same, Shape}
use Rattle.model.specs.declared.Refusal.{Refusal}
use Rattle.model.specs.declared.Refusal.TheVariants.{Torn}
use Rattle.model.specs.declared.Step.{Step}
use Rattle.theory.specs.Phases.{sweep}
use Rattle.model.specs.PhaseNumbers.{phase_number}
use Rattle.model.specs.Records.{half_word, header_shape}
use Rattle.model.specs.Refusals.{number_of, refusal_numbered}
use Rattle.layout.specs.Region as Region
use Rattle.model.specs.declared.Step.TheVariants as step

-- "Each call names 16 or 32 KiB for the whole heap beside the segment count"
abbrev pub geometry_of : (segments kib : ℕ) → Geometry
geometry_of n k = record { segments = n; kib = k }

-- "segment count not 1 to 256", "a segment size other than these two"
abbrev pub no_size : (segments kib : ℕ) → Bool
no_size n k = pick (ltb n 1) true (pick (ltb max_segments n) true (no_kib k))

-- the length of a lent slice for a count of segments and their size, 0 where either is none
abbrev pub length_for : (Geometry → ℕ) → (segments kib : ℕ) → ℕ
length_for words n k = pick (no_size n k) 0 (words (geometry_of n k))

-- the length of the output of the look at the segments' states
abbrev pub states_words : Geometry → ℕ
states_words g = len g Region.segments

-- ---- the refusal of a number: where none has it, as 0 and 14, the number stands for an answer that the call may not give

abbrev pub numbered_or : {A : Type 0} → Result A Refusal → ℕ → Result A Refusal
numbered_or other n = pick (eqb (number_of (refusal_numbered n)) n) (Err (refusal_numbered n)) other

-- ---- a call that answers ok: 0, or the number of its refusal

abbrev pub unpack : ℕ → Result Answer Refusal
unpack zero = Ok Done
unpack (suc n) = numbered_or (Ok (Number 0)) (suc n)

abbrev pub pack : Result Answer Refusal → ℕ
pack (Ok a) = 0
pack (Err e) = number_of e

-- ---- a call that answers a value, above the number

-- the lowest of the upper 32 bits
abbrev pub upper : ℕ
upper = 2 ^ 32

-- a number that has both a value and a refusal stands for no answer that a call may give
abbrev pub with_value : {A : Type 0} → (ℕ → A) → (ℕ → A) → ℕ → ℕ → A
with_value refused answer v zero = answer v
with_value refused answer zero (suc n) = refused (suc n)
with_value refused answer (suc v) (suc n) = refused 0

-- get: the number
abbrev pub unpack_number : ℕ → Result Answer Refusal
unpack_number r = with_value (numbered_or (Ok Done)) (λ v. Ok (Number v)) (r / upper) (r % upper)

-- same: 1 or 0
abbrev pub flagged : ℕ → Result Answer Refusal
flagged zero = Ok (Same false)
flagged (suc zero) = Ok (Same true)
flagged (suc (suc v)) = Ok Done

abbrev pub unpack_same : ℕ → Result Answer Refusal
unpack_same r = with_value (numbered_or (Ok Done)) flagged (r / upper) (r % upper)

abbrev pub flag : Bool → ℕ
flag true = 1
flag false = 0

-- shape: as a record's header has it, the pointers' count in the upper half
abbrev pub shaped : ℕ → Result Answer Refusal
shaped v = Ok (Shape (header_shape v))

abbrev pub unpack_shape : ℕ → Result Answer Refusal
unpack_shape r = with_value (numbered_or (Ok Done)) shaped (r / upper) (r % upper)

abbrev pub pack_value : Result Answer Refusal → ℕ
pack_value (Ok Done) = 0
pack_value (Ok (Number v)) = v * upper
pack_value (Ok (Same b)) = flag b * upper
pack_value (Ok (Shape s)) = (pointer_count_of s % half_word * half_word + value_count_of s % half_word) * upper
pack_value (Err e) = number_of e

-- ---- step: which answer in the lowest 8 of the upper bits, the mutators waited for or the segment in the next 8, the blocks freed in the 16 above

abbrev pub pack_step : Step → ℕ
pack_step step.Idle = 0
pack_step (step.Waiting n) = (1 + n % 256 * 256) * upper
pack_step step.Moved = 2 * upper
pack_step step.Traced = 3 * upper
pack_step (step.Swept s f) = (4 + s % 256 * 256 + f % 65536 * 65536) * upper
pack_step step.Done = 5 * upper
pack_step (step.Refused n) = n

-- by its three numbers
abbrev pub step_by : ℕ → ℕ → ℕ → Step
step_by zero a f = step.Idle
step_by (suc zero) a f = step.Waiting a
step_by (suc (suc zero)) a f = step.Moved
step_by (suc (suc (suc zero))) a f = step.Traced
step_by (suc (suc (suc (suc zero)))) a f = step.Swept a f
step_by (suc (suc (suc (suc (suc zero))))) a f = step.Done
step_by (suc (suc (suc (suc (suc (suc n)))))) a f = step.Refused 0

-- a number in which more stands than that stands for no answer that a step may give
abbrev pub if_packed : ℕ → Step → Step
if_packed r a = pick (eqb (pack_step a) r) a (step.Refused 0)

abbrev pub unpack_step : ℕ → Step
unpack_step r = with_value step.Refused (λ v. if_packed r (step_by (v % 256) (v / 256 % 256) (v / 65536))) (r / upper) (r % upper)

-- ---- the looks: the phase's number; whether the examination says yes

-- a number past the last phase's is no phase's
abbrev pub unpack_phase : ℕ → Result ℕ Refusal
unpack_phase r = with_value (numbered_or (Ok (suc (phase_number sweep)))) Ok (r / upper) (r % upper)

abbrev pub pack_phase : Result ℕ Refusal → ℕ
pack_phase (Ok p) = p * upper
pack_phase (Err e) = number_of e

-- 1 or 0; the examination is never refused 13
abbrev pub judged : ℕ → Result Bool Refusal
judged zero = Ok false
judged (suc zero) = Ok true
judged (suc (suc v)) = Err Torn

abbrev pub unpack_examined : ℕ → Result Bool Refusal
unpack_examined r = with_value (numbered_or (Err Torn)) judged (r / upper) (r % upper)

abbrev pub pack_examined : Result Bool Refusal → ℕ
pack_examined (Ok true) = upper
pack_examined (Ok false) = 0
pack_examined (Err e) = number_of e
