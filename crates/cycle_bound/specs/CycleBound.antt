-- Request No. 7, "How long a cycle can be": "After a start that is not refused, over memory that passes the examination, with no opening since and each
-- call given what the last one left, steps neither refused nor answered waiting, up to and including done, are at most B + C + 4."
use Rattle.std.specs.Prelude.{◌≡◌, true, false, List, [], ◌∷◌, ◌++◌, ℕ, ◌+◌, ◌-◌, ◌≤◌, ◌<◌, length, Ok}
use Rattle.std.proofs.Math.Option.{Option, none, some}
use Rattle.layout.specs.declared.Geometry.{Geometry}
use Rattle.layout.specs.Geometry.{wrong_size, mutator_count, mark_bit}
use Rattle.layout.specs.Mem.{Mem, mem_of, trace_word}
use Rattle.theory.specs.Phases.{Phase, idle, sync1, sync2, mark, sweep, in_handshake, owes}
use Rattle.model.specs.declared.Step.{Step}
use Rattle.model.specs.declared.Step.TheVariants.{Waiting, Moved, Traced, Done, Idle}
use Rattle.model.specs.Fields.{phase, trace_count, state, acks, class}
use Rattle.model.specs.Records.{header_of, marked}
use Rattle.model.specs.Tracing.{traced}
use Rattle.model.specs.Calls.{is_inside}
use Rattle.model.specs.Collector.{waiting}
use Rattle.model.specs.Consistent.{Consistent, BlockInUse}
use Rattle.model.specs.Promise.{StepPromise}
use Rattle.model.specs.Lists.{start_call, step_call, Element, start_element, wrong_sized, next_words, Chain, words_after, Ghost, Begins}
use Rattle.guarantee.specs.Totals.{blocks_in_use}
use Rattle.cycle_bound.specs.StepsLeft.{counted, condemned_in}
use Rattle.model.specs.Fields as Fields
use Rattle.model.specs.declared.Answer.TheVariants as call_answer

-- ---- B

-- the memory at the first point of a list whose phase is mark, the point before its first call among them; none where there is none
abbrev pub or_later : Phase → Mem → Option Mem → Option Mem
or_later idle m later = later
or_later sync1 m later = later
or_later sync2 m later = later
or_later mark m later = some m
or_later sweep m later = later

abbrev pub at_mark : Geometry → List ℕ → List Element → Option Mem
at_mark g words [] = or_later (phase (mem_of g words)) (mem_of g words) none
at_mark g words (e ∷ es) = or_later (phase (mem_of g words)) (mem_of g words) (at_mark g (next_words words e) es)

abbrev pub used_in : Geometry → Option Mem → ℕ
used_in g none = 0
used_in g (some m) = blocks_in_use g m

-- "B is the number of blocks in use when the phase became mark"; 0 as long as it has not
abbrev pub used_at_mark : Geometry → List ℕ → List Element → ℕ
used_at_mark g words es = used_in g (at_mark g words es)

-- ---- a cycle

-- "up to and including done": no call follows a step that answers done
abbrev pub DoneLast : List Element → Type 0
DoneLast ds = (xs ys : List Element) (e : Element) → ds ≡ xs ++ (e ∷ ys) → e.event ≡ step_call Done → ys ≡ []

-- a start that is not refused, over any memory that passes the examination, and the calls after it, of every kind and in any order, to the cycle's done
-- or to any point before it. "with no opening since and each call given what the last one left" is `Chain`: a call refused 1, an opening too, may stand
-- between with memory of its own
pub record InCycle (g : Geometry) (words after : List ℕ) (ds : List Element) : Type 0 where
  pub sized : wrong_size g (length words) ≡ false
  pub consistent : Consistent g (mem_of g words)
  pub chain : Chain g words (start_element g words (Ok call_answer.Done) after ∷ ds)
  pub done_last : DoneLast ds

-- ---- "Each traced answer belongs to a different block."

-- the record that a step in mark, lent memory m, takes: the one that the last entry of the trace stack names; and the bit of its block
abbrev pub traced_record : Mem → ℕ
traced_record m = trace_word m (trace_count m - 1) - 1

abbrev pub traced_block : Mem → ℕ
traced_block m = mark_bit (traced_record m)

-- the block of a step that was lent memory m and left m', where `became` is the memory when the phase became mark: it was in use then and is so now, and
-- this step marks it. By `same_class` a block has one bit throughout mark, so different bits are different blocks
pub record BelongsTo (g : Geometry) (became m m' : Mem) : Type 0 where
  pub segment : ℕ
  pub block : ℕ
  pub in_use : BlockInUse g m segment block
  pub header : traced_record m ≡ header_of g segment (class m segment) block
  pub unmarked : marked g m (traced_record m) ≡ 0
  pub does : m' ≡ traced g m (traced_record m)
  pub is_marked : marked g m' (traced_record m) ≡ 1
  pub same_class : class m segment ≡ class became segment
  pub was_in_use : BlockInUse g became segment block

-- ---- "Waiting is answered only while some inside script owes an answer."

-- the memory lent to a step that answers waiting n: a handshake, n mutators inside that owe, and one of these
pub record WaitsFor (m : Mem) (n : ℕ) : Type 0 where
  pub handshake : in_handshake (phase m) ≡ true
  pub number : n ≡ waiting m mutator_count
  pub mutator : ℕ
  pub few : mutator < mutator_count
  pub inside : state m mutator ≡ Fields.inside
  pub owing : owes (phase m) (acks m mutator) ≡ true

abbrev pub NobodyOwes : Mem → Type 0
NobodyOwes m = (k : ℕ) → k < mutator_count → is_inside m k ≡ true → owes (phase m) (acks m k) ≡ false

-- a step over any memory that passes the examination: it waits only where somebody inside owes; and where nobody does, a handshake moves on
pub record WaitsOnly : Type 0 where
  pub waits : (g : Geometry) (words after : List ℕ) (n : ℕ) → wrong_size g (length words) ≡ false → Consistent g (mem_of g words)
      → StepPromise g words (Waiting n) after → WaitsFor (mem_of g words) n
  pub moves : (g : Geometry) (words after : List ℕ) (r : Step) → wrong_size g (length words) ≡ false → Consistent g (mem_of g words)
      → StepPromise g words r after → in_handshake (phase (mem_of g words)) ≡ true → NobodyOwes (mem_of g words) → r ≡ Moved

-- ---- the theorem

pub record CycleBound (g : Geometry) (after : List ℕ) (ds : List Element) : Type 0 where
  -- "at most B + C + 4": "C the number of segments that start condemned"
  pub bound : counted ds ≤ used_at_mark g after ds + condemned_in g (mem_of g after) + 4
  -- a cycle that is not over has a step left: the far end is reached with done alone
  pub unfinished : (phase (mem_of g (words_after after ds)) ≡ idle → ⊥) → counted ds < used_at_mark g after ds + condemned_in g (mem_of g after) + 4
  -- it is one cycle: no step answers idle, and no start is accepted
  pub one_cycle : (xs ys : List Element) (e : Element) → ds ≡ xs ++ (e ∷ ys) → (e.event ≡ step_call Idle → ⊥) × (e.event ≡ start_call (Ok call_answer.Done) → ⊥)
  pub belongs : (xs ys : List Element) (e : Element) → ds ≡ xs ++ (e ∷ ys) → e.event ≡ step_call Traced
      → (became : Mem) × (at_mark g after ds ≡ some became) × BelongsTo g became (mem_of g e.before) (mem_of g e.after)
  pub distinct : (xs ys zs : List Element) (d e : Element) → ds ≡ xs ++ (d ∷ (ys ++ (e ∷ zs))) → d.event ≡ step_call Traced → e.event ≡ step_call Traced
      → traced_block (mem_of g d.before) ≡ traced_block (mem_of g e.before) → ⊥
  pub waits : (xs ys : List Element) (e : Element) (n : ℕ) → ds ≡ xs ++ (e ∷ ys) → e.event ≡ step_call (Waiting n) → WaitsFor (mem_of g e.before) n
  -- a step that is lent the list's memory
  pub moves : (xs ys : List Element) (e : Element) (r : Step) → ds ≡ xs ++ (e ∷ ys) → e.event ≡ step_call r → wrong_sized e ≡ false
      → in_handshake (phase (mem_of g e.before)) ≡ true → NobodyOwes (mem_of g e.before) → r ≡ Moved

abbrev pub EveryCycle : Type 0
EveryCycle = (g : Geometry) (words after : List ℕ) (ds : List Element) → InCycle g words after ds → CycleBound g after ds

-- every start that is not refused begins such a cycle: in every list over memory that passes the examination, and so in every list from an opening
pub record EveryStartBegins : Type 0 where
  pub anywhere : (g : Geometry) (words : List ℕ) (es xs ds ys : List Element) (u v : List ℕ) → wrong_size g (length words) ≡ false → Consistent g (mem_of g words)
      → Chain g words es → es ≡ xs ++ (start_element g u (Ok call_answer.Done) v ∷ (ds ++ ys)) → DoneLast ds → InCycle g u v ds
  pub from_opening : (g : Geometry) (words : List ℕ) (w : Ghost) (es xs ds ys : List Element) (u v : List ℕ) → Begins g words w
      → Chain g words es → es ≡ xs ++ (start_element g u (Ok call_answer.Done) v ∷ (ds ++ ys)) → DoneLast ds → InCycle g u v ds
