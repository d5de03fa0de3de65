-- Lists of calls from one opening to the next, as document 01's section on the endless rack takes them. An element is a call with what it was
-- lent, its answer, and what it left; all that is known of it is its promise, and that its slice keeps its length.
use Rattle.std.specs.Prelude.{◌≡◌, ◌⊎◌, Bool, true, false, not, List, [], ◌∷◌, ℕ, ◌-◌, length, Result, Ok}
use Rattle.std.proofs.Math.Option.{Option, none, some, map}
use Rattle.basics.specs.Pick.{pick}
use Rattle.layout.specs.declared.Geometry.{Geometry}
use Rattle.layout.specs.Geometry.{wrong_size}
use Rattle.layout.specs.Mem.{mem_of}
use Rattle.theory.specs.Calls.{Call}
use Rattle.theory.specs.Unbounded.{Unbounded, UReached, empty, uexec, puts}
use Rattle.model.specs.declared.Answer.{Answer}
use Rattle.model.specs.declared.Answer.TheVariants.{Done}
use Rattle.model.specs.declared.Refusal.{Refusal}
use Rattle.model.specs.declared.Step.{Step}
use Rattle.model.specs.Answers.{answer_of, refusal_of, step_refusal_of}
use Rattle.model.specs.Promise.{Promise, StartPromise, StepPromise, OpenPromise}
use Rattle.model.specs.Looks.{Look, LookPromise, look_sized, look_number}
use Rattle.model.specs.Fields.{root}
use Rattle.theory.specs.Calls as theory

-- ---- elements

-- a mutator's call, the collector's calls, an opening and a look, each with its answer
pub data Event : Type 0 where
  mutator_call : Call → Result Answer Refusal → Event
  start_call : Result Answer Refusal → Event
  step_call : Step → Event
  opening_call : Result Answer Refusal → Event
  look_call : Look → Event

-- an event with the memory that it was lent and the memory that it left
pub record Element : Type 0 where
  pub geometry : Geometry
  pub before : List ℕ
  pub event : Event
  pub after : List ℕ

abbrev pub call_element : Call → Geometry → (before : List ℕ) → Result Answer Refusal → (after : List ℕ) → Element
call_element c g before r after = record { geometry = g; before = before; event = mutator_call c r; after = after }

abbrev pub start_element : Geometry → (before : List ℕ) → Result Answer Refusal → (after : List ℕ) → Element
start_element g before r after = record { geometry = g; before = before; event = start_call r; after = after }

abbrev pub step_element : Geometry → (before : List ℕ) → Step → (after : List ℕ) → Element
step_element g before r after = record { geometry = g; before = before; event = step_call r; after = after }

-- "A look changes nothing but its lent output .. and its lent scratch"
abbrev pub Promised : Event → Geometry → (before after : List ℕ) → Type 0
Promised (mutator_call c r) g before after = Promise c g before r after
Promised (start_call r) g before after = StartPromise g before r after
Promised (step_call r) g before after = StepPromise g before r after
Promised (opening_call r) g before after = OpenPromise g before r after
Promised (look_call l) g before after = LookPromise g before l × (after ≡ before)

-- it keeps its promise
abbrev pub Meets : Element → Type 0
Meets e = Promised e.event e.geometry e.before e.after

-- a slice keeps its length
abbrev pub KeepsLength : Element → Type 0
KeepsLength e = length e.after ≡ length e.before

-- an opening; one that is not refused 1 ends the list
abbrev pub IsOpening : Event → Type 0
IsOpening (mutator_call c r) = ⊥
IsOpening (start_call r) = ⊥
IsOpening (step_call r) = ⊥
IsOpening (opening_call r) = Unit
IsOpening (look_call l) = ⊥

-- "A call refused 1 may have another count or other lengths, and changes no word of the memory": of the memory, of an output or of a scratch
abbrev pub wrong_sizes : Event → Geometry → ℕ → Bool
wrong_sizes (mutator_call c r) g n = wrong_size g n
wrong_sizes (start_call r) g n = wrong_size g n
wrong_sizes (step_call r) g n = wrong_size g n
wrong_sizes (opening_call r) g n = wrong_size g n
wrong_sizes (look_call l) g n = pick (wrong_size g n) true (not (look_sized g l))

abbrev pub wrong_sized : Element → Bool
wrong_sized e = wrong_sizes e.event e.geometry (length e.before)

-- the number of its refusal
abbrev pub event_number : Event → Option ℕ
event_number (mutator_call c r) = refusal_of r
event_number (start_call r) = refusal_of r
event_number (step_call r) = step_refusal_of r
event_number (opening_call r) = refusal_of r
event_number (look_call l) = look_number l

abbrev pub number_of : Element → Option ℕ
number_of e = event_number e.event

-- ---- lists

-- "Each call gets the memory whole, as the one before it left it, with the opening's segment count."
pub record Gets (g : Geometry) (words : List ℕ) (e : Element) : Type 0 where
  pub geometry : e.geometry ≡ g
  pub memory : e.before ≡ words
  pub opening : IsOpening e.event → ⊥

-- the memory after an element
abbrev pub next_words : List ℕ → Element → List ℕ
next_words words e = pick (wrong_sized e) words e.after

abbrev pub Chain : Geometry → List ℕ → List Element → Type 0
Chain g words [] = Unit
Chain g words (e ∷ es) = Meets e × KeepsLength e × ((wrong_sized e ≡ true) ⊎ Gets g words e) × Chain g (next_words words e) es

-- the memory after a list of calls
abbrev pub words_after : List ℕ → List Element → List ℕ
words_after words [] = words
words_after words (e ∷ es) = words_after (next_words words e) es

-- ---- the unbounded heap beside the list, and the record last put into each block, by the word of its header: a word that is no header now may
-- keep a record of an earlier class, which no root or pointer leads to any more

pub record Ghost : Type 0 where
  pub heap : Unbounded
  pub put : ℕ → Option ℕ

-- "A make that is not refused puts its record into the block handed out"
abbrev pub put_unless : Option ℕ → (ℕ → Option ℕ) → (ℕ → Option ℕ) → ℕ → Option ℕ
put_unless none put put' = put'
put_unless (some n) put put' = put

-- the block that a root names
abbrev pub block_in : Geometry → List ℕ → ℕ → ℕ → ℕ
block_in g words k d = root (mem_of g words) k d - 1

-- fed a mutator's call that remains, with its answer, which left the words `after`
abbrev pub fed : Ghost → Option (Call × Result Answer Refusal) → Geometry → List ℕ → Ghost
fed w none g after = w
fed w (some x) g after = record {
  heap = (uexec w.heap x.0).1;
  put = put_unless (refusal_of x.1) w.put (puts x.0 (block_in g after) w.heap.count w.put);
}

-- "A block is reached when the record last put there is; one without a record is not."
pub record BlockReached (w : Ghost) (at : ℕ) : Type 0 where
  pub number : ℕ
  pub last : w.put at ≡ some number
  pub reached : UReached w.heap number

-- ---- where a list begins

-- an opening of memory of any content that is not refused
pub record Opened (g : Geometry) (content words : List ℕ) : Type 0 where
  pub sized : wrong_size g (length content) ≡ false
  pub opening : OpenPromise g content (Ok Done) words
  pub long : length words ≡ length content

-- the unbounded heap at an opening: no record, and none put into a block
abbrev pub ghost_start : Ghost
ghost_start = record { heap = empty; put = λ at. none }

-- the words that a list begins with, and the unbounded heap beside them
pub data Begins (g : Geometry) : List ℕ → Ghost → Type 0 where
  by_opening : {content words : List ℕ} → Opened g content words → Begins g words ghost_start

-- ---- "Strike out the collector's calls, the looks, and every call refused ..": the numbers are the guarantee's

abbrev pub prepend : {A : Type 0} → Option A → List A → List A
prepend none l = l
prepend (some a) l = a ∷ l

module _ (out : ℕ → Bool) where
  abbrev pub struck : Option ℕ → Bool
  struck none = false
  struck (some n) = out n

  -- a mutator's call that remains, and its answer
  abbrev pub remaining_call : Event → Option (Call × Result Answer Refusal)
  remaining_call (mutator_call c r) = pick (struck (refusal_of r)) none (some (c, r))
  remaining_call (start_call r) = none
  remaining_call (step_call r) = none
  remaining_call (opening_call r) = none
  remaining_call (look_call l) = none

  abbrev pub remaining_calls : List Element → List Call
  remaining_calls [] = []
  remaining_calls (e ∷ es) = prepend (map (λ x. x.0) (remaining_call e.event)) (remaining_calls es)

  abbrev pub remaining_answers : List Element → List theory.Answer
  remaining_answers [] = []
  remaining_answers (e ∷ es) = prepend (map (λ x. answer_of x.1) (remaining_call e.event)) (remaining_answers es)

  -- the unbounded heap "is fed the arguments of the script calls that remain"
  abbrev pub ghost_step : Ghost → Element → Ghost
  ghost_step w e = fed w (remaining_call e.event) e.geometry e.after

  abbrev pub ghost_after : Ghost → List Element → Ghost
  ghost_after w [] = w
  ghost_after w (e ∷ es) = ghost_after (ghost_step w e) es
