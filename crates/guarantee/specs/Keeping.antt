-- What stands beside the guarantee: a refusal is one number of the table, and one that its call may give, 1 exactly for a size; the opening establishes consistency, every call keeps it, over memory
-- that passes the examination and not only along lists from an opening; such memory never meets 13 and a refusal changes no word of it; "no room" comes
-- exactly when document 01 says so; and a cycle sweeps each segment once that was full or part when it began.
use Rattle.std.specs.Prelude.{◌≡◌, ◌⊎◌, true, false, List, ◌∷◌, ◌++◌, ℕ, ◌+◌, ◌≤◌, length, Some, Result, Ok}
use Rattle.std.proofs.Math.Option.{some}
use Rattle.classes.specs.Class.{class_of}
use Rattle.layout.specs.declared.Geometry.{Geometry}
use Rattle.layout.specs.Geometry.{wrong_size}
use Rattle.layout.specs.Mem.{Mem, mem_of, flat}
use Rattle.theory.specs.Calls.{c_make, refusal}
use Rattle.model.specs.declared.Answer.{Answer}
use Rattle.model.specs.declared.Refusal.{Refusal}
use Rattle.model.specs.declared.Step.TheVariants.{Swept, Done}
use Rattle.model.specs.Answers.{refusal_of, last_number}
use Rattle.model.specs.Calls.{observe}
use Rattle.model.specs.Making.{NoRoom}
use Rattle.model.specs.Collector.{full_or_part}
use Rattle.model.specs.Opening.{opened}
use Rattle.model.specs.Run.{Command, run}
use Rattle.model.specs.Consistent.{Consistent}
use Rattle.model.specs.Looks.{Look, saw_phase, saw_states, saw_sheet, examined_by}
use Rattle.model.specs.Lists.{Event, mutator_call, start_call, step_call, opening_call, look_call, Element, call_element, start_element, step_element, Meets, KeepsLength, Gets, wrong_sized, number_of, Chain, words_after, Ghost, Opened, Begins}
use Rattle.model.specs.declared.Answer.TheVariants as call_answer

-- "The answer to every call, over lent memory of any length and content, is a result or one number of the table in document 01": whatever the call
-- was lent, a refusal is one of the numbers of the table
abbrev pub OneNumber : Type 0
OneNumber = (e : Element) → Meets e → (n : ℕ) → number_of e ≡ some n → (1 ≤ n) × (n ≤ last_number)

-- "13, torn: memory that fails the examination led the call astray"; "1, size"
abbrev pub SizeOrTorn : ℕ → Type 0
SizeOrTorn n = (n ≡ 1) ⊎ (n ≡ 13)

abbrev pub LookRefuses : Look → ℕ → Type 0
LookRefuses (saw_phase r) n = SizeOrTorn n
LookRefuses (saw_states output r after) n = SizeOrTorn n
LookRefuses (saw_sheet output r after) n = SizeOrTorn n
LookRefuses (examined_by scratch r after) n = n ≡ 1

abbrev pub Refuses : Event → ℕ → Type 0
Refuses (mutator_call c r) n = (1 ≤ n) × (n ≤ last_number)
Refuses (start_call r) n = (n ≡ 11) ⊎ SizeOrTorn n
Refuses (step_call r) n = SizeOrTorn n
Refuses (opening_call r) n = n ≡ 1
Refuses (look_call l) n = LookRefuses l n

-- "step refuses only with 1 and 13, an opening and the examination only with 1": the other looks as step, and start "not now" too; whatever the
-- call was lent, and so at every call of every list
abbrev pub OnlyNumbers : Type 0
OnlyNumbers = (e : Element) → Meets e → (n : ℕ) → number_of e ≡ some n → Refuses e.event n

-- what a call was lent beside the memory is as it was: a look's output, and the examination's scratch
abbrev pub LentStays : Event → Type 0
LentStays (mutator_call c r) = Unit
LentStays (start_call r) = Unit
LentStays (step_call r) = Unit
LentStays (opening_call r) = Unit
LentStays (look_call (saw_phase r)) = Unit
LentStays (look_call (saw_states output r after)) = after ≡ output
LentStays (look_call (saw_sheet output r after)) = after ≡ output
LentStays (look_call (examined_by scratch r after)) = after ≡ scratch

-- "1, size: segment count not 1 to 256, or a slice not of its length (any call)": whatever the call was lent; No. 6: "1 now covers a segment size
-- other than these two"
pub record SizeRefusal (e : Element) : Type 0 where
  -- then it is refused 1, and with 1 only then
  pub whenever : wrong_sized e ≡ true → number_of e ≡ some 1
  pub only : number_of e ≡ some 1 → wrong_sized e ≡ true
  -- "A call refused 1 .. changes no word of the memory."
  pub memory : number_of e ≡ some 1 → e.after ≡ e.before
  -- "Refused, it leaves the output unchanged; refused 1, the scratch too."
  pub lent : (n : ℕ) → number_of e ≡ some n → LentStays e.event

abbrev pub SizeExactly : Type 0
SizeExactly = (e : Element) → Meets e → SizeRefusal e

-- "the consistency definition that an opening establishes and every call keeps"
abbrev pub OpeningEstablishes : Type 0
OpeningEstablishes = (g : Geometry) (content words : List ℕ) → Opened g content words → Consistent g (mem_of g words)

-- a call of the memory's own size, lent memory that passes the examination
pub record Applied (g : Geometry) (words : List ℕ) (e : Element) : Type 0 where
  pub sized : wrong_size g (length words) ≡ false
  pub consistent : Consistent g (mem_of g words)
  pub meets : Meets e
  pub long : KeepsLength e
  pub gets : Gets g words e

abbrev pub EveryCallKeeps : Type 0
EveryCallKeeps = (g : Geometry) (words : List ℕ) (e : Element) → Applied g words e → Consistent g (mem_of g e.after)

-- "Memory that passes the examination never meets 13"
abbrev pub NeverTorn : Type 0
NeverTorn = (g : Geometry) (words : List ℕ) (e : Element) → Applied g words e → number_of e ≡ some 13 → ⊥

-- the memory is consistent at every point of every list from an opening, so that the promises apply to each call
abbrev pub AlwaysConsistent : Type 0
AlwaysConsistent =
    (g : Geometry) (words : List ℕ) (w : Ghost) (xs ys : List Element) → Begins g words w → Chain g words (xs ++ ys)
    → Consistent g (mem_of g (words_after words xs))

-- "a refusal changes no word of it": nor does one for a size
abbrev pub RefusedUnchanged : Type 0
RefusedUnchanged =
    (g : Geometry) (words : List ℕ) (e : Element) → Meets e → (wrong_sized e ≡ true) ⊎ Applied g words e → (n : ℕ) → number_of e ≡ some n → e.after ≡ e.before

-- "'No room' comes if and only if document 01's condition for it holds and no number that goes before it applies."
pub record OutOfRoom (g : Geometry) (m : Mem) (k d p n : ℕ) : Type 0 where
  pub class : ℕ
  pub lower : refusal (observe m) (c_make k d p n) ≡ 0
  pub sized : class_of (p + n) ≡ Some class
  pub no_room : NoRoom g m k class

pub record NoRoomExactly : Type 0 where
  pub only : (g : Geometry) (words after : List ℕ) (k d p n : ℕ) (r : Result Answer Refusal) → Applied g words (call_element (c_make k d p n) g words r after)
      → refusal_of r ≡ some 10 → OutOfRoom g (mem_of g words) k d p n
  pub whenever : (g : Geometry) (words after : List ℕ) (k d p n : ℕ) (r : Result Answer Refusal) → Applied g words (call_element (c_make k d p n) g words r after)
      → OutOfRoom g (mem_of g words) k d p n → refusal_of r ≡ some 10

-- a cycle to its end: a start that is not refused, further calls with no such start among them, and a step that answers done
pub record EndedIn (g : Geometry) (es : List Element) : Type 0 where
  pub before : List Element
  pub during : List Element
  pub rest : List Element
  pub start_before : List ℕ
  pub start_after : List ℕ
  pub step_before : List ℕ
  pub step_after : List ℕ
  pub whole : es ≡ before ++ (start_element g start_before (Ok call_answer.Done) start_after ∷ (during ++ (step_element g step_before Done step_after ∷ rest)))
  pub one_start : (xs ys : List Element) (u v : List ℕ) → during ≡ xs ++ (start_element g u (Ok call_answer.Done) v ∷ ys) → ⊥

-- no step of a list answers swept for segment s
abbrev pub NeverSwept : ℕ → List Element → Type 0
NeverSwept s es = (xs ys : List Element) (e : Element) (f : ℕ) → es ≡ xs ++ (e ∷ ys) → e.event ≡ step_call (Swept s f) → ⊥

-- exactly one does
pub record OnceSwept (g : Geometry) (s : ℕ) (es : List Element) : Type 0 where
  pub earlier : List Element
  pub later : List Element
  pub step_before : List ℕ
  pub step_after : List ℕ
  pub freed : ℕ
  pub whole : es ≡ earlier ++ (step_element g step_before (Swept s freed) step_after ∷ later)
  pub not_earlier : NeverSwept s earlier
  pub not_later : NeverSwept s later

-- "start: every full segment becomes condemned", and by request No. 5 "the part segments as well"; step in sweep takes "the lowest condemned segment ..
-- With none left: idle, and done": from a start to its done each segment that was full or part at the start is swept once
abbrev pub SweptOnce : Type 0
SweptOnce =
    (g : Geometry) (words : List ℕ) (es : List Element) → wrong_size g (length words) ≡ false → Consistent g (mem_of g words) → Chain g words es
    → (c : EndedIn g es) (s : ℕ) → full_or_part (mem_of g c.start_before) s ≡ true → OnceSwept g s c.during

-- the model's own run, from the words that its opening leaves, is such a list
pub record OwnRun (g : Geometry) (content : List ℕ) (rs : List Command) : Type 0 where
  pub opening : Opened g content (flat (opened g (mem_of g content)))
  pub chain : Chain g (flat (opened g (mem_of g content))) (run g (flat (opened g (mem_of g content))) rs)

abbrev pub RunsItself : Type 0
RunsItself = (g : Geometry) (content : List ℕ) (rs : List Command) → wrong_size g (length content) ≡ false → OwnRun g content rs
