-- Document 01, "The endless rack": "A call refused 1 may have another count or other lengths, and changes no word of the memory. An opening refused 1
-- may stand in a list as such a call; it begins none and ends none." A list without such calls would be no list of document 01's. Document 02, No. 6:
-- "demand 3's lists keep the opening's, as with the count", so a call refused 1 may have another segment size too.
use Rattle.std.specs.Prelude.{◌≡◌, true, List, [], ◌∷◌, ℕ, length, Err}
use Rattle.layout.specs.declared.Geometry.{Geometry}
use Rattle.layout.specs.Geometry.{wrong_size, total}
use Rattle.theory.specs.Calls.{Call, c_check}
use Rattle.model.specs.Looks.{saw_phase, saw_states, saw_sheet, examined_by}
use Rattle.model.specs.Lists.{Event, mutator_call, start_call, step_call, opening_call, look_call, Element, Chain}
use Rattle.model_cases.specs.Replies.{geometry, large_geometry}
use Rattle.model.specs.declared.Step.TheVariants as step_answer
use Rattle.model.specs.declared.Refusal.TheVariants.{Size}

-- a call of each kind refused 1, a look's output and scratch as they were
pub data RefusedSize : Event → Type 0 where
  refused_call : (c : Call) → RefusedSize (mutator_call c (Err Size))
  refused_start : RefusedSize (start_call (Err Size))
  refused_step : RefusedSize (step_call (step_answer.Refused 1))
  refused_opening : RefusedSize (opening_call (Err Size))
  refused_phase : RefusedSize (look_call (saw_phase (Err Size)))
  refused_states : (output : List ℕ) → RefusedSize (look_call (saw_states output (Err Size) output))
  refused_sheet : (output : List ℕ) → RefusedSize (look_call (saw_sheet output (Err Size) output))
  refused_examination : (scratch : List ℕ) → RefusedSize (look_call (examined_by scratch (Err Size) scratch))

-- an event over memory that it leaves as it was
abbrev pub leaving : Geometry → List ℕ → Event → Element
leaving g lent v = record { geometry = g; before = lent; event = v; after = lent }

-- four such calls: 257 segments and no word, a heap of one segment lent as one of two
abbrev pub four : List ℕ → List Element
four lent =
    leaving (geometry 257) [] (opening_call (Err Size))
    ∷ leaving (geometry 257) [] (mutator_call (c_check 0) (Err Size))
    ∷ leaving (geometry 2) lent (start_call (Err Size))
    ∷ leaving (geometry 2) lent (step_call (step_answer.Refused 1))
    ∷ []

-- three more: a heap's own slice lent with the other size, and with "a segment size other than these two"
abbrev pub three : Geometry → List ℕ → List Element
three other lent =
    leaving other lent (opening_call (Err Size))
    ∷ leaving other lent (mutator_call (c_check 0) (Err Size))
    ∷ leaving (record { segments = other.segments; kib = 48 }) lent (step_call (step_answer.Refused 1))
    ∷ []

pub record RefusedStand : Type 0 where
  -- of whatever count and over whatever words, where the size is wrong: it stands before every list, which goes on with its own memory
  pub stands : (g : Geometry) (words : List ℕ) (es : List Element) → Chain g words es
      → (count : Geometry) (lent : List ℕ) → wrong_size count (length lent) ≡ true → (v : Event) → RefusedSize v → Chain g words (leaving count lent v ∷ es)
  -- and there are such calls
  pub four_stand : (g : Geometry) (words lent : List ℕ) → length lent ≡ total (geometry 1) → Chain g words (four lent)
  -- a slice of one size is never one of the other, whatever the counts are
  pub never_both : (n k : ℕ) → (wrong_size (large_geometry k) (total (geometry n)) ≡ true) × (wrong_size (geometry k) (total (large_geometry n)) ≡ true)
  pub three_stand : (g : Geometry) (words lent : List ℕ) (n k : ℕ) → length lent ≡ total (geometry n) → Chain g words (three (large_geometry k) lent)
  pub other_way : (g : Geometry) (words lent : List ℕ) (n k : ℕ) → length lent ≡ total (large_geometry n) → Chain g words (three (geometry k) lent)
