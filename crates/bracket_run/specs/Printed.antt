-- What the bracket program writes for a stream of lines: a relation to compare with document 01, and what the parts of its loop owe by it.
use Rattle.std.specs.Prelude.{ℕ, ◌+◌, ◌≤◌, ◌≡◌, List, [], ◌∷◌, ◌++◌, length, take, Option}
use Rattle.bracket_forms.specs.declared.Form.{Form}
use Rattle.bracket_forms.specs.declared.Reply.{Reply}
use Rattle.bracket_forms.specs.declared.Reply.TheVariants.{Bad}
use Rattle.bracket_forms.specs.Forms.{FormRead}
use Rattle.bracket_forms.specs.Replies.{reply_text}
use Rattle.bracket_lines.specs.declared.Found.{Found}
use Rattle.bracket_lines.specs.declared.Found.TheVariants.{Line}
use Rattle.bracket_lines.specs.Lines.{Telling, whole, too_long}
use Rattle.bracket_lines.specs.Split.{Splitter, through, tells}
use Rattle.bracket_steps.specs.Said.{State, said, Good}

-- "It prints one form for each": the replies to the lines of a stream, each with a line feed, in order. A line of at most 80 bytes is answered by
-- what is said to it, a longer one by "(bad) for another line"
pub data Replied : State → List Telling → List ℕ → State → Type 0 where
  no_line : {s : State} → Replied s [] [] s
  one_line : {s next after : State} {l out : List ℕ} {ts : List Telling} {x : Option Form} {r : Reply} → FormRead l x → r ≡ (said x s).0 → next ≡ (said x s).1
      → Replied next ts out after → Replied s (whole l ∷ ts) (reply_text r ++ (10 ∷ out)) after
  long_line : {s after : State} {out : List ℕ} {ts : List Telling} → Replied s ts out after → Replied s (too_long ∷ ts) (reply_text Bad ++ (10 ∷ out)) after

-- a reply has at most 32 bytes, and a line feed
abbrev pub most_reply : ℕ
most_reply = 33

-- a text and a line feed behind the first `used` bytes of a buffer
pub record Prints (text before : List ℕ) (used r : ℕ) (after : List ℕ) : Type 0 where
  pub is : take r after ≡ take used before ++ (text ++ (10 ∷ []))
  pub short : r ≤ used + most_reply

-- the replies to what is told, behind the first `used` bytes of a buffer: one telling at most
pub record Wrote (s : State) (ts : List Telling) (before : List ℕ) (used r : ℕ) (after : List ℕ) (end : State) : Type 0 where
  pub text : List ℕ
  pub behind : take r after ≡ take used before ++ text
  pub short : r ≤ used + most_reply
  pub replied : Good s → Replied s ts text end
  pub keeps : Good s → Good end

-- a run of bytes from a state and a line that is begun: the replies to the lines that end in it, and where it leads
pub record Passed (s : State) (begun : Splitter) (bytes : List ℕ) (left : Splitter) (text : List ℕ) (end : State) : Type 0 where
  pub splitter : left ≡ through begun bytes
  pub replied : Good s → Replied s (tells begun bytes) text end
  pub keeps : Good s → Good end

-- a line that is told lies in its buffer
abbrev pub LineWithin : Found → List ℕ → Type 0
LineWithin found line = (n : ℕ) → found ≡ Line n → n ≤ length line
