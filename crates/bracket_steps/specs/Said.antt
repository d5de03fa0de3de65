-- What the bracket program says to a line, from document 01, "The bracket program", over the model of the heap: a definition to compare with it.
use Rattle.std.specs.Prelude.{◌≡◌, Bool, true, List, ◌++◌, ℕ, eqb, take, drop, Option, Some, None}
use Rattle.basics.specs.Pick.{pick, one_if}
use Rattle.classes.specs.Record.{pointer_count_of, value_count_of}
use Rattle.layout.specs.declared.Geometry.{Geometry}
use Rattle.layout.specs.Geometry.{small_kib, total}
use Rattle.layout.specs.Mem.{Mem, mem_of, flat}
use Rattle.theory.specs.Calls.{a_ok, a_moved, a_traced, a_done, a_idle, a_num, a_flag, a_shape, a_no, a_waiting, a_swept}
use Rattle.model.specs.Calls.{exec}
use Rattle.model.specs.Collector.{start_of, step_of}
use Rattle.model.specs.Opening.{opened}
use Rattle.model.specs.Consistent.{Consistent}
use Rattle.perform.specs.Requests.{call_of}
use Rattle.bracket_forms.specs.declared.Form.{Form}
use Rattle.bracket_forms.specs.declared.Reply.{Reply}
use Rattle.bracket_forms.specs.Forms.{FormRead}
use Rattle.bracket_steps.specs.declared.Task.{Task}
use Rattle.bracket_steps.specs.declared.Task.TheVariants.{Open, Call, Start, Step}
use Rattle.theory.specs.Calls as theory
use Rattle.perform.specs.declared.Request.TheVariants as request
use Rattle.bracket_forms.specs.declared.Form.TheVariants as form
use Rattle.bracket_forms.specs.declared.Reply.TheVariants as reply

-- the program's state: how many segments are open, 0 before an opening; and the lent words, of which the heap has the first
pub record State : Type 0 where
  pub segments : ℕ
  pub words : List ℕ

-- document 02, No. 6: "The bracket program keeps 16 KiB"
abbrev pub heap : ℕ → Geometry
heap n = record { segments = n; kib = small_kib }

-- the lent words are as many as two segments need
abbrev pub room_words : ℕ
room_words = total (heap 2)

-- the memory of a heap among the lent words, and the words with another memory in its place
abbrev pub memory_in : Geometry → List ℕ → Mem
memory_in g words = mem_of g (take (total g) words)

unfoldable pub with_memory : Geometry → Mem → List ℕ → List ℕ
with_memory g m words = flat m ++ drop (total g) words

-- what a form asks for: "(rack S) opens", start, step, or a script call with the form's numbers: "A place is (script slot) or (script slot field).
-- make's second pair is links, numbers"; "(spawn new (parent slot)), (copy (script to) from), (same (script slot) slot) .., (shape (script slot)) ..,
-- (put place value)"; and from the whole case "(store (0 0 0) 1)", "(load (0 1) (0 0 0))"
abbrev pub task_of : Form → Task
task_of (form.Rack n) = Open n
task_of (form.Attach k) = Call (request.Attach k)
task_of (form.Spawn k p i) = Call (request.Spawn k p i)
task_of (form.Detach k) = Call (request.Detach k)
task_of (form.Make k d p n) = Call (request.Make k d p n)
task_of (form.Load k d i f) = Call (request.Load k d i f)
task_of (form.Store k i f j) = Call (request.Store k i f j)
task_of (form.Copy k d i) = Call (request.Copy k d i)
task_of (form.Clear k i) = Call (request.Clear k i)
task_of (form.Put k i f v) = Call (request.Put k i f v)
task_of (form.Get k i f) = Call (request.Get k i f)
task_of (form.Same k i j) = Call (request.Same k i j)
task_of (form.Shape k i) = Call (request.Shape k i)
task_of (form.Check k) = Call (request.Check k)
task_of (form.Leave k) = Call (request.Leave k)
task_of (form.Enter k) = Call (request.Enter k)
task_of form.Start = Start
task_of form.Step = Step

-- what that does: the model's definition of the call
abbrev pub done : Task → Geometry → Mem → theory.Answer × Mem
done (Open n) g m = (a_ok, opened g m)
done (Call q) g m = exec g m (call_of q)
done Start g m = start_of g m
done Step g m = step_of g m

-- "(ok) with any result, (no NUMBER), .. or step's answer"; "(same ..) with 1 or 0, (shape ..) with P and N"
abbrev pub reply_of : theory.Answer → Reply
reply_of a_ok = reply.Ok
reply_of (a_num v) = reply.OkOne v
reply_of (a_flag b) = reply.OkOne (one_if b)
reply_of (a_shape s) = reply.OkTwo (pointer_count_of s) (value_count_of s)
reply_of (a_no n) = reply.No n
reply_of (a_waiting n) = reply.Waiting n
reply_of a_moved = reply.Moved
reply_of a_traced = reply.Traced
reply_of (a_swept s f) = reply.Swept s f
reply_of a_done = reply.Done
reply_of a_idle = reply.Idle

-- how many segments the heap of a task has: those that the opening asks for, or those that are open
abbrev pub segments_for : Task → ℕ → ℕ
segments_for (Open n) s = n
segments_for (Call q) s = s
segments_for Start s = s
segments_for Step s = s

abbrev pub one_or_two : ℕ → Bool
one_or_two n = pick (eqb n 1) true (eqb n 2)

-- a task carried out on a heap: the reply, and the state after it
abbrev pub carried : Task → Geometry → List ℕ → Reply × State
carried t g words =
    (reply_of (done t g (memory_in g words)).0, record { segments = g.segments; words = with_memory g (done t g (memory_in g words)).1 words })

-- "(rack S) opens 1 or 2 segments, else (no 1); before an opening all other forms give (no 1)"
abbrev pub answered : Task → State → Reply × State
answered t s = pick (one_or_two (segments_for t s.segments)) (carried t (heap (segments_for t s.segments)) s.words) (reply.No 1, s)

-- "It prints one form for each: .. (bad) for another line"
abbrev pub said : Option Form → State → Reply × State
said (Some f) s = answered (task_of f) s
said None s = (reply.Bad, s)

-- a state whose memory passes the examination, where a heap is open
abbrev pub Good : State → Type 0
Good s = one_or_two s.segments ≡ true → Consistent (heap s.segments) (memory_in (heap s.segments) s.words)

-- what the answer to a line owes: reply and state are what is said to the form that the line is, or to a line that is none; and a good state is
-- followed by a good one
pub record Answers (s : State) (line : List ℕ) (r : Reply) (after : State) : Type 0 where
  pub reading : Option Form
  pub read : FormRead line reading
  pub exact : Good s → (r ≡ (said reading s).0) × (after ≡ (said reading s).1)
  pub keeps : Good s → Good after
