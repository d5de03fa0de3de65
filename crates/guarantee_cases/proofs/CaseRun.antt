-- A case as a list of calls: the model's own run of its left column, with the answers of its right column.
use mathlib.Core.Path.{◌≡◌, refl, sym, ◌∙◌, ap, subst}
use mathlib.Core.Logic.{◌⊎◌, inl, inr}
use mathlib.Core.Option.{Option, none, some}
use mathlib.Core.List.{List, [], ◌∷◌, tail}
use Prim.Native.Nat.{ℕ, zero, suc, ◌≤◌}
use native.Mathlib.Omega.{arith}
use lib.ListN.{length}
use Rattle.layout.specs.declared.Geometry.{Geometry}
use Rattle.layout.specs.Geometry.{Sized, IsSize, max_segments, small_kib, large_kib}
use Rattle.layout.specs.Mem.{Mem, mem_of, flat, Sizes}
use Rattle.layout.proofs.Regions.{right_size, length-flat, mem_of-flat}
use Rattle.model.specs.Lists.{Event, mutator_call, start_call, step_call, look_call, Element, Chain, Opened, prepend}
use Rattle.model.specs.Run.{Command, call, start, step, look, of_phase, declared, declared_step, look_of, answer_to, answered, run}
use Rattle.model_laws.proofs.Lengths.{sizes_of}
use Rattle.refine_start.proofs.Opened.{sizes_opened}
use Rattle.refine_run.proofs.Own.{sized_left, memory_left}
use Rattle.guarantee.proofs.Beginning.{opened_point}
use Rattle.guarantee.proofs.Keeping.{runs_itself}
use Rattle.model_cases.specs.Replies.{Input, Reply, does, replies, Line, inputs, ok}
use Rattle.guarantee_cases.specs.Columns.{answer_in}
use Rattle.model_cases.specs.Replies as input
use Rattle.model.specs.Opening as opening

abbrev pub input_of : Command → Input
input_of (call c) = input.call c
input_of start = input.start
input_of step = input.step
input_of (look q) = input.look

abbrev pub inputs_of : List Command → List Input
inputs_of [] = []
inputs_of (r ∷ rs) = input_of r ∷ inputs_of rs

-- the commands of a case's left column: an opening is none
abbrev pub command_in : Input → Option Command
command_in (input.call c) = some (call c)
command_in input.start = some start
command_in input.step = some step
command_in input.look = some (look of_phase)
command_in input.sheet = none
command_in input.opening = none
command_in input.counts = none
command_in (input.acknowledgements n) = none
command_in (input.marks s) = none
command_in (input.entered_in s) = none
command_in (input.bits s) = none
command_in (input.heap i n) = none

abbrev pub commands_in : List Input → List Command
commands_in [] = []
commands_in (e ∷ es) = prepend (command_in e) (commands_in es)

abbrev pub asked : List Line → List Command
asked ls = commands_in (inputs ls)

-- 16 or 32, by arithmetic
is_size : {k : ℕ} → (k ≡ small_kib) ⊎ (k ≡ large_kib) → IsSize k
is_size (inl e) = omega arith
is_size (inr e) = omega arith

module _ (g : Geometry) where
  -- the event of a command with its reply
  abbrev event_by : Mem → Command → Reply → Event
  event_by m (call c) a = mutator_call c (declared (answer_in a))
  event_by m start a = start_call (declared (answer_in a))
  event_by m step a = step_call (declared_step (answer_in a))
  event_by m (look q) a = look_call (look_of g m q)

  same_event : (m : Mem) (r : Command) → (answer_to g m r).0 ≡ event_by m r (does g m (input_of r)).0
  same_event m (call c) = refl
  same_event m start = refl
  same_event m step = refl
  same_event m (look q) = refl

  same_memory : (m : Mem) (r : Command) → (answer_to g m r).1 ≡ (does g m (input_of r)).1
  same_memory m (call c) = refl
  same_memory m start = refl
  same_memory m step = refl
  same_memory m (look q) = refl

  -- the commands with their replies; at n: the words before the n-th
  abbrev pub elements_of : (at : ℕ → List ℕ) → List Command → List Reply → List Element
  elements_of at [] bs = []
  elements_of at (r ∷ rs) [] = []
  elements_of at (r ∷ rs) (a ∷ bs) = record { geometry = g; before = at 0; event = event_by (mem_of g (at 0)) r a; after = at 1 } ∷ elements_of (λ n. at (suc n)) rs bs

  -- the words after n commands
  abbrev words_at : List ℕ → List Command → ℕ → List ℕ
  words_at words rs zero = words
  words_at words [] (suc n) = words
  words_at words (r ∷ rs) (suc n) = words_at (answered g words r).after rs n

  does_as : (words : List ℕ) → Sized g (length words) → (m : Mem) → m ≡ mem_of g words → (r : Command) → (does g m (input_of r)).1 ≡ mem_of g (answered g words r).after
  does_as words z m e r = ap (λ x. (does g x (input_of r)).1) e ∙ sym (memory_left g words z r ∙ same_memory (mem_of g words) r)

  run_elements : (words : List ℕ) → Sized g (length words) → (m : Mem) → m ≡ mem_of g words → (rs : List Command) → run g words rs ≡ elements_of (words_at words rs) rs (replies g m (inputs_of rs))
  unfolding replies
  run_elements words z m e [] = refl
  run_elements words z m e (r ∷ rs) = λ i.
      record { geometry = g; before = words; event = (same_event (mem_of g words) r ∙ ap (λ x. event_by (mem_of g words) r (does g x (input_of r)).0) (sym e)) i; after = (answered g words r).after }
      ∷ run_elements (answered g words r).after (sized_left g words z r) (does g m (input_of r)).1 (does_as words z m e r) rs i

  -- a case over memory of the right sizes that has its replies
  pub record CaseRun (rs : List Command) (bs : List Reply) : Type 0 where
    pub content : List ℕ
    pub at : ℕ → List ℕ
    pub opened : Opened g content (at 0)
    pub chain : Chain g (at 0) (elements_of at rs bs)

  -- the memory after n commands
  abbrev pub memory_at : Mem → List Command → ℕ → Mem
  memory_at m rs zero = m
  memory_at m [] (suc n) = m
  memory_at m (r ∷ rs) (suc n) = memory_at (does g m (input_of r)).1 rs n

  memory_at_lem : (words : List ℕ) → Sized g (length words) → (m : Mem) → m ≡ mem_of g words → (rs : List Command) (n : ℕ) → mem_of g (words_at words rs n) ≡ memory_at m rs n
  memory_at_lem words z m e rs zero = sym e
  memory_at_lem words z m e [] (suc n) = sym e
  memory_at_lem words z m e (r ∷ rs) (suc n) = memory_at_lem (answered g words r).after (sized_left g words z r) (does g m (input_of r)).1 (does_as words z m e r) rs n

  -- with the memory at each of its points
  pub case_known : 1 ≤ g.segments → g.segments ≤ max_segments → (g.kib ≡ small_kib) ⊎ (g.kib ≡ large_kib) → (m : Mem) → Sizes g m → (rs : List Command) (bs : List Reply)
      → replies g m (input.opening ∷ inputs_of rs) ≡ ok ∷ bs → (p : CaseRun rs bs) × ((n : ℕ) → mem_of g (p.at n) ≡ memory_at (opening.opened g m) rs n)
  unfolding replies
  case_known l h k m z rs bs told =
      let content = flat m in
      let words = flat (opening.opened g (mem_of g content)) in
      let x : Sized g (length content) = record { some = l; few = h; whole = (is_size k).0; small = (is_size k).1; large = (is_size k).2; is = length-flat g m z } in
      let own = runs_itself g content rs (right_size g (length content) x) in
      let e : opening.opened g m ≡ mem_of g words =
      ap (opening.opened g) (sym (mem_of-flat g m z))
      ∙ sym (mem_of-flat g (opening.opened g (mem_of g content)) (sizes_opened g (mem_of g content) (sizes_of g content x))) in
      let s = (opened_point g content words own.opening).long in
      let y = run_elements words s (opening.opened g m) e rs ∙ ap (elements_of (words_at words rs) rs) (ap tail told) in
      (record { content = content; at = words_at words rs; opened = own.opening; chain = subst (Chain g words) y own.chain }, memory_at_lem words s (opening.opened g m) e rs)

  pub case_run : 1 ≤ g.segments → g.segments ≤ max_segments → (g.kib ≡ small_kib) ⊎ (g.kib ≡ large_kib) → (m : Mem) → Sizes g m → (rs : List Command) (bs : List Reply)
      → replies g m (input.opening ∷ inputs_of rs) ≡ ok ∷ bs → CaseRun rs bs
  case_run l h k m z rs bs told = (case_known l h k m z rs bs told).0
