-- Cycles of the collector, with looks at the phase, the segments and the trace stack between the calls. Nearly all records are of class 12, four
-- to a segment: a reference is 1 + the index of a header, so those of segment 0 are 1, 1025, 2049 and 3073.
use Rattle.std.specs.Prelude.{List, [], ◌∷◌}
use Rattle.theory.specs.Phases.{idle, sync1, sync2, mark, sweep}
use Rattle.theory.specs.Calls.{c_attach, c_detach, c_check, c_leave, c_enter, c_spawn, c_make, c_store, c_clear}
use Rattle.model.specs.declared.Step.TheVariants.{Waiting, Moved, Traced, Swept, Done, Idle}
use Rattle.model.specs.declared.SegmentState.TheVariants.{Free, Part, Held, Full, Condemned}
use Rattle.model_cases.specs.Replies.{Line, ◌⇒◌, opening, start, step, look, call, stepped, seen, ok, no}

-- one segment, four records, two dropped: two blocks become free, and are handed out again from place 0 on
abbrev pub cycle : List Line
cycle =
    opening ⇒ ok
    ∷ look ⇒ seen idle (Free ∷ []) []
    ∷ step ⇒ stepped Idle
    ∷ call (c_attach 0) ⇒ ok
    ∷ call (c_make 0 0 1 511) ⇒ ok
    ∷ look ⇒ seen idle (Held 12 1 0 ∷ []) []
    ∷ call (c_make 0 1 1 511) ⇒ ok
    ∷ call (c_make 0 2 1 511) ⇒ ok
    ∷ look ⇒ seen idle (Held 12 3 0 ∷ []) []
    ∷ call (c_make 0 3 1 511) ⇒ ok
    ∷ look ⇒ seen idle (Full 12 ∷ []) []
    ∷ call (c_clear 0 1) ⇒ ok
    ∷ call (c_clear 0 2) ⇒ ok
    ∷ start ⇒ ok
    ∷ look ⇒ seen sync1 (Condemned 12 4 ∷ []) []
    ∷ step ⇒ stepped (Waiting 1)
    ∷ call (c_check 0) ⇒ ok
    ∷ look ⇒ seen sync1 (Condemned 12 4 ∷ []) []
    ∷ step ⇒ stepped Moved
    ∷ step ⇒ stepped (Waiting 1)
    ∷ call (c_check 0) ⇒ ok
    ∷ look ⇒ seen sync2 (Condemned 12 4 ∷ []) (1 ∷ 3073 ∷ [])
    ∷ step ⇒ stepped Moved
    ∷ step ⇒ stepped Traced
    ∷ look ⇒ seen mark (Condemned 12 4 ∷ []) (1 ∷ [])
    ∷ step ⇒ stepped Traced
    ∷ step ⇒ stepped Moved
    ∷ look ⇒ seen sweep (Condemned 12 4 ∷ []) []
    ∷ step ⇒ stepped (Swept 0 2)
    ∷ look ⇒ seen sweep (Part 12 0 ∷ []) []
    ∷ step ⇒ stepped Done
    ∷ step ⇒ stepped Idle
    ∷ call (c_make 0 1 1 511) ⇒ ok
    ∷ look ⇒ seen idle (Held 12 2 0 ∷ []) []
    ∷ call (c_make 0 2 1 511) ⇒ ok
    ∷ look ⇒ seen idle (Full 12 ∷ []) []
    ∷ []

-- one segment, three cycles: what a store enters in each phase, the mutator outside, all blocks marked, one free, and all free
abbrev pub barriers : List Line
barriers =
    opening ⇒ ok
    ∷ call (c_attach 0) ⇒ ok
    ∷ call (c_make 0 0 1 511) ⇒ ok
    ∷ call (c_make 0 1 1 511) ⇒ ok
    ∷ call (c_make 0 2 1 511) ⇒ ok
    ∷ call (c_make 0 3 1 511) ⇒ ok
    -- in idle, and in roll 1 before the first answer: nothing
    ∷ call (c_store 0 0 0 1) ⇒ ok
    ∷ call (c_clear 0 1) ⇒ ok
    ∷ start ⇒ ok
    ∷ call (c_store 0 2 0 3) ⇒ ok
    ∷ look ⇒ seen sync1 (Condemned 12 4 ∷ []) []
    -- after it: the new value, then the old
    ∷ call (c_check 0) ⇒ ok
    ∷ call (c_store 0 2 0 0) ⇒ ok
    ∷ look ⇒ seen sync1 (Condemned 12 4 ∷ []) (1 ∷ 3073 ∷ [])
    ∷ call (c_store 0 2 0 15) ⇒ ok
    ∷ look ⇒ seen sync1 (Condemned 12 4 ∷ []) (1 ∷ 3073 ∷ [])
    ∷ step ⇒ stepped Moved
    ∷ call (c_store 0 3 0 2) ⇒ ok
    ∷ look ⇒ seen sync2 (Condemned 12 4 ∷ []) (1 ∷ 3073 ∷ 2049 ∷ [])
    ∷ call (c_check 0) ⇒ ok
    ∷ step ⇒ stepped Moved
    -- in mark: the old value
    ∷ look ⇒ seen mark (Condemned 12 4 ∷ []) (1 ∷ 3073 ∷ 2049 ∷ [])
    ∷ call (c_store 0 0 0 15) ⇒ ok
    ∷ look ⇒ seen mark (Condemned 12 4 ∷ []) (1 ∷ 3073 ∷ 2049 ∷ 1025 ∷ [])
    ∷ call (c_store 0 0 0 2) ⇒ ok
    ∷ step ⇒ stepped Traced
    ∷ step ⇒ stepped Traced
    ∷ step ⇒ stepped Traced
    ∷ look ⇒ seen mark (Condemned 12 4 ∷ []) (1 ∷ [])
    ∷ step ⇒ stepped Traced
    ∷ step ⇒ stepped Moved
    -- in sweep: nothing
    ∷ call (c_store 0 0 0 3) ⇒ ok
    ∷ look ⇒ seen sweep (Condemned 12 4 ∷ []) []
    ∷ step ⇒ stepped (Swept 0 0)
    ∷ look ⇒ seen sweep (Full 12 ∷ []) []
    ∷ step ⇒ stepped Done
    -- the second cycle, with the mutator outside: the record that no root and no pointer names is freed
    ∷ start ⇒ ok
    ∷ call (c_leave 0) ⇒ ok
    ∷ step ⇒ stepped Moved
    ∷ look ⇒ seen sync2 (Condemned 12 4 ∷ []) []
    ∷ step ⇒ stepped Moved
    ∷ look ⇒ seen mark (Condemned 12 4 ∷ []) (1 ∷ 2049 ∷ 3073 ∷ [])
    ∷ call (c_enter 0) ⇒ ok
    ∷ step ⇒ stepped Traced
    ∷ step ⇒ stepped Traced
    ∷ step ⇒ stepped Traced
    ∷ step ⇒ stepped Moved
    ∷ step ⇒ stepped (Swept 0 1)
    ∷ look ⇒ seen sweep (Part 12 0 ∷ []) []
    ∷ call (c_make 0 1 1 511) ⇒ ok
    ∷ look ⇒ seen sweep (Full 12 ∷ []) []
    ∷ step ⇒ stepped Done
    -- the third, with empty roots
    ∷ call (c_clear 0 0) ⇒ ok
    ∷ call (c_clear 0 1) ⇒ ok
    ∷ call (c_clear 0 2) ⇒ ok
    ∷ call (c_clear 0 3) ⇒ ok
    ∷ start ⇒ ok
    ∷ call (c_check 0) ⇒ ok
    ∷ step ⇒ stepped Moved
    ∷ call (c_check 0) ⇒ ok
    ∷ step ⇒ stepped Moved
    ∷ step ⇒ stepped Moved
    ∷ step ⇒ stepped (Swept 0 4)
    ∷ look ⇒ seen sweep (Free ∷ []) []
    ∷ step ⇒ stepped Done
    ∷ step ⇒ stepped Idle
    ∷ []

-- two segments and several mutators: who owes an answer, for whom step gives it, and a block born marked
abbrev pub mutators : List Line
mutators =
    opening ⇒ ok
    ∷ call (c_attach 0) ⇒ ok
    ∷ call (c_make 0 0 3 509) ⇒ ok
    ∷ call (c_make 0 1 1 511) ⇒ ok
    ∷ call (c_make 0 2 1 511) ⇒ ok
    ∷ call (c_make 0 3 1 511) ⇒ ok
    ∷ call (c_store 0 0 0 3) ⇒ ok
    ∷ call (c_store 0 0 1 2) ⇒ ok
    ∷ call (c_clear 0 2) ⇒ ok
    ∷ call (c_clear 0 3) ⇒ ok
    ∷ call (c_attach 1) ⇒ ok
    ∷ call (c_leave 1) ⇒ ok
    ∷ call (c_spawn 2 0 1) ⇒ ok
    ∷ start ⇒ ok
    -- first handshake: step answers for mutator 1
    ∷ step ⇒ stepped (Waiting 2)
    ∷ call (c_check 0) ⇒ ok
    ∷ step ⇒ stepped (Waiting 1)
    ∷ call (c_leave 2) ⇒ ok
    ∷ call (c_enter 1) ⇒ ok
    ∷ step ⇒ stepped Moved
    -- second handshake: step answers for mutator 2, and enters its root
    ∷ call (c_make 0 4 1 63) ⇒ ok
    ∷ look ⇒ seen sync2 (Condemned 12 4 ∷ Held 9 1 0 ∷ []) []
    ∷ step ⇒ stepped (Waiting 2)
    ∷ look ⇒ seen sync2 (Condemned 12 4 ∷ Held 9 1 0 ∷ []) (1025 ∷ [])
    ∷ call (c_check 1) ⇒ ok
    ∷ step ⇒ stepped (Waiting 1)
    ∷ call (c_check 0) ⇒ ok
    ∷ look ⇒ seen sync2 (Condemned 12 4 ∷ Held 9 1 0 ∷ []) (1025 ∷ 1 ∷ 4097 ∷ [])
    -- born marked: the store enters neither it nor the one on the stack
    ∷ call (c_make 0 5 1 63) ⇒ ok
    ∷ call (c_store 0 5 0 0) ⇒ ok
    ∷ call (c_store 0 0 2 5) ⇒ ok
    ∷ step ⇒ stepped Moved
    -- mark: who comes now counts as having given both answers
    ∷ call (c_attach 3) ⇒ ok
    ∷ call (c_make 3 0 1 511) ⇒ no 10
    ∷ call (c_spawn 4 0 5) ⇒ ok
    ∷ look ⇒ seen mark (Condemned 12 4 ∷ Held 9 2 0 ∷ []) (1025 ∷ 1 ∷ 4097 ∷ [])
    ∷ step ⇒ stepped Traced
    -- links in field order; the last of the three names the record that is marked
    ∷ step ⇒ stepped Traced
    ∷ look ⇒ seen mark (Condemned 12 4 ∷ Held 9 2 0 ∷ []) (1025 ∷ 3073 ∷ 2049 ∷ [])
    ∷ step ⇒ stepped Traced
    ∷ step ⇒ stepped Traced
    ∷ step ⇒ stepped Traced
    ∷ step ⇒ stepped Moved
    ∷ step ⇒ stepped (Swept 0 0)
    ∷ step ⇒ stepped Done
    ∷ look ⇒ seen idle (Full 12 ∷ Held 9 2 0 ∷ []) []
    -- the next cycle: a record of segment 0 is dropped, and every answer is owed anew
    ∷ call (c_enter 2) ⇒ ok
    ∷ call (c_detach 2) ⇒ ok
    ∷ call (c_clear 0 1) ⇒ ok
    ∷ start ⇒ ok
    ∷ step ⇒ stepped (Waiting 4)
    ∷ call (c_check 4) ⇒ ok
    ∷ call (c_check 3) ⇒ ok
    ∷ call (c_check 1) ⇒ ok
    ∷ call (c_check 0) ⇒ ok
    ∷ step ⇒ stepped Moved
    ∷ call (c_check 4) ⇒ ok
    ∷ call (c_check 3) ⇒ ok
    ∷ call (c_check 1) ⇒ ok
    ∷ call (c_check 0) ⇒ ok
    ∷ look ⇒ seen sync2 (Condemned 12 4 ∷ Held 9 2 0 ∷ []) (4225 ∷ 1 ∷ 4097 ∷ [])
    ∷ step ⇒ stepped Moved
    ∷ step ⇒ stepped Traced
    ∷ step ⇒ stepped Traced
    ∷ step ⇒ stepped Traced
    ∷ step ⇒ stepped Traced
    ∷ step ⇒ stepped Traced
    ∷ step ⇒ stepped Moved
    ∷ step ⇒ stepped (Swept 0 1)
    ∷ step ⇒ stepped Done
    ∷ look ⇒ seen idle (Part 12 0 ∷ Held 9 2 0 ∷ []) []
    ∷ call (c_make 1 1 1 511) ⇒ ok
    ∷ look ⇒ seen idle (Full 12 ∷ Held 9 2 0 ∷ []) []
    ∷ call (c_detach 0) ⇒ ok
    ∷ look ⇒ seen idle (Full 12 ∷ Part 9 2 ∷ []) []
    ∷ []
