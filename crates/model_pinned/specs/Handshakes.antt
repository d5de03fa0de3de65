-- Who answers in the two handshakes, what a store enters before, between and after the answers, and who may come and go when. All records of
-- the first segment are of class 12: a reference is 1 + the index of a header, so they are 1, 1025, 2049 and 3073.
use Rattle.std.specs.Prelude.{List, [], ◌∷◌}
use Rattle.classes.specs.Record.{of_counts}
use Rattle.theory.specs.Phases.{idle, sync1, sync2, mark}
use Rattle.theory.specs.Calls.{c_attach, c_detach, c_check, c_leave, c_enter, c_spawn, c_make, c_load, c_store, c_clear, c_shape, a_shape}
use Rattle.model.specs.declared.Step.TheVariants.{Waiting, Moved, Traced, Swept, Done}
use Rattle.model.specs.declared.SegmentState.TheVariants.{Free, Part, Full, Condemned}
use Rattle.model_cases.specs.Replies.{Line, ◌⇒◌, opening, start, step, look, call, answer, stepped, seen, ok, no}

abbrev pub handshakes : List Line
handshakes =
    opening ⇒ ok
    ∷ call (c_attach 0) ⇒ ok
    ∷ call (c_make 0 0 3 509) ⇒ ok
    ∷ call (c_make 0 1 1 511) ⇒ ok
    ∷ call (c_make 0 2 1 511) ⇒ ok
    ∷ call (c_make 0 3 1 511) ⇒ ok
    ∷ call (c_store 0 0 0 1) ⇒ ok
    ∷ call (c_store 0 0 1 2) ⇒ ok
    ∷ call (c_clear 0 1) ⇒ ok
    ∷ call (c_clear 0 2) ⇒ ok
    -- spawn: root 0 alone is the copy
    ∷ call (c_spawn 1 0 3) ⇒ ok
    ∷ call (c_shape 1 0) ⇒ answer (a_shape (of_counts 1 511))
    ∷ call (c_shape 1 3) ⇒ no 7
    ∷ call (c_spawn 2 0 0) ⇒ ok
    ∷ call (c_attach 3) ⇒ ok
    -- three mutators outside
    ∷ call (c_leave 1) ⇒ ok
    ∷ call (c_leave 2) ⇒ ok
    ∷ call (c_leave 3) ⇒ ok
    ∷ start ⇒ ok
    -- before its first answer a store enters nothing
    ∷ call (c_load 0 1 0 0) ⇒ ok
    ∷ call (c_store 0 0 0 1) ⇒ ok
    ∷ look ⇒ seen sync1 (Condemned 12 4 ∷ Free ∷ []) []
    ∷ call (c_clear 0 1) ⇒ ok
    ∷ call (c_check 0) ⇒ ok
    -- enter: "an answer owed stays owed", and leave gives it
    ∷ call (c_enter 3) ⇒ ok
    ∷ step ⇒ stepped (Waiting 1)
    ∷ call (c_leave 3) ⇒ ok
    ∷ call (c_enter 3) ⇒ ok
    ∷ step ⇒ stepped Moved
    -- 11: start outside idle, and who comes and goes in roll 2
    ∷ start ⇒ no 11
    ∷ call (c_attach 4) ⇒ no 11
    ∷ call (c_spawn 4 0 0) ⇒ no 11
    ∷ call (c_detach 0) ⇒ no 11
    -- step answers for 1 and 2, in number order; 3 owes its second answer
    ∷ step ⇒ stepped (Waiting 2)
    ∷ look ⇒ seen sync2 (Condemned 12 4 ∷ Free ∷ []) (3073 ∷ 1 ∷ [])
    -- between the second answer and mark: the new value (the old one is nil)
    ∷ call (c_check 3) ⇒ ok
    ∷ call (c_check 0) ⇒ ok
    ∷ call (c_load 0 1 0 0) ⇒ ok
    ∷ call (c_store 0 3 0 1) ⇒ ok
    ∷ look ⇒ seen sync2 (Condemned 12 4 ∷ Free ∷ []) (3073 ∷ 1 ∷ 1025 ∷ [])
    ∷ step ⇒ stepped Moved
    -- in mark: the old value alone, a block born marked is not entered
    ∷ start ⇒ no 11
    ∷ call (c_load 0 2 0 1) ⇒ ok
    ∷ call (c_store 0 3 0 2) ⇒ ok
    ∷ call (c_spawn 4 0 2) ⇒ ok
    ∷ call (c_make 4 1 1 63) ⇒ ok
    ∷ call (c_make 4 2 1 63) ⇒ ok
    ∷ call (c_store 4 1 0 2) ⇒ ok
    ∷ call (c_store 4 1 0 15) ⇒ ok
    ∷ call (c_detach 4) ⇒ ok
    ∷ look ⇒ seen mark (Condemned 12 4 ∷ Part 9 2 ∷ []) (3073 ∷ 1 ∷ 1025 ∷ [])
    ∷ step ⇒ stepped Traced
    ∷ step ⇒ stepped Traced
    ∷ step ⇒ stepped Traced
    ∷ step ⇒ stepped Traced
    ∷ step ⇒ stepped Moved
    -- in sweep: who comes and goes is not refused
    ∷ start ⇒ no 11
    ∷ call (c_attach 4) ⇒ ok
    ∷ call (c_spawn 5 0 0) ⇒ ok
    ∷ call (c_detach 5) ⇒ ok
    ∷ step ⇒ stepped (Swept 0 0)
    ∷ step ⇒ stepped Done
    ∷ look ⇒ seen idle (Full 12 ∷ Part 9 2 ∷ []) []
    ∷ []
