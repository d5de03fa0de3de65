-- Document 01, "The cycle": "Otherwise nothing changes." What enters nothing on the trace stack, sets no mark and gives no acknowledgement, phase by
-- phase. All records of the first segment are of class 12, so they are 1, 1025, 2049 and 3073; the first names the others.
use Rattle.std.specs.Prelude.{List, [], ◌∷◌}
use Rattle.theory.specs.Phases.{idle, sync1, sync2, mark, sweep}
use Rattle.theory.specs.Calls.{c_attach, c_check, c_leave, c_enter, c_spawn, c_make, c_load, c_store, c_copy, c_clear}
use Rattle.model.specs.declared.Step.TheVariants.{Moved, Traced, Swept, Done}
use Rattle.model.specs.declared.SegmentState.TheVariants.{Free, Held, Full, Condemned}
use Rattle.model_cases.specs.Replies.{Line, ◌⇒◌, opening, start, step, look, call, acknowledgements, marks, stepped, seen, words, ok}

-- load, copy and clear, of a record and over one: 1025, 2049 and 3073 come into roots 1 and 2, and go
abbrev root_calls : List Line → List Line
root_calls ls =
    call (c_load 0 1 0 0) ⇒ ok
    ∷ call (c_load 0 1 0 1) ⇒ ok
    ∷ call (c_copy 0 2 1) ⇒ ok
    ∷ call (c_load 0 1 0 2) ⇒ ok
    ∷ call (c_copy 0 2 1) ⇒ ok
    ∷ call (c_clear 0 1) ⇒ ok
    ∷ call (c_clear 0 2) ⇒ ok
    ∷ ls

-- a check, and the check in leave, while root 1 names a record that is neither marked nor on the stack
abbrev checks : List Line → List Line
checks ls =
    call (c_load 0 1 0 0) ⇒ ok
    ∷ call (c_check 0) ⇒ ok
    ∷ call (c_leave 0) ⇒ ok
    ∷ call (c_enter 0) ⇒ ok
    ∷ call (c_clear 0 1) ⇒ ok
    ∷ ls

abbrev pub quiet : List Line
quiet =
    opening ⇒ ok
    -- who is attached in idle has acknowledged nothing
    ∷ call (c_attach 0) ⇒ ok
    ∷ acknowledgements 1 ⇒ words (0 ∷ [])
    ∷ call (c_make 0 0 3 509) ⇒ ok
    ∷ call (c_make 0 1 1 511) ⇒ ok
    ∷ call (c_make 0 2 1 511) ⇒ ok
    ∷ call (c_make 0 3 1 511) ⇒ ok
    ∷ call (c_store 0 0 0 1) ⇒ ok
    ∷ call (c_store 0 0 1 2) ⇒ ok
    ∷ call (c_store 0 0 2 3) ⇒ ok
    -- in idle, a store over a record too
    ∷ call (c_store 0 0 0 3) ⇒ ok
    ∷ call (c_store 0 0 0 1) ⇒ ok
    ∷ call (c_clear 0 1) ⇒ ok
    ∷ call (c_clear 0 2) ⇒ ok
    ∷ call (c_clear 0 3) ⇒ ok
    ∷ root_calls
    (checks
    (look ⇒ seen idle (Full 12 ∷ Free ∷ []) []
    ∷ acknowledgements 1 ⇒ words (0 ∷ [])
    -- before and after the first acknowledgement
    ∷ start ⇒ ok
    ∷ root_calls
    (call (c_check 0) ⇒ ok
    ∷ root_calls
    (checks
    (look ⇒ seen sync1 (Condemned 12 4 ∷ Free ∷ []) []
    -- before and after the second
    ∷ step ⇒ stepped Moved
    ∷ root_calls
    (call (c_check 0) ⇒ ok
    ∷ root_calls
    (checks
    (look ⇒ seen sync2 (Condemned 12 4 ∷ Free ∷ []) (1 ∷ [])
    -- in mark
    ∷ step ⇒ stepped Moved
    ∷ root_calls
    (checks
    (look ⇒ seen mark (Condemned 12 4 ∷ Free ∷ []) (1 ∷ [])
    ∷ step ⇒ stepped Traced
    ∷ look ⇒ seen mark (Condemned 12 4 ∷ Free ∷ []) (1025 ∷ 2049 ∷ 3073 ∷ [])
    ∷ step ⇒ stepped Traced
    ∷ step ⇒ stepped Traced
    ∷ step ⇒ stepped Traced
    ∷ step ⇒ stepped Moved
    -- in sweep: records that have no mark stored and overwritten, loaded, copied and cleared
    ∷ call (c_make 0 4 1 63) ⇒ ok
    ∷ call (c_make 0 5 1 63) ⇒ ok
    ∷ call (c_store 0 4 0 5) ⇒ ok
    ∷ call (c_load 0 1 4 0) ⇒ ok
    ∷ call (c_load 0 1 4 0) ⇒ ok
    ∷ call (c_copy 0 2 1) ⇒ ok
    ∷ call (c_copy 0 2 15) ⇒ ok
    ∷ call (c_check 0) ⇒ ok
    ∷ call (c_clear 0 1) ⇒ ok
    ∷ call (c_store 0 4 0 15) ⇒ ok
    ∷ look ⇒ seen sweep (Condemned 12 4 ∷ Held 9 2 0 ∷ []) []
    ∷ step ⇒ stepped (Swept 0 0)
    ∷ step ⇒ stepped Done
    -- in idle after a cycle: a make sets no mark, and who is spawned has acknowledged nothing, unlike the parent in that cycle
    ∷ call (c_make 0 6 1 63) ⇒ ok
    ∷ marks 1 ⇒ words (0 ∷ [])
    ∷ call (c_spawn 1 0 0) ⇒ ok
    ∷ acknowledgements 2 ⇒ words (2 ∷ 0 ∷ [])
    ∷ []))))))))))
