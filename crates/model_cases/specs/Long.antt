-- Document 02, No. 2: records of classes 13 and 14. "a record has up to 4,095 fields", "Refusal 9 now begins at 4,096 fields", and "a class 14 one
-- is full from its first block".
use Rattle.std.specs.Prelude.{true, List, [], ◌∷◌}
use Rattle.classes.specs.Record.{of_counts}
use Rattle.theory.specs.Phases.{idle, sweep}
use Rattle.theory.specs.Calls.{c_attach, c_detach, c_check, c_make, c_load, c_store, c_clear, c_put, c_get, c_same, c_shape, a_num, a_flag, a_shape}
use Rattle.model.specs.declared.Step.TheVariants.{Moved, Traced, Swept, Done}
use Rattle.model.specs.declared.SegmentState.TheVariants.{Free, Part, Held, Full}
use Rattle.model_cases.specs.Replies.{Line, ◌⇒◌, opening, start, step, look, call, answer, stepped, seen, ok, no}

-- three segments, and a cycle over them: one of class 14 is swept to full, one of class 13 to part, one of class 14 to free
abbrev pub long : List Line
long =
    opening ⇒ ok
    ∷ call (c_attach 0) ⇒ ok
    -- one block a segment: 4,095 fields, the first and the last value, the one pointer, and none past them
    ∷ call (c_make 0 0 1 4094) ⇒ ok
    ∷ look ⇒ seen idle (Full 14 ∷ Free ∷ Free ∷ []) []
    ∷ call (c_shape 0 0) ⇒ answer (a_shape (of_counts 1 4094))
    ∷ call (c_put 0 0 0 5) ⇒ ok
    ∷ call (c_put 0 0 4093 7) ⇒ ok
    ∷ call (c_put 0 0 4094 9) ⇒ no 8
    ∷ call (c_get 0 0 0) ⇒ answer (a_num 5)
    ∷ call (c_get 0 0 4093) ⇒ answer (a_num 7)
    ∷ call (c_store 0 0 0 0) ⇒ ok
    ∷ call (c_load 0 1 0 0) ⇒ ok
    ∷ call (c_load 0 2 0 1) ⇒ no 8
    ∷ call (c_same 0 1 0) ⇒ answer (a_flag true)
    -- two blocks a segment
    ∷ call (c_make 0 1 1 1023) ⇒ ok
    ∷ look ⇒ seen idle (Full 14 ∷ Held 13 1 0 ∷ Free ∷ []) []
    ∷ call (c_make 0 2 0 2047) ⇒ ok
    ∷ look ⇒ seen idle (Full 14 ∷ Full 13 ∷ Free ∷ []) []
    ∷ call (c_make 0 3 4095 0) ⇒ ok
    ∷ look ⇒ seen idle (Full 14 ∷ Full 13 ∷ Full 14 ∷ []) []
    -- 4,095 fields have no room, and 4,096 are too many: the lower number
    ∷ call (c_make 0 4 0 4095) ⇒ no 10
    ∷ call (c_make 0 4 0 4096) ⇒ no 9
    ∷ call (c_make 0 4 4095 1) ⇒ no 9
    -- two are dropped
    ∷ call (c_clear 0 2) ⇒ ok
    ∷ call (c_clear 0 3) ⇒ ok
    ∷ start ⇒ ok
    ∷ call (c_check 0) ⇒ ok
    ∷ step ⇒ stepped Moved
    ∷ call (c_check 0) ⇒ ok
    ∷ step ⇒ stepped Moved
    ∷ step ⇒ stepped Traced
    ∷ step ⇒ stepped Traced
    ∷ step ⇒ stepped Moved
    ∷ step ⇒ stepped (Swept 0 0)
    ∷ step ⇒ stepped (Swept 1 1)
    ∷ step ⇒ stepped (Swept 2 1)
    ∷ look ⇒ seen sweep (Full 14 ∷ Part 13 0 ∷ Free ∷ []) []
    ∷ step ⇒ stepped Done
    ∷ call (c_get 0 0 4093) ⇒ answer (a_num 7)
    ∷ call (c_make 0 2 0 4095) ⇒ ok
    ∷ look ⇒ seen idle (Full 14 ∷ Part 13 0 ∷ Full 14 ∷ []) []
    ∷ []

-- three segments of three classes, and who held them goes: two are part, and that of class 14 is full
abbrev pub long_detach : List Line
long_detach =
    opening ⇒ ok
    ∷ call (c_attach 0) ⇒ ok
    ∷ call (c_make 0 0 0 1) ⇒ ok
    ∷ call (c_make 0 1 0 1024) ⇒ ok
    ∷ call (c_make 0 2 0 2048) ⇒ ok
    ∷ call (c_detach 0) ⇒ ok
    ∷ look ⇒ seen idle (Part 3 1 ∷ Part 13 1 ∷ Full 14 ∷ []) []
    ∷ []
