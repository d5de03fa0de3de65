-- Cycles over part segments. Request No. 5: "A start now condemns the part segments as well. A condemned segment keeps its place and is on no stack, so
-- no script takes it before its sweep". Records of 600 values are of class 12, four to a segment, 1024 words apart.
use Rattle.std.specs.Prelude.{List, [], ◌∷◌}
use Rattle.theory.specs.Phases.{idle, sync1, sync2, mark, sweep}
use Rattle.theory.specs.Calls.{c_attach, c_detach, c_check, c_spawn, c_make, c_store}
use Rattle.model.specs.declared.Step.TheVariants.{Moved, Traced, Swept, Done}
use Rattle.model.specs.declared.SegmentState.TheVariants.{Free, Part, Held, Full, Condemned}
use Rattle.model_cases.specs.Replies.{Line, ◌⇒◌, opening, start, step, look, counts, call, stepped, seen, words, ok, no}

-- "A venue plays long chases after short ones." One segment, three short records whose mutator is gone: no room for a long one. A cycle frees the three,
-- and the long one has room
abbrev pub long_after_short : List Line
long_after_short =
    opening ⇒ ok
    ∷ call (c_attach 0) ⇒ ok
    ∷ call (c_make 0 0 1 63) ⇒ ok
    ∷ call (c_make 0 1 1 63) ⇒ ok
    ∷ call (c_make 0 2 1 63) ⇒ ok
    ∷ call (c_detach 0) ⇒ ok
    ∷ look ⇒ seen idle (Part 9 3 ∷ []) []
    ∷ call (c_attach 1) ⇒ ok
    ∷ call (c_make 1 0 0 4095) ⇒ no 10
    ∷ start ⇒ ok
    ∷ look ⇒ seen sync1 (Condemned 9 3 ∷ []) []
    -- a short one has none before the sweep either
    ∷ call (c_make 1 0 1 63) ⇒ no 10
    ∷ call (c_check 1) ⇒ ok
    ∷ step ⇒ stepped Moved
    ∷ call (c_check 1) ⇒ ok
    ∷ step ⇒ stepped Moved
    ∷ step ⇒ stepped Moved
    ∷ step ⇒ stepped (Swept 0 3)
    ∷ look ⇒ seen sweep (Free ∷ []) []
    ∷ step ⇒ stepped Done
    ∷ call (c_make 1 0 0 4095) ⇒ ok
    ∷ look ⇒ seen idle (Full 14 ∷ []) []
    ∷ []

-- three segments: two part ones of one class are swept to part, the lower first; the third is held throughout the cycle, with a record that is dropped.
-- Segment 0 is the last put on before the start, and 1 after the sweeps
abbrev pub swept_to_part : List Line
swept_to_part =
    opening ⇒ ok
    ∷ call (c_attach 0) ⇒ ok
    ∷ call (c_make 0 0 0 600) ⇒ ok
    ∷ call (c_make 0 1 0 600) ⇒ ok
    ∷ call (c_attach 1) ⇒ ok
    ∷ call (c_make 1 0 2 600) ⇒ ok
    ∷ call (c_make 1 1 0 600) ⇒ ok
    ∷ call (c_make 1 2 0 600) ⇒ ok
    ∷ call (c_store 1 0 0 1) ⇒ ok
    ∷ call (c_store 1 0 1 2) ⇒ ok
    -- mutator 2 keeps the first record of segment 0, mutator 3 all three of segment 1
    ∷ call (c_spawn 2 0 0) ⇒ ok
    ∷ call (c_spawn 3 1 0) ⇒ ok
    ∷ call (c_make 2 1 0 300) ⇒ ok
    ∷ call (c_make 2 1 0 300) ⇒ ok
    ∷ call (c_detach 1) ⇒ ok
    ∷ call (c_detach 0) ⇒ ok
    ∷ look ⇒ seen idle (Part 12 2 ∷ Part 12 3 ∷ Held 11 2 2 ∷ []) []
    ∷ start ⇒ ok
    ∷ look ⇒ seen sync1 (Condemned 12 2 ∷ Condemned 12 3 ∷ Held 11 2 2 ∷ []) []
    ∷ counts ⇒ words (0 ∷ 2 ∷ 2 ∷ 0 ∷ 3 ∷ 3 ∷ 0 ∷ 2 ∷ 2 ∷ [])
    -- "I count a make refused for that as lack of room": in each phase
    ∷ call (c_make 2 2 0 600) ⇒ no 10
    ∷ call (c_check 2) ⇒ ok
    ∷ call (c_check 3) ⇒ ok
    ∷ step ⇒ stepped Moved
    ∷ call (c_make 2 2 0 600) ⇒ no 10
    ∷ call (c_check 2) ⇒ ok
    ∷ call (c_check 3) ⇒ ok
    ∷ look ⇒ seen sync2 (Condemned 12 2 ∷ Condemned 12 3 ∷ Held 11 2 2 ∷ []) (1 ∷ 8705 ∷ 4097 ∷ [])
    ∷ step ⇒ stepped Moved
    ∷ call (c_make 2 2 0 600) ⇒ no 10
    ∷ step ⇒ stepped Traced
    ∷ look ⇒ seen mark (Condemned 12 2 ∷ Condemned 12 3 ∷ Held 11 2 2 ∷ []) (1 ∷ 8705 ∷ 5121 ∷ 6145 ∷ [])
    ∷ step ⇒ stepped Traced
    ∷ step ⇒ stepped Traced
    ∷ step ⇒ stepped Traced
    ∷ step ⇒ stepped Traced
    ∷ step ⇒ stepped Moved
    ∷ call (c_make 2 2 0 600) ⇒ no 10
    -- of two in use one is marked; of three all are, and the fourth block was not in use: part, not full
    ∷ step ⇒ stepped (Swept 0 1)
    ∷ look ⇒ seen sweep (Part 12 0 ∷ Condemned 12 3 ∷ Held 11 2 2 ∷ []) []
    ∷ step ⇒ stepped (Swept 1 0)
    ∷ look ⇒ seen sweep (Part 12 0 ∷ Part 12 0 ∷ Held 11 2 2 ∷ []) []
    ∷ counts ⇒ words (1 ∷ 0 ∷ 1 ∷ 3 ∷ 0 ∷ 3 ∷ 0 ∷ 2 ∷ 2 ∷ [])
    -- the last swept is taken first, and has one block left; then the other
    ∷ call (c_make 2 2 0 600) ⇒ ok
    ∷ look ⇒ seen sweep (Part 12 0 ∷ Full 12 ∷ Held 11 2 2 ∷ []) []
    ∷ call (c_make 3 1 0 600) ⇒ ok
    ∷ step ⇒ stepped Done
    ∷ look ⇒ seen idle (Held 12 2 3 ∷ Full 12 ∷ Held 11 2 2 ∷ []) []
    ∷ []

-- two segments: one that a detach makes part in mark, and again in sweep, is not condemned, is on its stack, and is not swept in this cycle, but in the
-- next
abbrev pub part_in_cycle : List Line
part_in_cycle =
    opening ⇒ ok
    ∷ call (c_attach 0) ⇒ ok
    ∷ call (c_make 0 0 0 600) ⇒ ok
    ∷ call (c_attach 1) ⇒ ok
    ∷ call (c_make 1 0 0 600) ⇒ ok
    ∷ call (c_detach 0) ⇒ ok
    ∷ start ⇒ ok
    ∷ look ⇒ seen sync1 (Condemned 12 1 ∷ Held 12 1 1 ∷ []) []
    ∷ call (c_check 1) ⇒ ok
    ∷ step ⇒ stepped Moved
    ∷ call (c_check 1) ⇒ ok
    ∷ step ⇒ stepped Moved
    ∷ call (c_detach 1) ⇒ ok
    ∷ look ⇒ seen mark (Condemned 12 1 ∷ Part 12 1 ∷ []) (4097 ∷ [])
    -- it is taken in mark, and put back in sweep
    ∷ call (c_attach 2) ⇒ ok
    ∷ call (c_make 2 0 0 600) ⇒ ok
    ∷ look ⇒ seen mark (Condemned 12 1 ∷ Held 12 2 2 ∷ []) (4097 ∷ [])
    ∷ step ⇒ stepped Traced
    ∷ step ⇒ stepped Moved
    ∷ call (c_detach 2) ⇒ ok
    ∷ look ⇒ seen sweep (Condemned 12 1 ∷ Part 12 2 ∷ []) []
    ∷ step ⇒ stepped (Swept 0 1)
    ∷ step ⇒ stepped Done
    ∷ look ⇒ seen idle (Free ∷ Part 12 2 ∷ []) []
    ∷ start ⇒ ok
    ∷ look ⇒ seen sync1 (Free ∷ Condemned 12 2 ∷ []) []
    ∷ step ⇒ stepped Moved
    ∷ step ⇒ stepped Moved
    ∷ step ⇒ stepped Moved
    ∷ step ⇒ stepped (Swept 1 2)
    ∷ step ⇒ stepped Done
    ∷ look ⇒ seen idle (Free ∷ Free ∷ []) []
    ∷ []
