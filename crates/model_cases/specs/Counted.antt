-- Document 02, No. 3: "blocks kept at its last sweep (0 before one), and blocks handed out since". Four segments, and of each
-- the two counts and its blocks in use: after an opening, after makes in three classes, after fills, after sweeps to part, full and free, after makes out
-- of the swept segment, after the freed one is taken by another class, after a second sweep, after a detach, and after sweeps of part segments (No. 5).
use Rattle.std.specs.Prelude.{List, [], ◌∷◌}
use Rattle.theory.specs.Phases.{idle, sync1, sweep}
use Rattle.theory.specs.Calls.{c_attach, c_detach, c_check, c_leave, c_spawn, c_make, c_clear}
use Rattle.model.specs.declared.Step.TheVariants.{Moved, Traced, Swept, Done}
use Rattle.model.specs.declared.SegmentState.TheVariants.{Free, Part, Held, Full, Condemned}
use Rattle.model_cases.specs.Replies.{Line, ◌⇒◌, opening, start, step, look, counts, call, stepped, seen, words, ok}

abbrev pub counted : List Line
counted =
    opening ⇒ ok
    ∷ counts ⇒ words (0 ∷ 0 ∷ 0 ∷ 0 ∷ 0 ∷ 0 ∷ 0 ∷ 0 ∷ 0 ∷ 0 ∷ 0 ∷ 0 ∷ [])
    ∷ call (c_attach 0) ⇒ ok
    -- classes 12, 13 and 11: four, two and eight blocks a segment
    ∷ call (c_make 0 0 0 600) ⇒ ok
    ∷ call (c_make 0 1 0 1024) ⇒ ok
    ∷ call (c_make 0 2 0 300) ⇒ ok
    ∷ look ⇒ seen idle (Held 12 1 0 ∷ Held 13 1 0 ∷ Held 11 1 0 ∷ Free ∷ []) []
    ∷ counts ⇒ words (0 ∷ 1 ∷ 1 ∷ 0 ∷ 1 ∷ 1 ∷ 0 ∷ 1 ∷ 1 ∷ 0 ∷ 0 ∷ 0 ∷ [])
    -- the first two are filled, and one of class 14 is full at once: the make that fills counts too
    ∷ call (c_make 0 3 0 600) ⇒ ok
    ∷ call (c_make 0 4 0 600) ⇒ ok
    ∷ call (c_make 0 5 0 600) ⇒ ok
    ∷ call (c_make 0 6 0 1024) ⇒ ok
    ∷ call (c_make 0 7 0 4095) ⇒ ok
    ∷ look ⇒ seen idle (Full 12 ∷ Full 13 ∷ Held 11 1 0 ∷ Full 14 ∷ []) []
    ∷ counts ⇒ words (0 ∷ 4 ∷ 4 ∷ 0 ∷ 2 ∷ 2 ∷ 0 ∷ 1 ∷ 1 ∷ 0 ∷ 1 ∷ 1 ∷ [])
    -- of class 12 the second and the fourth are dropped, of class 13 none, of class 14 the one: a start moves no count
    ∷ call (c_clear 0 3) ⇒ ok
    ∷ call (c_clear 0 5) ⇒ ok
    ∷ call (c_clear 0 7) ⇒ ok
    ∷ start ⇒ ok
    ∷ counts ⇒ words (0 ∷ 4 ∷ 4 ∷ 0 ∷ 2 ∷ 2 ∷ 0 ∷ 1 ∷ 1 ∷ 0 ∷ 1 ∷ 1 ∷ [])
    ∷ call (c_check 0) ⇒ ok
    ∷ step ⇒ stepped Moved
    ∷ call (c_check 0) ⇒ ok
    ∷ step ⇒ stepped Moved
    ∷ step ⇒ stepped Traced
    ∷ step ⇒ stepped Traced
    ∷ step ⇒ stepped Traced
    ∷ step ⇒ stepped Traced
    ∷ step ⇒ stepped Traced
    ∷ step ⇒ stepped Moved
    -- swept to part, to full and to free
    ∷ step ⇒ stepped (Swept 0 2)
    ∷ look ⇒ seen sweep (Part 12 0 ∷ Condemned 13 2 ∷ Held 11 1 0 ∷ Condemned 14 1 ∷ []) []
    ∷ counts ⇒ words (2 ∷ 0 ∷ 2 ∷ 0 ∷ 2 ∷ 2 ∷ 0 ∷ 1 ∷ 1 ∷ 0 ∷ 1 ∷ 1 ∷ [])
    ∷ step ⇒ stepped (Swept 1 0)
    ∷ counts ⇒ words (2 ∷ 0 ∷ 2 ∷ 2 ∷ 0 ∷ 2 ∷ 0 ∷ 1 ∷ 1 ∷ 0 ∷ 1 ∷ 1 ∷ [])
    ∷ step ⇒ stepped (Swept 3 1)
    ∷ look ⇒ seen sweep (Part 12 0 ∷ Full 13 ∷ Held 11 1 0 ∷ Free ∷ []) []
    ∷ counts ⇒ words (2 ∷ 0 ∷ 2 ∷ 2 ∷ 0 ∷ 2 ∷ 0 ∷ 1 ∷ 1 ∷ 0 ∷ 0 ∷ 0 ∷ [])
    ∷ step ⇒ stepped Done
    -- the part segment is taken with its counts; the place passes over the first block, whose bit is 1, and over the third
    ∷ call (c_make 0 3 0 600) ⇒ ok
    ∷ look ⇒ seen idle (Held 12 2 0 ∷ Full 13 ∷ Held 11 1 0 ∷ Free ∷ []) []
    ∷ counts ⇒ words (2 ∷ 1 ∷ 3 ∷ 2 ∷ 0 ∷ 2 ∷ 0 ∷ 1 ∷ 1 ∷ 0 ∷ 0 ∷ 0 ∷ [])
    ∷ call (c_make 0 5 0 600) ⇒ ok
    -- the segment that was of class 14 is taken by class 13
    ∷ call (c_make 0 7 0 1024) ⇒ ok
    ∷ look ⇒ seen idle (Full 12 ∷ Full 13 ∷ Held 11 1 0 ∷ Held 13 1 0 ∷ []) []
    ∷ counts ⇒ words (2 ∷ 2 ∷ 4 ∷ 2 ∷ 0 ∷ 2 ∷ 0 ∷ 1 ∷ 1 ∷ 0 ∷ 1 ∷ 1 ∷ [])
    -- of class 12 a record that was kept is dropped, and one that was handed out since; a second cycle sweeps what a sweep left
    ∷ call (c_clear 0 0) ⇒ ok
    ∷ call (c_clear 0 3) ⇒ ok
    ∷ start ⇒ ok
    ∷ call (c_check 0) ⇒ ok
    ∷ step ⇒ stepped Moved
    ∷ call (c_check 0) ⇒ ok
    ∷ step ⇒ stepped Moved
    ∷ step ⇒ stepped Traced
    ∷ step ⇒ stepped Traced
    ∷ step ⇒ stepped Traced
    ∷ step ⇒ stepped Traced
    ∷ step ⇒ stepped Traced
    ∷ step ⇒ stepped Traced
    ∷ step ⇒ stepped Moved
    ∷ step ⇒ stepped (Swept 0 2)
    ∷ counts ⇒ words (2 ∷ 0 ∷ 2 ∷ 2 ∷ 0 ∷ 2 ∷ 0 ∷ 1 ∷ 1 ∷ 0 ∷ 1 ∷ 1 ∷ [])
    ∷ step ⇒ stepped (Swept 1 0)
    ∷ counts ⇒ words (2 ∷ 0 ∷ 2 ∷ 2 ∷ 0 ∷ 2 ∷ 0 ∷ 1 ∷ 1 ∷ 0 ∷ 1 ∷ 1 ∷ [])
    ∷ step ⇒ stepped Done
    -- the record of class 11 gets another mutator, which goes outside; a detach moves no count
    ∷ call (c_spawn 1 0 2) ⇒ ok
    ∷ call (c_leave 1) ⇒ ok
    ∷ call (c_detach 0) ⇒ ok
    ∷ look ⇒ seen idle (Part 12 0 ∷ Full 13 ∷ Part 11 1 ∷ Part 13 1 ∷ []) []
    ∷ counts ⇒ words (2 ∷ 0 ∷ 2 ∷ 2 ∷ 0 ∷ 2 ∷ 0 ∷ 1 ∷ 1 ∷ 0 ∷ 1 ∷ 1 ∷ [])
    -- a start condemns part segments, places kept: it moves no count
    ∷ start ⇒ ok
    ∷ look ⇒ seen sync1 (Condemned 12 0 ∷ Condemned 13 2 ∷ Condemned 11 1 ∷ Condemned 13 1 ∷ []) []
    ∷ counts ⇒ words (2 ∷ 0 ∷ 2 ∷ 2 ∷ 0 ∷ 2 ∷ 0 ∷ 1 ∷ 1 ∷ 0 ∷ 1 ∷ 1 ∷ [])
    ∷ step ⇒ stepped Moved
    ∷ step ⇒ stepped Moved
    ∷ step ⇒ stepped Traced
    ∷ step ⇒ stepped Moved
    -- freed are the two that were kept, the two of the full one, none of the one that is kept, and the one handed out since
    ∷ step ⇒ stepped (Swept 0 2)
    ∷ step ⇒ stepped (Swept 1 2)
    ∷ step ⇒ stepped (Swept 2 0)
    ∷ step ⇒ stepped (Swept 3 1)
    ∷ look ⇒ seen sweep (Free ∷ Free ∷ Part 11 0 ∷ Free ∷ []) []
    ∷ counts ⇒ words (0 ∷ 0 ∷ 0 ∷ 0 ∷ 0 ∷ 0 ∷ 1 ∷ 0 ∷ 1 ∷ 0 ∷ 0 ∷ 0 ∷ [])
    ∷ step ⇒ stepped Done
    ∷ []
