-- Part segments through two cycles, and the order of their stack. Request No. 5: "A start now condemns the part segments as well." In the first cycle
-- a detach in mark makes one: it is not condemned, and the segment that is swept to part is put on top of it. In the second one it is condemned.
use Rattle.std.specs.Prelude.{List, [], ◌∷◌}
use Rattle.theory.specs.Phases.{idle, sync1, sync2, mark, sweep}
use Rattle.theory.specs.Calls.{c_attach, c_detach, c_check, c_make, c_clear}
use Rattle.model.specs.declared.Step.TheVariants.{Moved, Traced, Swept, Done}
use Rattle.model.specs.declared.SegmentState.TheVariants.{Free, Part, Held, Full, Condemned}
use Rattle.model_cases.specs.Replies.{Line, ◌⇒◌, opening, start, step, look, call, stepped, seen, ok, no}

abbrev pub parts : List Line
parts =
    opening ⇒ ok
    ∷ call (c_attach 0) ⇒ ok
    ∷ call (c_make 0 0 1 511) ⇒ ok
    ∷ call (c_make 0 1 1 511) ⇒ ok
    ∷ call (c_make 0 2 1 511) ⇒ ok
    ∷ call (c_make 0 3 1 511) ⇒ ok
    ∷ call (c_attach 1) ⇒ ok
    ∷ call (c_make 1 0 1 511) ⇒ ok
    ∷ look ⇒ seen idle (Full 12 ∷ Held 12 1 1 ∷ []) []
    -- a start condemns the full segment and not the held one
    ∷ call (c_clear 0 0) ⇒ ok
    ∷ call (c_clear 0 2) ⇒ ok
    ∷ call (c_clear 0 3) ⇒ ok
    ∷ start ⇒ ok
    ∷ call (c_check 0) ⇒ ok
    ∷ call (c_check 1) ⇒ ok
    ∷ step ⇒ stepped Moved
    ∷ call (c_check 0) ⇒ ok
    ∷ call (c_check 1) ⇒ ok
    ∷ look ⇒ seen sync2 (Condemned 12 4 ∷ Held 12 1 1 ∷ []) (1025 ∷ 4097 ∷ [])
    ∷ step ⇒ stepped Moved
    -- that becomes part in mark, before the sweep
    ∷ call (c_detach 1) ⇒ ok
    ∷ look ⇒ seen mark (Condemned 12 4 ∷ Part 12 1 ∷ []) (1025 ∷ 4097 ∷ [])
    ∷ step ⇒ stepped Traced
    ∷ step ⇒ stepped Traced
    ∷ step ⇒ stepped Moved
    ∷ step ⇒ stepped (Swept 0 3)
    ∷ step ⇒ stepped Done
    ∷ look ⇒ seen idle (Part 12 0 ∷ Part 12 1 ∷ []) []
    -- the segment swept last is taken first: block 1 is marked, so block 0 is handed out
    ∷ call (c_make 0 0 1 511) ⇒ ok
    ∷ look ⇒ seen idle (Held 12 1 0 ∷ Part 12 1 ∷ []) []
    -- a start condemns the part segment and not the held one: it keeps its place, and nobody takes it before its sweep
    ∷ call (c_attach 2) ⇒ ok
    ∷ start ⇒ ok
    ∷ look ⇒ seen sync1 (Held 12 1 0 ∷ Condemned 12 1 ∷ []) []
    ∷ call (c_make 2 0 1 511) ⇒ no 10
    ∷ call (c_check 0) ⇒ ok
    ∷ call (c_check 2) ⇒ ok
    ∷ step ⇒ stepped Moved
    ∷ call (c_check 0) ⇒ ok
    ∷ call (c_check 2) ⇒ ok
    ∷ look ⇒ seen sync2 (Held 12 1 0 ∷ Condemned 12 1 ∷ []) (1 ∷ 1025 ∷ [])
    ∷ step ⇒ stepped Moved
    ∷ step ⇒ stepped Traced
    ∷ step ⇒ stepped Traced
    ∷ step ⇒ stepped Moved
    ∷ call (c_make 2 0 1 511) ⇒ no 10
    ∷ step ⇒ stepped (Swept 1 1)
    ∷ look ⇒ seen sweep (Held 12 1 0 ∷ Free ∷ []) []
    ∷ call (c_make 2 0 1 511) ⇒ ok
    ∷ step ⇒ stepped Done
    ∷ look ⇒ seen idle (Held 12 1 0 ∷ Held 12 1 2 ∷ []) []
    ∷ []
