-- The order of the stacks, and segments that fill in a cycle, with looks at the phase, the segments and the trace stack between the calls.
use Rattle.std.specs.Prelude.{true, List, [], ◌∷◌}
use Rattle.theory.specs.Phases.{idle, sync1, mark, sweep}
use Rattle.theory.specs.Calls.{c_attach, c_detach, c_check, c_make, c_clear, c_same, a_flag}
use Rattle.model.specs.declared.Step.TheVariants.{Moved, Swept, Done}
use Rattle.model.specs.declared.SegmentState.TheVariants.{Free, Part, Held, Full, Condemned}
use Rattle.model_cases.specs.Replies.{Line, ◌⇒◌, opening, start, step, look, call, answer, stepped, seen, ok, no}

-- two segments: which comes off a stack first, and that a part segment is taken before a free one
abbrev pub stacks : List Line
stacks =
    opening ⇒ ok
    ∷ call (c_attach 0) ⇒ ok
    ∷ call (c_make 0 0 1 511) ⇒ ok
    ∷ look ⇒ seen idle (Held 12 1 0 ∷ Free ∷ []) []
    ∷ call (c_detach 0) ⇒ ok
    ∷ look ⇒ seen idle (Part 12 1 ∷ Free ∷ []) []
    ∷ call (c_attach 5) ⇒ ok
    ∷ call (c_make 5 0 1 511) ⇒ ok
    ∷ call (c_make 5 1 1 300) ⇒ ok
    ∷ look ⇒ seen idle (Held 12 2 5 ∷ Held 11 1 5 ∷ []) []
    ∷ call (c_make 5 2 0 0) ⇒ no 10
    ∷ call (c_detach 5) ⇒ ok
    ∷ look ⇒ seen idle (Part 12 2 ∷ Part 11 1 ∷ []) []
    ∷ call (c_attach 5) ⇒ ok
    ∷ call (c_same 5 0 1) ⇒ answer (a_flag true)
    ∷ call (c_make 5 0 0 0) ⇒ no 10
    ∷ call (c_make 5 0 300 0) ⇒ ok
    ∷ look ⇒ seen idle (Part 12 2 ∷ Held 11 2 5 ∷ []) []
    -- opened anew, with the words that are there
    ∷ opening ⇒ ok
    ∷ look ⇒ seen idle (Free ∷ Free ∷ []) []
    ∷ call (c_check 5) ⇒ no 4
    ∷ call (c_attach 0) ⇒ ok
    ∷ call (c_make 0 0 1 511) ⇒ ok
    ∷ call (c_attach 1) ⇒ ok
    ∷ call (c_make 1 0 1 511) ⇒ ok
    ∷ look ⇒ seen idle (Held 12 1 0 ∷ Held 12 1 1 ∷ []) []
    ∷ call (c_detach 1) ⇒ ok
    ∷ call (c_detach 0) ⇒ ok
    ∷ call (c_attach 2) ⇒ ok
    ∷ call (c_make 2 0 1 511) ⇒ ok
    ∷ look ⇒ seen idle (Held 12 2 2 ∷ Part 12 1 ∷ []) []
    ∷ []

-- two segments, three cycles, with no record kept: a segment that becomes full during a cycle is not condemned, the lowest condemned one is swept
-- first, and the free one put on last is taken first
abbrev pub fills : List Line
fills =
    opening ⇒ ok
    ∷ call (c_attach 0) ⇒ ok
    ∷ call (c_make 0 0 1 511) ⇒ ok
    ∷ call (c_make 0 0 1 511) ⇒ ok
    ∷ call (c_make 0 0 1 511) ⇒ ok
    ∷ call (c_make 0 0 1 511) ⇒ ok
    ∷ look ⇒ seen idle (Full 12 ∷ Free ∷ []) []
    ∷ call (c_clear 0 0) ⇒ ok
    ∷ start ⇒ ok
    ∷ call (c_check 0) ⇒ ok
    ∷ step ⇒ stepped Moved
    ∷ call (c_check 0) ⇒ ok
    ∷ step ⇒ stepped Moved
    ∷ call (c_make 0 0 1 511) ⇒ ok
    ∷ call (c_make 0 0 1 511) ⇒ ok
    ∷ call (c_make 0 0 1 511) ⇒ ok
    ∷ look ⇒ seen mark (Condemned 12 4 ∷ Held 12 3 0 ∷ []) []
    ∷ call (c_make 0 0 1 511) ⇒ ok
    ∷ look ⇒ seen mark (Condemned 12 4 ∷ Full 12 ∷ []) []
    ∷ step ⇒ stepped Moved
    ∷ step ⇒ stepped (Swept 0 4)
    ∷ step ⇒ stepped Done
    ∷ look ⇒ seen idle (Free ∷ Full 12 ∷ []) []
    ∷ start ⇒ ok
    ∷ call (c_make 0 0 1 511) ⇒ ok
    ∷ call (c_make 0 0 1 511) ⇒ ok
    ∷ call (c_make 0 0 1 511) ⇒ ok
    ∷ call (c_make 0 0 1 511) ⇒ ok
    ∷ look ⇒ seen sync1 (Full 12 ∷ Condemned 12 4 ∷ []) []
    ∷ call (c_make 0 0 1 511) ⇒ no 10
    ∷ call (c_clear 0 0) ⇒ ok
    ∷ call (c_check 0) ⇒ ok
    ∷ step ⇒ stepped Moved
    ∷ call (c_check 0) ⇒ ok
    ∷ step ⇒ stepped Moved
    ∷ step ⇒ stepped Moved
    ∷ step ⇒ stepped (Swept 1 4)
    ∷ step ⇒ stepped Done
    ∷ look ⇒ seen idle (Full 12 ∷ Free ∷ []) []
    ∷ call (c_make 0 0 1 511) ⇒ ok
    ∷ call (c_make 0 0 1 511) ⇒ ok
    ∷ call (c_make 0 0 1 511) ⇒ ok
    ∷ call (c_make 0 0 1 511) ⇒ ok
    ∷ call (c_clear 0 0) ⇒ ok
    ∷ start ⇒ ok
    ∷ look ⇒ seen sync1 (Condemned 12 4 ∷ Condemned 12 4 ∷ []) []
    ∷ call (c_check 0) ⇒ ok
    ∷ step ⇒ stepped Moved
    ∷ call (c_check 0) ⇒ ok
    ∷ step ⇒ stepped Moved
    ∷ step ⇒ stepped Moved
    ∷ step ⇒ stepped (Swept 0 4)
    ∷ look ⇒ seen sweep (Free ∷ Condemned 12 4 ∷ []) []
    ∷ step ⇒ stepped (Swept 1 4)
    ∷ step ⇒ stepped Done
    ∷ look ⇒ seen idle (Free ∷ Free ∷ []) []
    ∷ call (c_make 0 0 1 511) ⇒ ok
    ∷ look ⇒ seen idle (Free ∷ Held 12 1 0 ∷ []) []
    ∷ []
