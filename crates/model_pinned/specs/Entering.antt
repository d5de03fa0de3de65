-- Document 01, "The cycle": "Entering nil, a marked record, or one already on the stack does nothing." One bit says that a record is marked or on the
-- stack: what is on the stack has it and is not marked; taken off, it keeps it and is marked. All records are of class 12: they are 1, 1025, 2049, 3073.
use Rattle.std.specs.Prelude.{List, [], ◌∷◌}
use Rattle.theory.specs.Phases.{sync1, sync2, mark, sweep}
use Rattle.theory.specs.Calls.{c_attach, c_check, c_make, c_store}
use Rattle.model.specs.declared.Step.TheVariants.{Moved, Traced, Swept, Done}
use Rattle.model.specs.declared.SegmentState.TheVariants.{Condemned}
use Rattle.model_cases.specs.Replies.{Line, ◌⇒◌, opening, start, step, look, call, marks, entered_in, stepped, seen, words, ok}

abbrev pub entering : List Line
entering =
    opening ⇒ ok
    ∷ call (c_attach 0) ⇒ ok
    ∷ call (c_make 0 0 1 511) ⇒ ok
    ∷ call (c_make 0 1 1 511) ⇒ ok
    ∷ call (c_make 0 2 1 511) ⇒ ok
    ∷ call (c_make 0 3 1 511) ⇒ ok
    ∷ start ⇒ ok
    -- before its first answer a store enters nothing
    ∷ call (c_store 0 0 0 1) ⇒ ok
    ∷ entered_in 0 ⇒ words (0 ∷ [])
    -- roll 1, after it: the new value, then the old
    ∷ call (c_check 0) ⇒ ok
    ∷ call (c_store 0 0 0 2) ⇒ ok
    ∷ look ⇒ seen sync1 (Condemned 12 4 ∷ []) (2049 ∷ 1025 ∷ [])
    ∷ entered_in 0 ⇒ words (6 ∷ [])
    ∷ marks 0 ⇒ words (0 ∷ [])
    -- roll 2: the new one only, as the old is on the stack already
    ∷ step ⇒ stepped Moved
    ∷ call (c_store 0 0 0 3) ⇒ ok
    ∷ look ⇒ seen sync2 (Condemned 12 4 ∷ []) (2049 ∷ 1025 ∷ 3073 ∷ [])
    ∷ entered_in 0 ⇒ words (14 ∷ [])
    ∷ marks 0 ⇒ words (0 ∷ [])
    -- its roots, the three on the stack once
    ∷ call (c_check 0) ⇒ ok
    ∷ look ⇒ seen sync2 (Condemned 12 4 ∷ []) (2049 ∷ 1025 ∷ 3073 ∷ 1 ∷ [])
    ∷ entered_in 0 ⇒ words (15 ∷ [])
    ∷ marks 0 ⇒ words (0 ∷ [])
    -- traced: off the stack, it keeps its bit and is marked
    ∷ step ⇒ stepped Moved
    ∷ step ⇒ stepped Traced
    ∷ look ⇒ seen mark (Condemned 12 4 ∷ []) (2049 ∷ 1025 ∷ 3073 ∷ [])
    ∷ entered_in 0 ⇒ words (15 ∷ [])
    ∷ marks 0 ⇒ words (1 ∷ [])
    ∷ step ⇒ stepped Traced
    ∷ marks 0 ⇒ words (9 ∷ [])
    -- in mark a store over nil, over a record on the stack and over a marked one enters nothing
    ∷ call (c_store 0 3 0 2) ⇒ ok
    ∷ call (c_store 0 3 0 0) ⇒ ok
    ∷ call (c_store 0 3 0 2) ⇒ ok
    ∷ look ⇒ seen mark (Condemned 12 4 ∷ []) (2049 ∷ 1025 ∷ [])
    ∷ entered_in 0 ⇒ words (15 ∷ [])
    ∷ step ⇒ stepped Traced
    ∷ step ⇒ stepped Traced
    ∷ entered_in 0 ⇒ words (15 ∷ [])
    ∷ marks 0 ⇒ words (15 ∷ [])
    -- with an empty stack the bits are the marks
    ∷ step ⇒ stepped Moved
    ∷ look ⇒ seen sweep (Condemned 12 4 ∷ []) []
    ∷ step ⇒ stepped (Swept 0 0)
    ∷ step ⇒ stepped Done
    ∷ []
