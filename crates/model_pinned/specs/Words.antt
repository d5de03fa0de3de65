-- The words that no look shows: a record's header and the order of its fields, marks and acknowledgements through a cycle.
use Rattle.std.specs.Prelude.{List, [], ◌∷◌}
use Rattle.theory.specs.Calls.{c_attach, c_detach, c_check, c_leave, c_make, c_store, c_clear, c_put}
use Rattle.model.specs.declared.Step.TheVariants.{Moved, Traced, Swept, Done}
use Rattle.model_cases.specs.Replies.{Line, ◌⇒◌, opening, start, step, call, acknowledgements, marks, heap, stepped, words, ok}

abbrev pub written : List Line
written =
    opening ⇒ ok
    ∷ call (c_attach 31) ⇒ ok
    ∷ call (c_attach 0) ⇒ ok
    ∷ call (c_attach 1) ⇒ ok
    -- "A header word P × 65,536 + N comes first, then the links, then the numbers."
    ∷ call (c_make 0 0 2 510) ⇒ ok
    ∷ heap 0 4 ⇒ words (131582 ∷ 0 ∷ 0 ∷ 0 ∷ [])
    ∷ call (c_store 0 0 1 0) ⇒ ok
    ∷ call (c_put 0 0 0 5) ⇒ ok
    ∷ call (c_put 0 0 509 6) ⇒ ok
    ∷ heap 0 5 ⇒ words (131582 ∷ 0 ∷ 1 ∷ 5 ∷ 0 ∷ [])
    ∷ heap 511 3 ⇒ words (0 ∷ 6 ∷ 7 ∷ [])
    ∷ call (c_make 0 1 1 511) ⇒ ok
    ∷ call (c_make 0 2 1 511) ⇒ ok
    ∷ call (c_make 0 3 1 511) ⇒ ok
    ∷ call (c_clear 0 2) ⇒ ok
    -- start clears every mark
    ∷ start ⇒ ok
    ∷ marks 0 ⇒ words (0 ∷ [])
    ∷ marks 1 ⇒ words (0 ∷ [])
    ∷ acknowledgements 2 ⇒ words (0 ∷ 0 ∷ [])
    ∷ call (c_check 0) ⇒ ok
    ∷ call (c_check 0) ⇒ ok
    ∷ acknowledgements 2 ⇒ words (1 ∷ 0 ∷ [])
    ∷ call (c_check 1) ⇒ ok
    ∷ call (c_check 31) ⇒ ok
    ∷ step ⇒ stepped Moved
    ∷ acknowledgements 2 ⇒ words (1 ∷ 1 ∷ [])
    -- between its two answers a mutator makes blocks unmarked, after the second marked
    ∷ call (c_make 0 4 1 63) ⇒ ok
    ∷ marks 1 ⇒ words (0 ∷ [])
    ∷ call (c_check 0) ⇒ ok
    ∷ acknowledgements 2 ⇒ words (2 ∷ 1 ∷ [])
    ∷ call (c_make 0 5 1 63) ⇒ ok
    ∷ marks 1 ⇒ words (2 ∷ [])
    ∷ call (c_leave 1) ⇒ ok
    ∷ call (c_leave 31) ⇒ ok
    ∷ step ⇒ stepped Moved
    ∷ acknowledgements 2 ⇒ words (2 ∷ 2 ∷ [])
    -- in mark: a newcomer has both answers, and its blocks are marked
    ∷ call (c_attach 2) ⇒ ok
    ∷ acknowledgements 3 ⇒ words (2 ∷ 2 ∷ 2 ∷ [])
    ∷ call (c_make 0 6 1 63) ⇒ ok
    ∷ marks 1 ⇒ words (6 ∷ [])
    -- the last entered first: the block made unmarked, then 3073, 1025 and 1
    ∷ step ⇒ stepped Traced
    ∷ marks 1 ⇒ words (7 ∷ [])
    ∷ marks 0 ⇒ words (0 ∷ [])
    ∷ step ⇒ stepped Traced
    ∷ marks 0 ⇒ words (8 ∷ [])
    ∷ step ⇒ stepped Traced
    ∷ step ⇒ stepped Traced
    ∷ marks 0 ⇒ words (11 ∷ [])
    ∷ step ⇒ stepped Moved
    -- in sweep: unmarked, and a newcomer has given no answer
    ∷ call (c_make 0 7 1 63) ⇒ ok
    ∷ marks 1 ⇒ words (7 ∷ [])
    ∷ call (c_attach 3) ⇒ ok
    ∷ acknowledgements 4 ⇒ words (2 ∷ 2 ∷ 2 ∷ 0 ∷ [])
    ∷ step ⇒ stepped (Swept 0 1)
    ∷ step ⇒ stepped Done
    ∷ call (c_detach 2) ⇒ ok
    ∷ acknowledgements 4 ⇒ words (2 ∷ 2 ∷ 0 ∷ 0 ∷ [])
    -- a start with nothing full, which condemns a part segment, clears every mark and acknowledgement as well
    ∷ marks 0 ⇒ words (11 ∷ [])
    ∷ marks 1 ⇒ words (7 ∷ [])
    ∷ start ⇒ ok
    ∷ marks 0 ⇒ words (0 ∷ [])
    ∷ marks 1 ⇒ words (0 ∷ [])
    ∷ acknowledgements 4 ⇒ words (0 ∷ 0 ∷ 0 ∷ 0 ∷ [])
    ∷ []
