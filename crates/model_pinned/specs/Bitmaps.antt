-- Document 01, "The heap": "A block is in use when it lies before the place or its bit is 1." A make moves the place and sets no bit: of the bitmap a
-- call writes the whole tree of a free segment that is taken, and a sweep what the marks become. Class 12 has four blocks, and "bits past a level's
-- end are 1": a word of clear bits is 4294967280.
use Rattle.std.specs.Prelude.{List, [], ◌∷◌}
use Rattle.theory.specs.Phases.{idle}
use Rattle.theory.specs.Calls.{c_attach, c_detach, c_check, c_make, c_clear}
use Rattle.model.specs.declared.Step.TheVariants.{Moved, Traced, Swept, Done}
use Rattle.model.specs.declared.SegmentState.TheVariants.{Free, Part, Held, Full}
use Rattle.model_cases.specs.Replies.{Line, ◌⇒◌, opening, start, step, look, call, bits, stepped, seen, words, ok}

abbrev pub bitmaps : List Line
bitmaps =
    opening ⇒ ok
    ∷ call (c_attach 0) ⇒ ok
    -- a free segment taken, its words were anything
    ∷ call (c_make 0 0 1 511) ⇒ ok
    ∷ bits 0 ⇒ words (4294967280 ∷ [])
    ∷ call (c_make 0 1 1 511) ⇒ ok
    ∷ call (c_make 0 2 1 511) ⇒ ok
    ∷ bits 0 ⇒ words (4294967280 ∷ [])
    -- full, its place says so
    ∷ call (c_make 0 3 1 511) ⇒ ok
    ∷ look ⇒ seen idle (Full 12 ∷ []) []
    ∷ bits 0 ⇒ words (4294967280 ∷ [])
    ∷ call (c_clear 0 0) ⇒ ok
    ∷ call (c_clear 0 2) ⇒ ok
    ∷ call (c_clear 0 3) ⇒ ok
    ∷ start ⇒ ok
    ∷ call (c_check 0) ⇒ ok
    ∷ step ⇒ stepped Moved
    ∷ call (c_check 0) ⇒ ok
    ∷ step ⇒ stepped Moved
    ∷ step ⇒ stepped Traced
    ∷ step ⇒ stepped Moved
    -- "its level 0 becomes the marks": block 1
    ∷ step ⇒ stepped (Swept 0 3)
    ∷ step ⇒ stepped Done
    ∷ bits 0 ⇒ words (4294967282 ∷ [])
    -- a part segment taken, block 0 handed out and then block 2; put back and taken again, block 3
    ∷ call (c_make 0 4 1 511) ⇒ ok
    ∷ call (c_make 0 5 1 511) ⇒ ok
    ∷ look ⇒ seen idle (Held 12 3 0 ∷ []) []
    ∷ bits 0 ⇒ words (4294967282 ∷ [])
    ∷ call (c_attach 1) ⇒ ok
    ∷ call (c_detach 0) ⇒ ok
    ∷ look ⇒ seen idle (Part 12 3 ∷ []) []
    ∷ call (c_make 1 0 1 511) ⇒ ok
    ∷ look ⇒ seen idle (Full 12 ∷ []) []
    ∷ bits 0 ⇒ words (4294967282 ∷ [])
    -- swept to free, no mark: level 0 becomes the marks all the same
    ∷ call (c_clear 1 0) ⇒ ok
    ∷ start ⇒ ok
    ∷ call (c_check 1) ⇒ ok
    ∷ step ⇒ stepped Moved
    ∷ call (c_check 1) ⇒ ok
    ∷ step ⇒ stepped Moved
    ∷ step ⇒ stepped Moved
    ∷ step ⇒ stepped (Swept 0 4)
    ∷ step ⇒ stepped Done
    ∷ look ⇒ seen idle (Free ∷ []) []
    ∷ bits 0 ⇒ words (4294967280 ∷ [])
    -- swept to full, all blocks marked
    ∷ call (c_make 1 0 1 511) ⇒ ok
    ∷ call (c_make 1 1 1 511) ⇒ ok
    ∷ call (c_make 1 2 1 511) ⇒ ok
    ∷ call (c_make 1 3 1 511) ⇒ ok
    ∷ start ⇒ ok
    ∷ call (c_check 1) ⇒ ok
    ∷ step ⇒ stepped Moved
    ∷ call (c_check 1) ⇒ ok
    ∷ step ⇒ stepped Moved
    ∷ step ⇒ stepped Traced
    ∷ step ⇒ stepped Traced
    ∷ step ⇒ stepped Traced
    ∷ step ⇒ stepped Traced
    ∷ step ⇒ stepped Moved
    ∷ step ⇒ stepped (Swept 0 0)
    ∷ step ⇒ stepped Done
    ∷ look ⇒ seen idle (Full 12 ∷ []) []
    ∷ bits 0 ⇒ words (4294967295 ∷ [])
    ∷ []
