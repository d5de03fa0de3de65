-- Document 01, "Which shams must be caught?": "An invented freed number: it equals the blocks in use before less those after." A segment of 64 blocks,
-- of which a cycle keeps two, one in each word of level 0, frees 62; the next one of none kept frees 64.
use Rattle.std.specs.Prelude.{List, [], ◌∷◌, ℕ, zero, suc}
use Rattle.theory.specs.Phases.{idle}
use Rattle.theory.specs.Calls.{c_attach, c_check, c_make, c_clear}
use Rattle.model.specs.declared.Step.TheVariants.{Moved, Traced, Swept, Done}
use Rattle.model.specs.declared.SegmentState.TheVariants.{Free, Part, Full}
use Rattle.model_cases.specs.Replies.{Line, ◌⇒◌, opening, start, step, look, call, stepped, seen, ok}

-- a line so many times, and then others
abbrev repeated : ℕ → Line → List Line → List Line
repeated zero l ls = ls
repeated (suc n) l ls = l ∷ repeated n l ls

-- so many records of class 8 that no root names in the end
abbrev dropped : ℕ → List Line → List Line
dropped n ls = repeated n (call (c_make 0 0 0 40) ⇒ ok) ls

-- a start and both handshakes
abbrev to_mark : List Line → List Line
to_mark ls =
    start ⇒ ok
    ∷ call (c_check 0) ⇒ ok
    ∷ step ⇒ stepped Moved
    ∷ call (c_check 0) ⇒ ok
    ∷ step ⇒ stepped Moved
    ∷ ls

abbrev pub freed : List Line
freed =
    opening ⇒ ok
    ∷ call (c_attach 0) ⇒ ok
    ∷ call (c_make 0 1 0 40) ⇒ ok
    ∷ dropped 44
    (call (c_make 0 2 0 40) ⇒ ok
    ∷ dropped 18
    (look ⇒ seen idle (Full 8 ∷ []) []
    ∷ call (c_clear 0 0) ⇒ ok
    ∷ to_mark
    (step ⇒ stepped Traced
    ∷ step ⇒ stepped Traced
    ∷ step ⇒ stepped Moved
    ∷ step ⇒ stepped (Swept 0 62)
    ∷ step ⇒ stepped Done
    ∷ look ⇒ seen idle (Part 8 0 ∷ []) []
    ∷ dropped 62
    (look ⇒ seen idle (Full 8 ∷ []) []
    ∷ call (c_clear 0 0) ⇒ ok
    ∷ call (c_clear 0 1) ⇒ ok
    ∷ call (c_clear 0 2) ⇒ ok
    ∷ to_mark
    (step ⇒ stepped Moved
    ∷ step ⇒ stepped (Swept 0 64)
    ∷ step ⇒ stepped Done
    ∷ look ⇒ seen idle (Free ∷ []) []
    ∷ [])))))
