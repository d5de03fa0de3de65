-- Document 02, No. 6: "Each class has twice the blocks it has at 16 KiB, so a detach may hand back twelve segments": at 32 KiB a segment of class 14
-- is held after its first make, full after its second, and part after a detach, where at 16 KiB it is full at once and never handed back.
use Rattle.std.specs.Prelude.{◌≡◌, List, [], ◌∷◌}
use Rattle.theory.specs.Phases.{idle}
use Rattle.theory.specs.Calls.{c_attach, c_detach, c_make}
use Rattle.model.specs.declared.SegmentState.TheVariants.{Free, Part, Held, Full}
use Rattle.model_cases.specs.Replies.{Line, ◌⇒◌, opening, look, call, seen, ok, inputs, outputs, replies, sevens, large_geometry}

abbrev pub last_class : List Line
last_class =
    opening ⇒ ok
    ∷ call (c_attach 0) ⇒ ok
    ∷ call (c_attach 1) ⇒ ok
    ∷ call (c_make 0 0 0 2048) ⇒ ok
    ∷ look ⇒ seen idle (Held 14 1 0 ∷ Free ∷ []) []
    ∷ call (c_make 1 0 2048 0) ⇒ ok
    ∷ call (c_make 1 1 0 4095) ⇒ ok
    ∷ look ⇒ seen idle (Held 14 1 0 ∷ Full 14 ∷ []) []
    ∷ call (c_detach 0) ⇒ ok
    ∷ look ⇒ seen idle (Part 14 1 ∷ Full 14 ∷ []) []
    ∷ call (c_make 1 2 0 2048) ⇒ ok
    ∷ look ⇒ seen idle (Full 14 ∷ Full 14 ∷ []) []
    ∷ []

abbrev pub LastClass : Type 0
LastClass = replies (large_geometry 2) (sevens (large_geometry 2)) (inputs last_class) ≡ outputs last_class
