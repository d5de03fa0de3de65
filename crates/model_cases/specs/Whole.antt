-- Document 01, "The bracket program": "Whole case, input left, output right".
use Rattle.std.specs.Prelude.{List, [], ◌∷◌}
use Rattle.theory.specs.Calls.{c_attach, c_check, c_make, c_load, c_store, c_clear, c_put, c_get, a_num}
use Rattle.model.specs.declared.Step.TheVariants.{Waiting, Moved, Traced, Swept, Done}
use Rattle.model_cases.specs.Replies.{Line, ◌⇒◌, opening, start, step, call, answer, stepped, ok}

abbrev pub whole : List Line
whole =
    opening ⇒ ok
    ∷ call (c_attach 0) ⇒ ok
    ∷ call (c_make 0 0 1 600) ⇒ ok
    ∷ call (c_make 0 1 1 600) ⇒ ok
    ∷ call (c_make 0 2 1 600) ⇒ ok
    ∷ call (c_make 0 3 1 600) ⇒ ok
    ∷ call (c_store 0 0 0 1) ⇒ ok
    ∷ call (c_put 0 1 0 77) ⇒ ok
    ∷ call (c_clear 0 1) ⇒ ok
    ∷ call (c_clear 0 2) ⇒ ok
    ∷ start ⇒ ok
    ∷ step ⇒ stepped (Waiting 1)
    ∷ call (c_check 0) ⇒ ok
    ∷ step ⇒ stepped Moved
    ∷ call (c_check 0) ⇒ ok
    ∷ step ⇒ stepped Moved
    ∷ step ⇒ stepped Traced
    ∷ step ⇒ stepped Traced
    ∷ step ⇒ stepped Traced
    ∷ step ⇒ stepped Moved
    ∷ step ⇒ stepped (Swept 0 1)
    ∷ step ⇒ stepped Done
    ∷ call (c_load 0 1 0 0) ⇒ ok
    ∷ call (c_get 0 1 0) ⇒ answer (a_num 77)
    ∷ []
