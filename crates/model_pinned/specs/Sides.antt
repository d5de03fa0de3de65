-- Which number goes before which: each root of each call, and calls by an outside mutator (get, leave and detach stand among the refusals).
use Rattle.std.specs.Prelude.{List, [], ◌∷◌}
use Rattle.theory.specs.Calls.{c_attach, c_detach, c_enter, c_spawn, c_check, c_leave, c_make, c_load, c_store, c_copy, c_clear, c_put, c_get, c_same, c_shape}
use Rattle.model_cases.specs.Replies.{Line, ◌⇒◌, opening, call, ok, no}

abbrev pub sides : List Line
sides =
    opening ⇒ ok
    -- 2: each call but attach and check, and a spawn's new number (those and its parent stand among the refusals)
    ∷ call (c_detach 32) ⇒ no 2
    ∷ call (c_leave 32) ⇒ no 2
    ∷ call (c_enter 32) ⇒ no 2
    ∷ call (c_make 32 16 1 4095) ⇒ no 2
    ∷ call (c_load 32 16 16 0) ⇒ no 2
    ∷ call (c_store 32 16 0 16) ⇒ no 2
    ∷ call (c_copy 32 16 16) ⇒ no 2
    ∷ call (c_clear 32 16) ⇒ no 2
    ∷ call (c_put 32 16 0 0) ⇒ no 2
    ∷ call (c_get 32 16 0) ⇒ no 2
    ∷ call (c_same 32 16 16) ⇒ no 2
    ∷ call (c_shape 32 16) ⇒ no 2
    ∷ call (c_spawn 32 0 16) ⇒ no 2
    -- 4: a spawn of an absent number onto itself
    ∷ call (c_spawn 0 0 16) ⇒ no 4
    ∷ call (c_attach 0) ⇒ ok
    -- a nil root of the parent is fine
    ∷ call (c_spawn 1 0 0) ⇒ ok
    -- 7: nil in the root of load, store and put (get and shape stand among the refusals)
    ∷ call (c_load 0 1 0 0) ⇒ no 7
    ∷ call (c_store 0 0 0 1) ⇒ no 7
    ∷ call (c_put 0 0 0 0) ⇒ no 7
    -- 6: each root of a call
    ∷ call (c_copy 0 16 0) ⇒ no 6
    ∷ call (c_copy 0 0 16) ⇒ no 6
    ∷ call (c_copy 0 1 0) ⇒ ok
    ∷ call (c_clear 0 1) ⇒ ok
    ∷ call (c_same 0 16 0) ⇒ no 6
    ∷ call (c_same 0 0 16) ⇒ no 6
    ∷ call (c_load 0 0 16 0) ⇒ no 6
    ∷ call (c_store 0 16 0 0) ⇒ no 6
    ∷ call (c_put 0 16 0 0) ⇒ no 6
    ∷ call (c_shape 0 16) ⇒ no 6
    -- 5 before 6, 7 and 9: every call by an outside mutator but enter
    ∷ call (c_leave 0) ⇒ ok
    ∷ call (c_check 0) ⇒ no 5
    ∷ call (c_make 0 16 1 4095) ⇒ no 5
    ∷ call (c_load 0 16 16 0) ⇒ no 5
    ∷ call (c_store 0 16 0 16) ⇒ no 5
    ∷ call (c_copy 0 16 16) ⇒ no 5
    ∷ call (c_clear 0 16) ⇒ no 5
    ∷ call (c_put 0 16 0 0) ⇒ no 5
    ∷ call (c_same 0 16 16) ⇒ no 5
    ∷ call (c_shape 0 16) ⇒ no 5
    ∷ call (c_shape 0 0) ⇒ no 5
    ∷ []
