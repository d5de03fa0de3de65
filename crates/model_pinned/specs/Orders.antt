-- Document 01, "Refused": "The lowest number that applies is given." With the refusals and the sides, every call meets every number that it can
-- give, and every two numbers that can apply to it at once, in their order. The order is one definition for the heap and the unbounded heap
-- (`refusal`), so that their agreement says nothing of it. One segment of four blocks of class 12.
use Rattle.std.specs.Prelude.{List, [], ◌∷◌}
use Rattle.theory.specs.Calls.{c_attach, c_detach, c_leave, c_enter, c_spawn, c_make, c_load, c_store, c_copy, c_clear, c_put, c_get, c_same, c_shape}
use Rattle.model.specs.declared.Step.TheVariants.{Waiting}
use Rattle.model_cases.specs.Replies.{Line, ◌⇒◌, opening, start, step, call, stepped, ok, no}

abbrev pub orders : List Line
orders =
    opening ⇒ ok
    -- 4: each call of an absent mutator (check, enter and detach stand among the refusals), before 6 and 9
    ∷ call (c_leave 5) ⇒ no 4
    ∷ call (c_make 5 16 1 4095) ⇒ no 4
    ∷ call (c_make 5 0 1 4095) ⇒ no 4
    ∷ call (c_load 5 16 16 0) ⇒ no 4
    ∷ call (c_store 5 16 0 16) ⇒ no 4
    ∷ call (c_copy 5 16 16) ⇒ no 4
    ∷ call (c_clear 5 16) ⇒ no 4
    ∷ call (c_put 5 16 0 0) ⇒ no 4
    ∷ call (c_get 5 16 0) ⇒ no 4
    ∷ call (c_same 5 16 16) ⇒ no 4
    ∷ call (c_shape 5 16) ⇒ no 4
    -- two records of class 12; "up to 4,095 fields" stands among the long records
    ∷ call (c_attach 0) ⇒ ok
    ∷ call (c_make 0 0 0 1023) ⇒ ok
    ∷ call (c_make 0 1 1 1022) ⇒ ok
    -- 6, alone, and before 8 by a record that the other root names
    ∷ call (c_get 0 16 0) ⇒ no 6
    ∷ call (c_load 0 16 0 0) ⇒ no 6
    ∷ call (c_store 0 0 0 16) ⇒ no 6
    -- a spawn: 2 and 3 before 5 and 6
    ∷ call (c_spawn 1 0 0) ⇒ ok
    ∷ call (c_leave 1) ⇒ ok
    ∷ call (c_spawn 0 1 16) ⇒ no 3
    ∷ call (c_spawn 32 1 16) ⇒ no 2
    -- 5 before 7 and 8
    ∷ call (c_leave 0) ⇒ ok
    ∷ call (c_load 0 1 2 0) ⇒ no 5
    ∷ call (c_load 0 1 0 0) ⇒ no 5
    ∷ call (c_store 0 2 0 1) ⇒ no 5
    ∷ call (c_store 0 0 0 1) ⇒ no 5
    ∷ call (c_put 0 2 0 0) ⇒ no 5
    ∷ call (c_put 0 0 1023 0) ⇒ no 5
    ∷ call (c_get 0 2 0) ⇒ no 5
    ∷ call (c_get 0 0 1023) ⇒ no 5
    -- 2, 4, 5, 6 and 9 before 10, while mutator 0 holds the one segment
    ∷ call (c_make 32 0 0 0) ⇒ no 2
    ∷ call (c_make 5 0 0 0) ⇒ no 4
    ∷ call (c_make 1 0 0 0) ⇒ no 5
    ∷ call (c_enter 1) ⇒ ok
    ∷ call (c_make 1 16 0 0) ⇒ no 6
    ∷ call (c_make 1 0 0 0) ⇒ no 10
    ∷ call (c_make 1 0 1 4095) ⇒ no 9
    -- in a handshake, 11 after every other number (attach's 3, spawn's and detach's 5 stand among the refusals)
    ∷ call (c_attach 2) ⇒ ok
    ∷ call (c_attach 3) ⇒ ok
    ∷ call (c_attach 4) ⇒ ok
    ∷ call (c_attach 31) ⇒ ok
    ∷ start ⇒ ok
    ∷ call (c_attach 32) ⇒ no 2
    ∷ call (c_spawn 32 1 0) ⇒ no 2
    ∷ call (c_spawn 5 32 0) ⇒ no 2
    ∷ call (c_spawn 1 1 0) ⇒ no 3
    ∷ call (c_spawn 5 6 0) ⇒ no 4
    ∷ call (c_spawn 5 1 16) ⇒ no 6
    ∷ call (c_detach 32) ⇒ no 2
    ∷ call (c_detach 5) ⇒ no 4
    -- mutator 0 is outside, and step answers for it; the five inside owe, the last number among them
    ∷ step ⇒ stepped (Waiting 5)
    ∷ []
