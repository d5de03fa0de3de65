-- Document 01, "Refused": each number from 2 to 11, and that "the lowest number that applies is given". One segment of four blocks of class 12.
-- No call gives 12 any more (request No. 1), 13 does not come up here, and 1 is not the model's.
use Rattle.std.specs.Prelude.{true, false, List, [], ◌∷◌}
use Rattle.classes.specs.Record.{of_counts}
use Rattle.theory.specs.Calls.{c_attach, c_detach, c_check, c_leave, c_enter, c_spawn, c_make, c_load, c_store, c_copy, c_clear, c_put, c_get, c_same, c_shape, a_num, a_flag, a_shape}
use Rattle.model_cases.specs.Replies.{Line, ◌⇒◌, opening, start, call, answer, ok, no}

abbrev pub refusals : List Line
refusals =
    opening ⇒ ok
    -- 2, 3 and 4, and a spawn's two numbers
    ∷ call (c_attach 32) ⇒ no 2
    ∷ call (c_check 32) ⇒ no 2
    ∷ call (c_check 0) ⇒ no 4
    ∷ call (c_enter 0) ⇒ no 4
    ∷ call (c_attach 0) ⇒ ok
    ∷ call (c_attach 0) ⇒ no 3
    ∷ call (c_spawn 0 32 0) ⇒ no 2
    ∷ call (c_spawn 0 7 16) ⇒ no 3
    ∷ call (c_spawn 1 7 16) ⇒ no 4
    ∷ call (c_spawn 1 0 16) ⇒ no 6
    -- 5: enter while inside
    ∷ call (c_enter 0) ⇒ no 5
    -- 6 before 7 and before 9
    ∷ call (c_clear 0 16) ⇒ no 6
    ∷ call (c_load 0 16 0 0) ⇒ no 6
    ∷ call (c_store 0 0 0 16) ⇒ no 6
    ∷ call (c_make 0 16 1 4095) ⇒ no 6
    -- 7 and 9
    ∷ call (c_get 0 0 0) ⇒ no 7
    ∷ call (c_shape 0 0) ⇒ no 7
    ∷ call (c_make 0 0 1 4095) ⇒ no 9
    ∷ call (c_make 0 0 4294967295 4294967295) ⇒ no 9
    -- in idle, the segment free: a cycle over nothing begins. From here on the phase is roll 1: "each script call answers what it would answer over
    -- the same heap in idle, save 11"
    ∷ call (c_attach 1) ⇒ ok
    ∷ start ⇒ ok
    -- 8, at the record's ends
    ∷ call (c_make 0 0 2 510) ⇒ ok
    ∷ call (c_shape 0 0) ⇒ answer (a_shape (of_counts 2 510))
    ∷ call (c_load 0 1 0 1) ⇒ ok
    ∷ call (c_load 0 1 0 2) ⇒ no 8
    ∷ call (c_store 0 0 2 0) ⇒ no 8
    ∷ call (c_get 0 0 509) ⇒ answer (a_num 0)
    ∷ call (c_get 0 0 510) ⇒ no 8
    ∷ call (c_put 0 0 510 5) ⇒ no 8
    ∷ call (c_same 0 0 1) ⇒ answer (a_flag false)
    ∷ call (c_same 0 1 2) ⇒ answer (a_flag true)
    ∷ call (c_copy 0 1 0) ⇒ ok
    ∷ call (c_same 0 0 1) ⇒ answer (a_flag true)
    -- 10: another class, and another mutator, while mutator 0 holds the one segment
    ∷ call (c_make 0 1 0 0) ⇒ no 10
    ∷ call (c_make 1 0 2 510) ⇒ no 10
    -- 5: a call by, and a parent, outside
    ∷ call (c_leave 0) ⇒ ok
    ∷ call (c_leave 0) ⇒ no 5
    ∷ call (c_get 0 16 0) ⇒ no 5
    ∷ call (c_spawn 2 0 16) ⇒ no 5
    ∷ call (c_enter 0) ⇒ ok
    -- 11: start outside idle, with a full segment, and who comes and goes in a roll call; 3, 4 and 5 before it
    ∷ call (c_make 0 1 2 510) ⇒ ok
    ∷ call (c_make 0 2 2 510) ⇒ ok
    ∷ call (c_make 0 3 2 510) ⇒ ok
    ∷ call (c_make 0 4 2 510) ⇒ no 10
    ∷ start ⇒ no 11
    ∷ call (c_attach 2) ⇒ no 11
    ∷ call (c_spawn 2 0 0) ⇒ no 11
    ∷ call (c_detach 0) ⇒ no 11
    ∷ call (c_attach 0) ⇒ no 3
    ∷ call (c_detach 2) ⇒ no 4
    ∷ call (c_leave 1) ⇒ ok
    ∷ call (c_detach 1) ⇒ no 5
    ∷ []
