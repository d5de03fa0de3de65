-- Cycles over nothing. Request No. 1: "A start in idle with no full segment now opens a cycle over no segments." Request No. 5: it "now needs a start
-- with neither full nor part ones". Records of one pointer and 63 values are of class 9, 32 to a segment, 128 words apart: those of segment 0 are 1,
-- 129, 257 and so on.
use Rattle.std.specs.Prelude.{true, List, [], ◌∷◌, ℕ, eqb}
use Rattle.std.proofs.Math.Option.{Option, none, some}
use Rattle.basics.specs.Pick.{pick}
use Rattle.theory.specs.Phases.{idle, sync1, sync2, mark, sweep}
use Rattle.theory.specs.Calls.{c_attach, c_detach, c_check, c_leave, c_enter, c_make, c_load, c_store, c_clear, c_put, c_get, c_same, a_num, a_flag}
use Rattle.model.specs.declared.Step.TheVariants.{Waiting, Moved, Traced, Swept, Done, Idle}
use Rattle.model.specs.declared.SegmentState.TheVariants.{Free, Part, Held, Full, Condemned}
use Rattle.model.specs.Answers.{refusal_in}
use Rattle.model.specs.Lists.{prepend, struck}
use Rattle.model_cases.specs.Replies.{Line, ◌⇒◌, Input, opening, start, step, look, sheet, counts, call, acknowledgements, marks, entered_in, bits, heap, Reply, answer, seen, words, stepped, ok, no}

-- one segment, no mutator: four steps from the start to done, and a start in each phase
abbrev pub nobody : List Line
nobody =
    opening ⇒ ok
    ∷ look ⇒ seen idle (Free ∷ []) []
    ∷ start ⇒ ok
    ∷ look ⇒ seen sync1 (Free ∷ []) []
    ∷ start ⇒ no 11
    ∷ step ⇒ stepped Moved
    ∷ look ⇒ seen sync2 (Free ∷ []) []
    ∷ start ⇒ no 11
    ∷ step ⇒ stepped Moved
    ∷ look ⇒ seen mark (Free ∷ []) []
    ∷ start ⇒ no 11
    ∷ step ⇒ stepped Moved
    ∷ look ⇒ seen sweep (Free ∷ []) []
    ∷ start ⇒ no 11
    ∷ step ⇒ stepped Done
    ∷ look ⇒ seen idle (Free ∷ []) []
    ∷ step ⇒ stepped Idle
    ∷ start ⇒ ok
    ∷ look ⇒ seen sync1 (Free ∷ []) []
    ∷ []

-- two segments, a mutator inside: it makes, stores and gets in each phase
abbrev pub inside : List Line
inside =
    opening ⇒ ok
    ∷ call (c_attach 0) ⇒ ok
    ∷ call (c_make 0 0 1 63) ⇒ ok
    ∷ call (c_put 0 0 0 5) ⇒ ok
    ∷ call (c_store 0 0 0 0) ⇒ ok
    ∷ call (c_get 0 0 0) ⇒ answer (a_num 5)
    -- a record that is dropped: its block stays in use
    ∷ call (c_make 0 1 1 63) ⇒ ok
    ∷ call (c_clear 0 1) ⇒ ok
    ∷ look ⇒ seen idle (Held 9 2 0 ∷ Free ∷ []) []
    ∷ start ⇒ ok
    ∷ look ⇒ seen sync1 (Held 9 2 0 ∷ Free ∷ []) []
    -- first handshake: before its answer a store enters nothing
    ∷ step ⇒ stepped (Waiting 1)
    ∷ call (c_attach 1) ⇒ no 11
    ∷ call (c_make 0 1 1 63) ⇒ ok
    ∷ call (c_store 0 1 0 0) ⇒ ok
    ∷ call (c_get 0 0 0) ⇒ answer (a_num 5)
    ∷ look ⇒ seen sync1 (Held 9 3 0 ∷ Free ∷ []) []
    ∷ call (c_check 0) ⇒ ok
    ∷ step ⇒ stepped Moved
    -- second handshake: a store enters the new value, and the second answer the roots
    ∷ step ⇒ stepped (Waiting 1)
    ∷ call (c_attach 1) ⇒ no 11
    ∷ call (c_make 0 2 1 63) ⇒ ok
    ∷ call (c_store 0 2 0 1) ⇒ ok
    ∷ call (c_get 0 0 0) ⇒ answer (a_num 5)
    ∷ look ⇒ seen sync2 (Held 9 4 0 ∷ Free ∷ []) (257 ∷ [])
    ∷ call (c_check 0) ⇒ ok
    ∷ look ⇒ seen sync2 (Held 9 4 0 ∷ Free ∷ []) (257 ∷ 1 ∷ 385 ∷ [])
    ∷ step ⇒ stepped Moved
    -- mark: the new record is born marked
    ∷ call (c_attach 1) ⇒ ok
    ∷ call (c_make 0 3 1 63) ⇒ ok
    ∷ call (c_store 0 3 0 2) ⇒ ok
    ∷ call (c_get 0 0 0) ⇒ answer (a_num 5)
    ∷ look ⇒ seen mark (Held 9 5 0 ∷ Free ∷ []) (257 ∷ 1 ∷ 385 ∷ [])
    ∷ step ⇒ stepped Traced
    ∷ step ⇒ stepped Traced
    ∷ step ⇒ stepped Traced
    ∷ look ⇒ seen mark (Held 9 5 0 ∷ Free ∷ []) []
    ∷ step ⇒ stepped Moved
    -- sweep: the first step is done
    ∷ call (c_attach 2) ⇒ ok
    ∷ call (c_make 0 4 1 63) ⇒ ok
    ∷ call (c_store 0 4 0 3) ⇒ ok
    ∷ call (c_get 0 0 0) ⇒ answer (a_num 5)
    ∷ look ⇒ seen sweep (Held 9 6 0 ∷ Free ∷ []) []
    ∷ step ⇒ stepped Done
    ∷ look ⇒ seen idle (Held 9 6 0 ∷ Free ∷ []) []
    ∷ step ⇒ stepped Idle
    -- the next block is the one after the last, and what was stored in mark and in sweep is there
    ∷ call (c_make 0 5 1 63) ⇒ ok
    ∷ call (c_load 0 6 4 0) ⇒ ok
    ∷ call (c_same 0 6 3) ⇒ answer (a_flag true)
    ∷ call (c_load 0 6 3 0) ⇒ ok
    ∷ call (c_same 0 6 2) ⇒ answer (a_flag true)
    ∷ look ⇒ seen idle (Held 9 7 0 ∷ Free ∷ []) []
    -- the next start over nothing clears the marks of this cycle, of blocks 0, 2, 3 and 4, and every acknowledgement
    ∷ marks 0 ⇒ words (29 ∷ [])
    ∷ acknowledgements 3 ⇒ words (2 ∷ 2 ∷ 0 ∷ [])
    ∷ start ⇒ ok
    ∷ marks 0 ⇒ words (0 ∷ [])
    ∷ acknowledgements 3 ⇒ words (0 ∷ 0 ∷ 0 ∷ [])
    ∷ []

-- three segments, two held and one free: a start condemns none of them, nor one that becomes full or part in that cycle; a later one condemns both.
-- Records of one pointer and 511 values are of class 12, four to a segment
abbrev pub unfilled : List Line
unfilled =
    opening ⇒ ok
    ∷ call (c_attach 0) ⇒ ok
    ∷ call (c_make 0 0 1 511) ⇒ ok
    ∷ call (c_attach 1) ⇒ ok
    ∷ call (c_make 1 0 1 63) ⇒ ok
    ∷ look ⇒ seen idle (Held 12 1 0 ∷ Held 9 1 1 ∷ Free ∷ []) []
    ∷ start ⇒ ok
    ∷ look ⇒ seen sync1 (Held 12 1 0 ∷ Held 9 1 1 ∷ Free ∷ []) []
    -- the first handshake: makes, and both mutators go outside
    ∷ call (c_make 0 1 1 511) ⇒ ok
    ∷ call (c_make 0 2 1 511) ⇒ ok
    ∷ call (c_leave 0) ⇒ ok
    ∷ call (c_leave 1) ⇒ ok
    ∷ step ⇒ stepped Moved
    ∷ look ⇒ seen sync2 (Held 12 3 0 ∷ Held 9 1 1 ∷ Free ∷ []) []
    ∷ step ⇒ stepped Moved
    ∷ look ⇒ seen mark (Held 12 3 0 ∷ Held 9 1 1 ∷ Free ∷ []) (1 ∷ 1025 ∷ 2049 ∷ 4097 ∷ [])
    -- in mark one becomes full and one part, and neither is swept in this cycle
    ∷ call (c_enter 0) ⇒ ok
    ∷ call (c_make 0 3 1 511) ⇒ ok
    ∷ call (c_enter 1) ⇒ ok
    ∷ call (c_detach 1) ⇒ ok
    ∷ step ⇒ stepped Traced
    ∷ step ⇒ stepped Traced
    ∷ step ⇒ stepped Traced
    ∷ step ⇒ stepped Traced
    ∷ step ⇒ stepped Moved
    ∷ look ⇒ seen sweep (Full 12 ∷ Part 9 1 ∷ Free ∷ []) []
    ∷ step ⇒ stepped Done
    ∷ look ⇒ seen idle (Full 12 ∷ Part 9 1 ∷ Free ∷ []) []
    -- but in the next, where a record that is dropped is freed, and the one that mutator 1 made
    ∷ call (c_clear 0 0) ⇒ ok
    ∷ start ⇒ ok
    ∷ look ⇒ seen sync1 (Condemned 12 4 ∷ Condemned 9 1 ∷ Free ∷ []) []
    ∷ call (c_leave 0) ⇒ ok
    ∷ step ⇒ stepped Moved
    ∷ step ⇒ stepped Moved
    ∷ step ⇒ stepped Traced
    ∷ step ⇒ stepped Traced
    ∷ step ⇒ stepped Traced
    ∷ step ⇒ stepped Moved
    ∷ step ⇒ stepped (Swept 0 1)
    ∷ step ⇒ stepped (Swept 1 1)
    ∷ step ⇒ stepped Done
    ∷ look ⇒ seen idle (Part 12 0 ∷ Free ∷ Free ∷ []) []
    -- no cycle over nothing: the part segment is condemned with place 0, and its three marked blocks stay in use
    ∷ start ⇒ ok
    ∷ look ⇒ seen sync1 (Condemned 12 0 ∷ Free ∷ Free ∷ []) []
    ∷ step ⇒ stepped Moved
    ∷ step ⇒ stepped Moved
    ∷ step ⇒ stepped Traced
    ∷ step ⇒ stepped Traced
    ∷ step ⇒ stepped Traced
    ∷ step ⇒ stepped Moved
    ∷ step ⇒ stepped (Swept 0 0)
    ∷ step ⇒ stepped Done
    ∷ call (c_enter 0) ⇒ ok
    ∷ call (c_make 0 4 1 511) ⇒ ok
    ∷ look ⇒ seen idle (Full 12 ∷ Free ∷ Free ∷ []) []
    ∷ []

-- ---- "each script call answers what it would answer over the same heap in idle, save 11 in its roll calls"

-- the number of a refusal in a reply
abbrev number_in : Reply → Option ℕ
number_in (answer a) = refusal_in a
number_in (seen p s t) = none
number_in (words ws) = none

-- a line that remains: an opening, or a call that is not refused 11
abbrev line_in_idle : Input → Reply → Option Line
line_in_idle opening r = some (opening ⇒ r)
line_in_idle (call c) r = pick (struck (λ n. eqb n 11) (number_in r)) none (some (call c ⇒ r))
line_in_idle start r = none
line_in_idle step r = none
line_in_idle look r = none
line_in_idle sheet r = none
line_in_idle counts r = none
line_in_idle (acknowledgements n) r = none
line_in_idle (marks s) r = none
line_in_idle (entered_in s) r = none
line_in_idle (bits s) r = none
line_in_idle (heap i n) r = none

-- a case without its other lines: no start, so its phase is idle throughout
abbrev pub in_idle : List Line → List Line
in_idle [] = []
in_idle ((e ⇒ r) ∷ ls) = prepend (line_in_idle e r) (in_idle ls)
