-- A case's columns without what is struck out: the mutators' calls of its left column that remain, and their answers in its right column.
use Rattle.std.proofs.Math.Option.{Option, none, some, map}
use Rattle.std.specs.Prelude.{List, [], ◌∷◌}
use Rattle.basics.specs.Pick.{pick}
use Rattle.theory.specs.Calls.{Call, Answer, a_ok}
use Rattle.model.specs.Answers.{refusal_in}
use Rattle.model.specs.Lists.{prepend, struck}
use Rattle.guarantee.specs.Demand3.{struck_out}
use Rattle.model_cases.specs.Replies.{Input, opening, start, step, look, sheet, counts, call, acknowledgements, marks, entered_in, bits, heap, Reply, answer, seen, words, Line, ◌⇒◌}

abbrev pub call_in : Input → Option Call
call_in (call c) = some c
call_in opening = none
call_in start = none
call_in step = none
call_in look = none
call_in sheet = none
call_in counts = none
call_in (acknowledgements n) = none
call_in (marks s) = none
call_in (entered_in s) = none
call_in (bits s) = none
call_in (heap i n) = none

-- the answer in a reply to a call
abbrev pub answer_in : Reply → Answer
answer_in (answer a) = a
answer_in (seen p s t) = a_ok
answer_in (words ws) = a_ok

abbrev pub line_remains : Input → Reply → Option (Call × Answer)
line_remains e r = pick (struck struck_out (refusal_in (answer_in r))) none (map (λ c. (c, answer_in r)) (call_in e))

abbrev pub left_column : List Line → List Call
left_column [] = []
left_column ((e ⇒ r) ∷ ls) = prepend (map (λ x. x.0) (line_remains e r)) (left_column ls)

abbrev pub right_column : List Line → List Answer
right_column [] = []
right_column ((e ⇒ r) ∷ ls) = prepend (map (λ x. x.1) (line_remains e r)) (right_column ls)
