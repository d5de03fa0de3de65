-- `bracket_run::Bracket::answer_piece` meets its contract. The loop's invariant: each byte passed has room for a reply.
use Prim.Native.Nat.{◌-◌, ◌*◌, ◌≤◌}
use lib.ListN.{length, take}
use Rattle.bracket_run.specs.Printed.{Passed, most_reply}
use Rattle.bracket_run.specs.Bracket.{state_of, begun_of}
use Rattle.bracket_run.proofs.Bracket.answer_piece.Given as goal

abbrev pub invariant-loop-at : goal.invariant-loop-at
invariant-loop-at l =
    (l.at ≤ length l.piece) × (l.self.used ≤ l.at * most_reply)
    × Passed (state_of l.initial.self) (begun_of l.initial.self) (take l.at l.piece) (begun_of l.self) (take l.self.used l.self.out) (state_of l.self)

abbrev pub decreases-loop-at : goal.decreases-loop-at
decreases-loop-at l = length l.piece - l.at
