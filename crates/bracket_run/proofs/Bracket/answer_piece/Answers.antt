-- `bracket_run::Bracket::answer_piece` meets its contract. The loop's invariant: each byte passed has room for a reply.
use mathlib.Core.Path.{sym, subst}
use mathlib.Core.List.{[]}
use native.Mathlib.Omega.{arith}
use lib.ListN.{take}
use Rattle.bracket_lines.specs.Split.{Splitter}
use Rattle.bracket_run.specs.Printed.{Passed}
use Rattle.bracket_run.specs.Bracket.{state_of, begun_of}
use Rattle.bracket_run.proofs.Replying.{begins, passes}
use Rattle.bracket_run.proofs.Bracket.answer_piece.Goals as goal

pub loop-at-init : goal.loop-at-init
loop-at-init c = (omega arith, omega arith, begins _ _ [])

pub loop-at-preserved : goal.loop-at-preserved
loop-at-preserved c =
    let h = c.hear.ensures in
    let q = passes _ _ _ c.loop-at.at (begun_of c.loop-at.self) c.loop-at.invariant.2 c.next_line-s.ensures h.wrote in
    let z = c.next_line-s.ensures.moves c.loop-at-test.true in
    let k = c.next_line-s.ensures.inside c.loop-at.invariant.0 in
    let after = c.hear.new.self in (
      k,
      omega (arith, h.wrote.short),
      subst
          (λ (x : Splitter). Passed (state_of c.args.self.now) (begun_of c.args.self.now) (take c.next_line-s.result.next c.args.piece.now) x (take after.used after.out) (state_of after))
          (sym h.begun) q,
    )

pub returns-clause-room : goal.returns-clause-room
returns-clause-room c = omega arith
