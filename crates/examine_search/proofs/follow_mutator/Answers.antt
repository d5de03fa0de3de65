-- `examine_search::follow_mutator` meets its contract.
use mathlib.Core.Path.{◌∙◌, sym}
use Rattle.layout.specs.Mem.{mem_of}
use Rattle.graph_search.proofs.Walking.{run_still}
use Rattle.examine_search.specs.Scratch.{state_of}
use Rattle.examine_search.proofs.Steps.{came_same}
use native.Mathlib.Omega.{arith}
use Rattle.examine_search.proofs.follow_mutator.Goals as goal

pub returns-then-state-eq-ABSENT : goal.returns-then-state-eq-ABSENT
returns-then-state-eq-ABSENT c = run_still c.requires.1 (λ x q. absurd (q.0 (sym c.state.ensures ∙ c.if-state-eq-ABSENT.true)))

pub follow_run-requires : goal.follow_run-requires
follow_run-requires c = (c.requires.0, c.requires.1, omega (arith, c.requires.2))

pub returns : goal.returns
returns c =
    let a = c.args in
    came_same a.g (mem_of a.g a.mem.now) (state_of a.g a.scratch.now a.top)
    (λ x q. ((λ e. c.if-state-eq-ABSENT.false (c.state.ensures ∙ e)), q)) (λ x q. q.1)
    c.follow_run.result c.follow_run.new.scratch
    c.follow_run.ensures
