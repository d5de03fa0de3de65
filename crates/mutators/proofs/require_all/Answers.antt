-- `mutators::require_all` meets its contract.
use mathlib.Core.Path.{sym, ◌∙◌}
use Rattle.theory.proofs.Refusals.{root_rest}
use Rattle.mutators.proofs.Inside.{unknown_2, absent_4, outside_5, inside_rest, root_6}
use Rattle.mutators.proofs.require_all.Goals as goal

pub returns-then-k-ge-MUTATORS : goal.returns-then-k-ge-MUTATORS
returns-then-k-ge-MUTATORS c = unknown_2 _ _ _ c.if-k-ge-MUTATORS.true

pub returns-then-state-eq-ABSENT : goal.returns-then-state-eq-ABSENT
returns-then-state-eq-ABSENT c = absent_4 _ _ _ c.if-k-ge-MUTATORS.false (sym c.state-state.ensures ∙ c.if-state-eq-ABSENT.true)

pub returns-then-state-ne-INSIDE : goal.returns-then-state-ne-INSIDE
returns-then-state-ne-INSIDE c = outside_5 _ _ _ c.if-k-ge-MUTATORS.false (λ e. c.if-state-eq-ABSENT.false (c.state-state.ensures ∙ e)) (λ e. c.if-state-ne-INSIDE.true (c.state-state.ensures ∙ e))

pub returns-then-i-ge-ROOTS : goal.returns-then-i-ge-ROOTS
returns-then-i-ge-ROOTS c = root_6 _ _ c.if-i-ge-ROOTS.true ∙ inside_rest _ _ _ c.if-k-ge-MUTATORS.false (sym c.state-state.ensures ∙ c.if-state-ne-INSIDE.false)

pub returns-then-j-ge-ROOTS : goal.returns-then-j-ge-ROOTS
returns-then-j-ge-ROOTS c =
    root_6 _ _ c.if-j-ge-ROOTS.true ∙ root_rest _ _ c.if-i-ge-ROOTS.false ∙ inside_rest _ _ _ c.if-k-ge-MUTATORS.false (sym c.state-state.ensures ∙ c.if-state-ne-INSIDE.false)

pub returns : goal.returns
returns c =
    root_rest _ _ c.if-j-ge-ROOTS.false ∙ root_rest _ _ c.if-i-ge-ROOTS.false ∙ inside_rest _ _ _ c.if-k-ge-MUTATORS.false (sym c.state-state.ensures ∙ c.if-state-ne-INSIDE.false)
